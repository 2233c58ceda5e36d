-- What the code of a move holds: the table and its sizes, what a move gave, and entries that are turned.
use Rattle.std.specs.Prelude.{◌≡◌, List, ℕ, zero, suc, ◌+◌, ◌*◌, ◌^◌, ◌≤◌, ◌<◌, length, get_or, set}
use Rattle.trits.specs.declared.Vector.{Vector}
use Rattle.tables.specs.Monomials.{count_of, index_of}
use Rattle.tables.specs.Words.{entry}
use Rattle.moves.specs.Step.{State}
use Rattle.moves.specs.declared.Moved.{Moved}

-- a table's entry of the product of unknowns b and c
abbrev pub product : List ℕ → ℕ → ℕ → ℕ → Vector
product t n b c = entry t (index_of n b c)

-- the sizes of a table and of the walk's end
pub record Sized (t : List ℕ) (n e : ℕ) : Type 0 where
  pub some : 0 < n
  pub small : n ≤ 20
  pub table : length t ≡ 2 * count_of n
  pub end : e ≤ 3 ^ n

-- a state with what its move gave: slot b, the value and the additions
abbrev pub headed : State → ℕ → Moved → State
headed s b h =
    record {
      place = s.place;
      value = h.value;
      slots = set s.slots b h.slot;
      additions = h.additions;
      found = s.found;
      list = s.list;
    }

-- k entries of a list from a on, each turned into f of it
unfoldable pub turned_in : (ℕ → ℕ) → ℕ → ℕ → List ℕ → List ℕ
turned_in f a zero l = l
turned_in f a (suc k) l = set (turned_in f a k l) (a + k) (f (get_or (turned_in f a k l) (a + k) 0))

-- What the code of a move holds: the sizes of its table and of the walk's end, and what a move gave.
use Rattle.std.specs.Prelude.{◌≡◌, List, ℕ, ◌*◌, ◌^◌, ◌≤◌, ◌<◌, length, set}
use Rattle.moves.specs.declared.Moved.{Moved}
use Rattle.cubic_tables.specs.Order.{cubic_count}
use Rattle.cubic_moves.specs.Step.{State}

-- the sizes of a cubic table and of the walk's end
pub record Sized (t : List ℕ) (n e : ℕ) : Type 0 where
  pub some : 0 < n
  pub small : n ≤ 20
  pub table : length t ≡ 2 * cubic_count n
  pub end : e ≤ 3 ^ n

-- a state with what its move gave: slot b, the value and the additions; and the second slots after it
abbrev pub headed : State → ℕ → Moved → List ℕ → State
headed s b h w =
    record {
      place = s.place;
      value = h.value;
      slots = set s.slots b h.slot;
      seconds = w;
      additions = h.additions;
      found = s.found;
      list = s.list;
    }

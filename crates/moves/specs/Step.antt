-- The state of the walk, and what one place does to it.
use Rattle.std.specs.Prelude.{Bool, true, false, List, [], ◌∷◌, ℕ, ◌+◌, get_or, set}
use Rattle.trits.specs.declared.Vector.{Vector}
use Rattle.trits.specs.Trit.{none}
use Rattle.trits.specs.Words.{add_of, is_zero}
use Rattle.gray.specs.Numbers.{point_of}
use Rattle.walks.specs.Walk.{Walk}

-- the next place to examine; the value at the place before it; the slot of each unknown; the additions done, the zeros found, and the list lent
pub record State : Type 0 where
  pub place : ℕ
  pub value : Vector
  pub slots : List Vector
  pub additions : ℕ
  pub found : ℕ
  pub list : List ℕ

-- slot b is added to the value: one addition
unfoldable pub push : ℕ → State → State
push b s =
    record {
      place = s.place;
      value = add_of s.value (get_or s.slots b none);
      slots = s.slots;
      additions = s.additions + 1;
      found = s.found;
      list = s.list;
    }

-- t is added to slot b: one addition
unfoldable pub lift : ℕ → Vector → State → State
lift b t s =
    record {
      place = s.place;
      value = s.value;
      slots = set s.slots b (add_of (get_or s.slots b none) t);
      additions = s.additions + 1;
      found = s.found;
      list = s.list;
    }

-- slot b is brought up by t, and added to the value
unfoldable pub bump : ℕ → Vector → State → State
bump b t s = push b (lift b t s)

-- the move at a place with these positions, over the table T: none at place 0, no update at a power of three
unfoldable pub move_of : (ℕ → ℕ → Vector) → List ℕ → State → State
move_of T [] s = s
move_of T (b ∷ []) s = push b s
move_of T (b ∷ c ∷ ps) s = bump b (T b c) s

-- how many are found, after a value that is zero or not
abbrev pub found_of : Bool → ℕ → ℕ
found_of true k = k + 1
found_of false k = k

-- the list, after a value that is zero or not: a zero's point x is written at k, the first entry free
abbrev pub list_of : Bool → ℕ → ℕ → List ℕ → List ℕ
list_of true x k l = set l k x
list_of false x k l = l

-- a zero is listed, as f of its place, and the place is passed
unfoldable pub note_by : (ℕ → ℕ) → State → State
note_by f s =
    record {
      place = s.place + 1;
      value = s.value;
      slots = s.slots;
      additions = s.additions;
      found = found_of (is_zero s.value) s.found;
      list = list_of (is_zero s.value) (f s.place) s.found s.list;
    }

-- a zero's point is listed, for n unknowns
abbrev pub note_of : ℕ → State → State
note_of n s = note_by (point_of 3 n) s

-- the walk over the table T, with f of each zero's place listed
abbrev pub walk_by : (ℕ → ℕ) → (ℕ → ℕ → Vector) → Walk State
walk_by f T = record { place = λ s. s.place; move = move_of T; note = note_by f }

-- the walk over n unknowns and the table T
abbrev pub walk_of : ℕ → (ℕ → ℕ → Vector) → Walk State
walk_of n T = walk_by (point_of 3 n) T

-- The state of the cubic walk, and what one place does to it.
use Rattle.std.specs.Prelude.{List, [], ◌∷◌, ℕ, ◌+◌, get_or, set}
use Rattle.trits.specs.declared.Vector.{Vector}
use Rattle.trits.specs.Trit.{none}
use Rattle.trits.specs.Words.{add_of, is_zero}
use Rattle.gray.specs.Numbers.{point_of}
use Rattle.tables.specs.Words.{entry, put_at}
use Rattle.walks.specs.Walk.{Walk}
use Rattle.moves.specs.Step.{found_of, list_of}
use Rattle.cubic_tables.specs.Order.{seat_of}

-- the next place to examine; the value at the place before it; the slot of each unknown; the second slot of each pair, high word
-- then low word; the additions done, the zeros found, and the list lent
pub record State : Type 0 where
  pub place : ℕ
  pub value : Vector
  pub slots : List Vector
  pub seconds : List ℕ
  pub additions : ℕ
  pub found : ℕ
  pub list : List ℕ

-- slot b is added to the value: one addition
unfoldable pub push : ℕ → State → State
push b s =
    record {
      place = s.place;
      value = add_of s.value (get_or s.slots b none);
      slots = s.slots;
      seconds = s.seconds;
      additions = s.additions + 1;
      found = s.found;
      list = s.list;
    }

-- u is added to slot b, and that to the value: two additions
unfoldable pub lift : ℕ → Vector → State → State
lift b u s =
    let v = add_of (get_or s.slots b none) u in
    record {
      place = s.place;
      value = add_of s.value v;
      slots = set s.slots b v;
      seconds = s.seconds;
      additions = s.additions + 1 + 1;
      found = s.found;
      list = s.list;
    }

-- t is added to second slot k, that to slot b, and that to the value: three additions
unfoldable pub bump : ℕ → ℕ → Vector → State → State
bump b k t s =
    let u = add_of (entry s.seconds k) t in
    let v = add_of (get_or s.slots b none) u in
    record {
      place = s.place;
      value = add_of s.value v;
      slots = set s.slots b v;
      seconds = put_at s.seconds k u;
      additions = s.additions + 1 + 1 + 1;
      found = s.found;
      list = s.list;
    }

-- the move at a place with these positions, over the triples T: none at place 0, one addition for each position, at most three
unfoldable pub move_of : (ℕ → ℕ → ℕ → Vector) → List ℕ → State → State
move_of T [] s = s
move_of T (b ∷ []) s = push b s
move_of T (b ∷ c ∷ []) s = lift b (entry s.seconds (seat_of b c)) s
move_of T (b ∷ c ∷ d ∷ ps) s = bump b (seat_of b c) (T b c d) s

-- a zero is listed, as f of its place, and the place is passed
unfoldable pub note_by : (ℕ → ℕ) → State → State
note_by f s =
    record {
      place = s.place + 1;
      value = s.value;
      slots = s.slots;
      seconds = s.seconds;
      additions = s.additions;
      found = found_of (is_zero s.value) s.found;
      list = list_of (is_zero s.value) (f s.place) s.found s.list;
    }

-- inside a block a zero is listed as its place; the block's end turns the places into points
abbrev pub jot_of : State → State
jot_of s = note_by (λ p. p) s

-- the walk over the triples T, with f of each zero's place listed
abbrev pub walk_by : (ℕ → ℕ) → (ℕ → ℕ → ℕ → Vector) → Walk State
walk_by f T = record { place = λ s. s.place; move = move_of T; note = note_by f }

-- the walk over n unknowns and the triples T
abbrev pub walk_of : ℕ → (ℕ → ℕ → ℕ → Vector) → Walk State
walk_of n T = walk_by (point_of 3 n) T

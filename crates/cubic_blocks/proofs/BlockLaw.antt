-- A block of 27 places of the cubic walk, in the code's terms.
use mathlib.Core.Path.{◌≡◌, refl, ap}
use mathlib.Core.List.{List, ◌∷◌}
use Prim.Native.Nat.{ℕ, suc, ◌+◌, ◌-◌, ◌*◌}
use native.Mathlib.Omega.{arith}
use Rattle.trits.specs.declared.Vector.{Vector}
use Rattle.positions.specs.Positions.{reps}
use Rattle.tables.specs.Words.{entry}
use Rattle.walks.specs.Walk.{Walk, turns, block}
use Rattle.cubic_tables.specs.Order.{pair_of}
use Rattle.cubic_moves.specs.Step.{State, bump, move_of, walk_by}
use Rattle.cubic_tables.specs.Order.{key_of}
use Rattle.cubic_tables.specs.Words.{triple_at}
use Rattle.cubic_blocks.specs.Parts.{keys_of, three_of, rows_of, nine_of, legs_of, big_of}

-- the first rows of pairs
pub pair_zero : (n c : ℕ) → pair_of n 0 c ≡ c
unfolding pair_of
pair_zero n c = omega arith

pub pair_one : (n c : ℕ) → pair_of n 1 c ≡ n - 1 + c
unfolding pair_of
pair_one n c = omega arith

pub pair_two : (n c : ℕ) → pair_of n 2 c ≡ 2 * n - 3 + c
unfolding pair_of
pair_two n c = omega arith

-- a block is three of the level below, with two moves between
pub turn3 : {S : Type 0} (W : Walk S) (l : ℕ) (ps : List ℕ) (s : S)
    → block 3 W (suc l) ps s ≡ block 3 W l (l ∷ l ∷ ps) (W.move (l ∷ l ∷ ps) (block 3 W l (l ∷ ps) (W.move (l ∷ ps) (block 3 W l ps s))))
unfolding block turns reps
turn3 W l ps s = refl

module _ (t : List ℕ) (n : ℕ) where
  abbrev W : Walk State
  W = walk_by (λ p. p) (triple_at t n)

  abbrev E : ℕ → Vector
  E = entry t

  pub move_zero : (c d : ℕ) (ps : List ℕ) (s : State) → move_of (triple_at t n) (0 ∷ c ∷ d ∷ ps) s ≡ bump 0 c (E (key_of n 0 + pair_of n c d)) s
  unfolding move_of
  move_zero c d ps s = ap (λ (k : ℕ). bump 0 k (E (key_of n 0 + pair_of n c d)) s) (pair_zero 20 c)

  pub move_one : (c d : ℕ) (ps : List ℕ) (s : State) → move_of (triple_at t n) (1 ∷ c ∷ d ∷ ps) s ≡ bump 1 (19 + c) (E (key_of n 1 + pair_of n c d)) s
  unfolding move_of
  move_one c d ps s = ap (λ (k : ℕ). bump 1 k (E (key_of n 1 + pair_of n c d)) s) (pair_one 20 c)

  pub move_two : (c d : ℕ) (ps : List ℕ) (s : State) → move_of (triple_at t n) (2 ∷ c ∷ d ∷ ps) s ≡ bump 2 (37 + c) (E (key_of n 2 + pair_of n c d)) s
  unfolding move_of
  move_two c d ps s = ap (λ (k : ℕ). bump 2 k (E (key_of n 2 + pair_of n c d)) s) (pair_two 20 c)

  pub three_is : (c d : ℕ) (ps : List ℕ) (s : State) → block 3 W 1 (c ∷ d ∷ ps) s ≡ three_of E (key_of n 0) c (pair_of n c d) s
  unfolding block turns reps three_of
  three_is c d ps s = rw (move_zero c d ps, move_zero 0 c (d ∷ ps), pair_zero n c)

  pub nine_is : (c d : ℕ) (ps : List ℕ) (s : State) → block 3 W 2 (c ∷ d ∷ ps) s ≡ nine_of E (keys_of n) c (pair_of n c d) s
  unfolding nine_of rows_of
  nine_is c d ps s =
      rw (turn3 W 1 (c ∷ d ∷ ps) s, three_is c d ps, move_one c d ps, three_is 1 c (d ∷ ps), move_one 1 c (d ∷ ps), three_is 1 1 (c ∷ d ∷ ps), pair_one n c, pair_one n 1)

  pub big_is : (c d : ℕ) (ps : List ℕ) (s : State) → block 3 W 3 (c ∷ d ∷ ps) s ≡ big_of E (keys_of n) c (pair_of n c d) s
  unfolding legs_of
  big_is c d ps s =
      rw (turn3 W 2 (c ∷ d ∷ ps) s, nine_is c d ps, move_two c d ps, nine_is 2 c (d ∷ ps), move_two 2 c (d ∷ ps), nine_is 2 2 (c ∷ d ∷ ps), pair_two n c, pair_two n 2)

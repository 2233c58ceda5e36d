-- A walk in places 0, 1, 2, ..: at each it moves by the place's positions, and then notes what it found.
use Rattle.std.specs.Prelude.{◌≡◌, Bool, true, false, List, ℕ, zero, suc, ◌-◌}
use Rattle.positions.specs.Positions.{positions, reps}

pub record Walk (S : Type 0) : Type 0 where
  pub place : S → ℕ
  pub move : List ℕ → S → S
  pub note : S → S

-- a move stays, and a note is one place on
pub record Lawful (S : Type 0) (W : Walk S) : Type 0 where
  pub moved : (ps : List ℕ) (s : S) → W.place (W.move ps s) ≡ W.place s
  pub noted : (s : S) → W.place (W.note s) ≡ suc (W.place s)

-- one place
unfoldable pub step_of : {S : Type 0} → ℕ → Walk S → S → S
step_of q W s = W.note (W.move (positions q (W.place s)) s)

-- n places
unfoldable pub iterate : {S : Type 0} → ℕ → Walk S → ℕ → S → S
iterate q W zero s = s
iterate q W (suc n) s = iterate q W n (step_of q W s)

-- a block of q ^ l places, from a place with the positions ps that q ^ l divides, where the walk has moved already:
-- q blocks of the level below, with a move before each but the first
unfoldable pub turns : {S : Type 0} → Walk S → (List ℕ → S → S) → ℕ → ℕ → List ℕ → S → S
turns W inner l zero ps s = inner ps s
turns W inner l (suc d) ps s = inner (reps (suc d) l ps) (W.move (reps (suc d) l ps) (turns W inner l d ps s))

unfoldable pub block : {S : Type 0} → ℕ → Walk S → ℕ → List ℕ → S → S
block q W zero ps s = W.note s
block q W (suc l) ps s = turns W (block q W l) l (q - 1) ps s

-- at most n places, up to a state that halts
unfoldable pub run_of : {S : Type 0} → ℕ → Walk S → (S → Bool) → ℕ → S → S
run_of q W halt zero s = s
run_of q W halt (suc n) s = elim (halt s) [ true ↦ s | false ↦ run_of q W halt n (step_of q W s) ]

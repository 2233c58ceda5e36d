-- One place of the cubic walk: at most three additions, one zero.
use mathlib.Core.Path.{◌≡◌, refl, ap, ◌∙◌}
use mathlib.Core.Bool.{Bool, true, not, ◌&&◌}
use mathlib.Core.List.{List, [], ◌∷◌}
use Prim.Native.Nat.{ℕ, ◌+◌, ◌^◌, ◌≤◌, ◌<◌}
use native.Mathlib.Omega.{arith}
use lib.Dec.{eqb}
use lib.ListN.{length}
use Rattle.trits.specs.declared.Vector.{Vector}
use Rattle.trits.specs.Words.{is_zero}
use Rattle.positions.specs.Positions.{lowest_of, positions}
use Rattle.moves.proofs.MoveLaw.{end_small, first_lt}
use Rattle.moves.proofs.NearLaw.{found_le, list_length}
use Rattle.walks.specs.Walk.{step_of}
use Rattle.walks.proofs.FollowLaw.{Counts}
use Rattle.cubic_moves.specs.Step.{State, push, lift, bump, move_of, note_by, walk_by, walk_of}
use Rattle.cubic_tables.specs.Words.{triple_at}
use Rattle.cubic_moves.specs.Moves.{Sized}
use Rattle.walks.proofs.SearchLaw.{Near}
use Rattle.walks.proofs.WalkedLaw.{Walked, Goes, goes_on}

abbrev pub counts : Counts State
counts = record { additions = λ s. s.additions; found = λ s. s.found; list = λ s. s.list }

-- a state from what the code holds of it
abbrev pub state_by : ℕ → Vector → List Vector → List ℕ → ℕ → ℕ → List ℕ → State
state_by p v w x a f l = record { place = p; value = v; slots = w; seconds = x; additions = a; found = f; list = l }

record Moves (s r : State) : Type 0 where
  place : r.place ≡ s.place
  found : r.found ≡ s.found
  additions : r.additions ≤ s.additions + 3
  list : r.list ≡ s.list

module _ (f : ℕ → ℕ) (T : ℕ → ℕ → ℕ → Vector) where
  move_near : (ps : List ℕ) (s : State) → Moves s (move_of T ps s)
  unfolding move_of bump push lift
  move_near [] s = record { place = refl; found = refl; additions = omega arith; list = refl }
  move_near (b ∷ []) s = record { place = refl; found = refl; additions = omega arith; list = refl }
  move_near (b ∷ c ∷ []) s = record { place = refl; found = refl; additions = omega arith; list = refl }
  move_near (b ∷ c ∷ d ∷ ps) s = record { place = refl; found = refl; additions = omega arith; list = refl }

  pub step_near : (s : State) → Near 3 (walk_by f T) counts 3 s (step_of 3 (walk_by f T) s) 1
  unfolding step_of note_by
  step_near s =
      let m = move_near (positions 3 s.place) s in
      let u = move_of T (positions 3 s.place) s in
      record {
        place = omega (arith, m.place);
        found = omega (arith, m.found, (found_le (is_zero u.value) u.found).0);
        additions = omega (arith, m.additions);
        list = list_length (is_zero u.value) (f u.place) u.found u.list ∙ ap length m.list;
      }

-- nothing found is lost
pub step_more : (f : ℕ → ℕ) (T : ℕ → ℕ → ℕ → Vector) (s : State) → s.found ≤ (step_of 3 (walk_by f T) s).found
unfolding step_of note_by
step_more f T s =
    let u = move_of T (positions 3 s.place) s in
    omega (arith, (move_near f T (positions 3 s.place) s).found, (found_le (is_zero u.value) u.found).1)

-- what a turn of the loop over single places may count on
module _ (t : List ℕ) (n e : ℕ) (z : Sized t n e) where
  pub record Turns (k : ℕ) (s : State) : Type 0 where
    pub goes : Goes 3 (walk_of n (triple_at t n)) counts 3 e k s
    pub low : lowest_of 3 s.place < n
    pub far : s.place < 3 ^ n
    pub count : s.additions + 3 < 2 ^ 64
    pub end : e ≤ 3486784401

  pub turns : (budget left k : ℕ) (s₀ s : State) (b : Bool) → Walked 3 (walk_of n (triple_at t n)) counts 3 e budget left s₀ s → k ≡ length s₀.list
      → b ≡ (not (eqb left 0) && not (eqb s.place e) && not (eqb s.found k)) → b ≡ true → Turns left s
  turns budget left k s₀ s b w h f i =
      let g = goes_on 3 (walk_of n (triple_at t n)) counts 3 e budget left k s₀ s b w h f i in
      let u = end_small n z.small in
      let p : s.place < 3 ^ n = omega (arith, g.place, z.end) in
      record {
        goes = g;
        low = first_lt n s.place z.some p;
        far = p;
        count = omega (arith, w.sound.additions, z.end);
        end = omega (arith, z.end);
      }

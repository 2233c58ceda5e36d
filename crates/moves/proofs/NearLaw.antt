-- How far k places go: each is one place on, finds at most one zero and takes at most two additions.
use mathlib.Core.Path.{◌≡◌, refl, ap, ◌∙◌}
use mathlib.Core.Bool.{Bool, true, false}
use mathlib.Core.List.{List, [], ◌∷◌}
use Prim.Native.Nat.{ℕ, zero, suc, ◌+◌, ◌*◌, ◌≤◌}
use native.Mathlib.Omega.{arith}
use lib.ListN.{length, length-set}
use Rattle.trits.specs.declared.Vector.{Vector}
use Rattle.trits.specs.Words.{is_zero}
use Rattle.positions.specs.Positions.{positions}
use Rattle.gray.specs.Numbers.{point_of}
use Rattle.walks.specs.Walk.{step_of, iterate}
use Rattle.walks.proofs.FollowLaw.{Counts}
use Rattle.walks.proofs.SearchLaw as law
use Rattle.moves.specs.Step.{State, push, lift, bump, move_of, note_by, walk_by, walk_of, found_of, list_of}

-- k places on: each finds at most one zero and takes at most two additions
pub record Near (s r : State) (k : ℕ) : Type 0 where
  pub place : r.place ≡ s.place + k
  pub found : r.found ≤ s.found + k
  pub more : s.found ≤ r.found
  pub additions : r.additions ≤ s.additions + 2 * k
  pub slots : length r.slots ≡ length s.slots
  pub list : length r.list ≡ length s.list

-- the same without a place
record Moved (s r : State) : Type 0 where
  place : r.place ≡ s.place
  found : r.found ≡ s.found
  additions : r.additions ≤ s.additions + 2
  slots : length r.slots ≡ length s.slots
  list : r.list ≡ s.list

pub found_le : (b : Bool) (k : ℕ) → (found_of b k ≤ k + 1) × (k ≤ found_of b k)
found_le true k = (omega arith, omega arith)
found_le false k = (omega arith, omega arith)

pub list_length : (b : Bool) (x k : ℕ) (l : List ℕ) → length (list_of b x k l) ≡ length l
list_length true x k l = length-set l k x
list_length false x k l = refl

module _ (f : ℕ → ℕ) (T : ℕ → ℕ → Vector) where
  move_near : (ps : List ℕ) (s : State) → Moved s (move_of T ps s)
  unfolding move_of bump push lift
  move_near [] s = record { place = refl; found = refl; additions = omega arith; slots = refl; list = refl }
  move_near (b ∷ []) s = record { place = refl; found = refl; additions = omega arith; slots = refl; list = refl }
  move_near (b ∷ c ∷ ps) s = record { place = refl; found = refl; additions = omega arith; slots = length-set s.slots b _; list = refl }

  pub step_near : (s : State) → Near s (step_of 3 (walk_by f T) s) 1
  unfolding step_of note_by
  step_near s =
      let m = move_near (positions 3 s.place) s in
      let u = move_of T (positions 3 s.place) s in
      let g = found_le (is_zero u.value) u.found in
      record {
        place = omega (arith, m.place);
        found = omega (arith, m.found, g);
        more = omega (arith, m.found, g);
        additions = m.additions;
        slots = m.slots;
        list = list_length (is_zero u.value) (f u.place) u.found u.list ∙ ap length m.list;
      }

  pub iterate_near : (k : ℕ) (s : State) → Near s (iterate 3 (walk_by f T) k s) k
  unfolding iterate
  iterate_near zero s = record { place = omega arith; found = omega arith; more = omega arith; additions = omega arith; slots = refl; list = refl }
  iterate_near (suc k) s =
      let m = step_near s in
      let r = iterate_near k (step_of 3 (walk_by f T) s) in
      record {
        place = omega (arith, m.place, r.place);
        found = omega (arith, m.found, r.found);
        more = omega (arith, m.more, r.more);
        additions = omega (arith, m.additions, r.additions);
        slots = r.slots ∙ m.slots;
        list = r.list ∙ m.list;
      }

-- the walk as one that keeps counts, with at most two additions at a place
abbrev pub counts : Counts State
counts = record { additions = λ s. s.additions; found = λ s. s.found; list = λ s. s.list }

module _ (n : ℕ) (T : ℕ → ℕ → Vector) where
  pub near : (s : State) → law.Near 3 (walk_of n T) counts 2 s (step_of 3 (walk_of n T) s) 1
  near s = let m = step_near (point_of 3 n) T s in record { place = m.place; found = m.found; additions = m.additions; list = m.list }

-- Places one by one, then blocks, then places one by one are a search.
use mathlib.Core.Path.{◌≡◌, ap, ◌∙◌}
use Prim.Native.Nat.{ℕ, ◌-◌, ◌≤◌}
use native.Mathlib.Omega.{arith}
use Rattle.trits.specs.declared.Vector.{Vector}
use Rattle.walks.specs.Walk.{run_of}
use Rattle.walks.proofs.SearchLaw as law
use Rattle.moves.specs.Step.{State, walk_of}
use Rattle.moves.proofs.NearLaw.{counts, near}
use Rattle.walk.specs.Run.{halt_of}

module _ (n : ℕ) (T : ℕ → ℕ → Vector) where
  -- places one by one to a, blocks to b, places one by one to r: a search
  pub joined : (e budget first : ℕ) (s a b r : State) → first ≤ budget → s.place ≤ a.place → a.place ≤ b.place
      → a ≡ run_of 3 (walk_of n T) (halt_of e) first s
      → run_of 3 (walk_of n T) (halt_of e) (budget - (a.place - s.place) - (b.place - a.place)) b ≡ run_of 3 (walk_of n T) (halt_of e) (budget - (a.place - s.place)) a
      → r ≡ run_of 3 (walk_of n T) (halt_of e) (budget - (b.place - s.place)) b
      → r ≡ run_of 3 (walk_of n T) (halt_of e) budget s
  joined e budget first s a b r h i j p q o =
      let k : budget - (b.place - s.place) ≡ budget - (a.place - s.place) - (b.place - a.place) = omega arith in
      o ∙ ap (λ (x : ℕ). run_of 3 (walk_of n T) (halt_of e) x b) k ∙ q
      ∙ ap (λ (x : State). run_of 3 (walk_of n T) (halt_of e) (budget - (x.place - s.place)) x) p ∙ law.resume 3 (walk_of n T) counts 2 (near n T) e first budget s h

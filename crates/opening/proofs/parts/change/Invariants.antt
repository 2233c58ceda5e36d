use mathlib.Core.Path.{◌≡◌}
use Prim.Native.Nat.{ℕ, ◌-◌, ◌≤◌, ◌<◌}
use lib.ListN.{get_or}
use Rattle.tables.specs.Words.{Table}
use Rattle.opening.proofs.ChangeLaw.{Sofar}
use Rattle.opening.proofs.parts.change.Given as goal

abbrev pub invariant-loop-i : goal.invariant-loop-i
invariant-loop-i l =
    (l.b - 1 ≤ l.i) × ((m : ℕ) (p : ℕ → ℕ) (w : Table l.n m l.c) → ((k : ℕ) → k < l.b - 1 → p k ≡ 0) → ((k : ℕ) → l.b - 1 ≤ k → k < l.n → get_or l.x k 0 ≡ p k) → Sofar l.n m l.c w l.b p l.i l.v)

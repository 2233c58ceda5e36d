-- `weights::more` meets its contract.
use mathlib.Core.Path.{◌≡◌, refl}
use Prim.Native.Nat.{ℕ}
use native.Mathlib.Omega.{arith}
use Rattle.trits.proofs.HoldLaw.{holds_add, holds_times}
use Rattle.weights.proofs.more.Goals as goal

pub vector-requires : goal.vector-requires
vector-requires c = c.requires c.if-there.true

pub returns-then-there : goal.returns-then-there
returns-then-there c = (λ m f h v e k. holds_add c.add.ensures v (holds_times c.times.ensures (rw c.vector.ensures k)), λ e. absurd (let z : ◌≡◌ {A = ℕ} 0 1 = cc c.if-there.true in omega arith))

pub returns : goal.returns
returns c = (λ m f h v e k. absurd (let z : ◌≡◌ {A = ℕ} 0 1 = cc c.if-there.false in omega arith), λ e. refl)

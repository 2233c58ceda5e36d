-- `seconds::seconds_at` meets its contract. The loop's invariant: the second slots of the pairs whose first unknown is below b are filled, and power is
-- 3 to the b.
use mathlib.Core.Path.{◌≡◌, ap, ◌∙◌}
use Prim.Native.Nat.{ℕ, ◌*◌}
use native.Mathlib.Omega.{arith}
use Rattle.seconds.proofs.CountedLaw.{power_next, power_small}
use Rattle.seconds.proofs.FilledLaw.{filled_none, filled_row, filled_whole}
use Rattle.seconds.proofs.seconds_at.Goals as goal

pub loop-b-init : goal.loop-b-init
loop-b-init c = (omega arith, filled_none _ _ _)

pub overflow_mul-power : goal.overflow_mul-power
overflow_mul-power c =
    let l = c.loop-b in
    let s = power_small l.b (omega arith) in
    omega arith

pub loop-b-preserved : goal.loop-b-preserved
loop-b-preserved c =
    let l = c.loop-b in
    (ap (λ (x : ℕ). x * 3) l.invariant.0 ∙ power_next l.b, filled_row _ _ _ l.b _ (c.row.ensures l.invariant.1))

pub returns : goal.returns
returns c =
    let l = c.loop-b in
    let a = c.args in
    let e : l.b ≡ a.n = omega arith in
    filled_whole _ _ _ _ (rw e at l.invariant.1)

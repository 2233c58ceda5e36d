-- `cubic_slots::slots_at` meets its contract. The loop's invariant: the slots below b are filled, and power is 3 to the b.
use mathlib.Core.Path.{ap, ◌∙◌}
use Prim.Native.Nat.{ℕ, ◌*◌}
use native.Mathlib.Omega.{arith}
use Rattle.seconds.proofs.CountedLaw.{power_next, power_small}
use Rattle.cubic_slots.proofs.SlotLaw.{filled_none, filled_next, filled_whole}
use Rattle.cubic_slots.proofs.slots_at.Goals as goal

pub overflow_mul-power : goal.overflow_mul-power
overflow_mul-power c =
    let l = c.loop-b in
    let s = power_small l.b (omega arith) in
    omega arith

pub loop-b-preserved : goal.loop-b-preserved
loop-b-preserved c =
    let a = c.args in
    let l = c.loop-b in
    (ap (λ (x : ℕ). x * 3) l.invariant.0 ∙ power_next l.b, filled_next a.n a.table.now a.q l.b l.s c.slot.result (omega arith) c.slot.ensures l.invariant.1)

pub returns : goal.returns
returns c =
    let a = c.args in
    let l = c.loop-b in
    filled_whole a.n a.table.now a.q l.b l.s (omega arith) l.invariant.1

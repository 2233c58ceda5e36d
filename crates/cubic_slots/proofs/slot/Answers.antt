-- `cubic_slots::slot` meets its contract.
use mathlib.Core.Path.{◌≡◌, ap, ap₂, ◌∙◌}
use Prim.Native.Nat.{ℕ, ◌+◌, ◌-◌, ◌*◌, ◌/◌, ◌^◌}
use native.Mathlib.Nat.{div-le_self, one-le-pow}
use native.Mathlib.Omega.{arith}
use Rattle.seconds.proofs.CountedLaw.{power_next, power_small}
use Rattle.cubic_slots.proofs.SlotLaw.{slot_whole}
use Rattle.cubic_slots.proofs.slot.Goals as goal

pub nonzero_div-k : goal.nonzero_div-k
nonzero_div-k c = omega (arith, one-le-pow c.args.b 3 (omega arith))

pub overflow_add-k : goal.overflow_add-k
overflow_add-k c =
    let a = c.args in
    let s = power_small a.n (omega arith) in
    omega (arith, div-le_self c.saturating_sub-rest.result a.power)

pub overflow_mul-up : goal.overflow_mul-up
overflow_mul-up c =
    let a = c.args in
    let s = power_small a.b (omega arith) in
    omega arith

pub twice-first-requires : goal.twice-first-requires
twice-first-requires c =
    let a = c.args in
    let p = c.requires in
    let s = power_small a.n (omega arith) in
    let l = div-le_self c.saturating_sub-rest.result a.power in
    (p.0, p.1, p.3, ap (λ (x : ℕ). x * 3) p.4 ∙ power_next a.b, omega arith)

pub returns : goal.returns
returns c =
    let a = c.args in
    let p = c.requires in
    let r : c.saturating_sub-rest.result ≡ a.q - 3 ^ a.b = c.saturating_sub-rest.ensures ∙ ap (λ (x : ℕ). a.q - x) p.4 in
    λ m w. slot_whole a.n m a.table.now a.b a.q p.1 p.2
    (c.rows.ensures m a.q w r (c.twice-first.ensures m a.q w (ap₂ (λ (x y : ℕ). (x / y + 2) / 3) r p.4)))

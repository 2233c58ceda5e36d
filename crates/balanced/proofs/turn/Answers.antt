-- `balanced::turn` meets its contract: the number so far is that of the digits read so far.
use mathlib.Core.Path.{◌≡◌, sym, ap, ◌∙◌}
use Prim.Native.Nat.{ℕ, ◌+◌, ◌-◌, ◌/◌, ◌^◌, ◌≤◌, ◌<◌}
use native.Mathlib.Omega.{arith}
use Rattle.balanced.specs.Balanced.{turned}
use Rattle.gray.proofs.TurnLaw.{power_above, weight_next, part_next}
use Rattle.balanced.proofs.TurnLaw.{turned_turn, turned_small, turned_none}
use Rattle.balanced.proofs.turn.Goals as goal

none : (n : ℕ) → n ≡ n - 0
none n = omega arith

pub loop-init : goal.loop-init
loop-init c = (c.power-weight.ensures.0 (omega arith) ∙ ap (λ (k : ℕ). 3 ^ k) (none c.args.n), sym (turned_none _ _))

pub overflow_mul-number : goal.overflow_mul-number
overflow_mul-number c =
    let l = c.loop in
    let a = c.args in
    let h : l.counter ≤ 20 = omega arith in
    omega (arith, l.invariant.1, turned_small a.a l.counter (a.x / l.weight) h)

pub nonzero_div-number : goal.nonzero_div-number
nonzero_div-number c =
    let l = c.loop in
    let n = c.args.n in
    let b : l.counter < n = omega arith in
    omega (arith, weight_next n l.counter l.weight b l.invariant.0, power_above (n - (l.counter + 1)))

pub overflow_add-number-in-loop : goal.overflow_add-number-in-loop
overflow_add-number-in-loop c =
    let l = c.loop in
    let a = c.args in
    let h : l.counter ≤ 20 = omega arith in
    omega (arith, l.invariant.1, turned_small a.a l.counter (a.x / l.weight) h)

pub loop-preserved : goal.loop-preserved
loop-preserved c =
    let l = c.loop in
    let a = c.args in
    let b : l.counter < a.n = omega arith in
    let e : a.x / (l.weight / 3) / 3 ≡ a.x / l.weight = part_next a.n l.counter l.weight a.x b l.invariant.0 in (
      weight_next a.n l.counter l.weight b l.invariant.0,
      turned_turn a.a l.counter (a.x / (l.weight / 3)) l.number (l.invariant.1 ∙ ap (turned a.a l.counter) (sym e)),
    )

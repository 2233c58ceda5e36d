-- `gray::map::place_at` meets its contract: the place so far is that of the digits read so far.
use mathlib.Core.Path.{◌≡◌, sym, ap, ◌∙◌}
use Prim.Native.Nat.{ℕ, ◌+◌, ◌-◌, ◌/◌, ◌^◌, ◌≤◌, ◌<◌}
use native.Mathlib.Omega.{arith}
use Rattle.gray.specs.Numbers.{place_of}
use Rattle.gray.proofs.TurnLaw.{power_above, weight_next, part_next, place_turn, place_small, place_none}
use Rattle.gray.proofs.map.place_at.Goals as goal

none : (n : ℕ) → n ≡ n - 0
none n = omega arith

pub loop-init : goal.loop-init
loop-init c = (c.power-weight.ensures.0 (omega arith) ∙ ap (λ (k : ℕ). 3 ^ k) (none c.args.n), sym (place_none _))

pub overflow_mul-place : goal.overflow_mul-place
overflow_mul-place c =
    let l = c.loop in
    let h : l.counter ≤ 20 = omega arith in
    omega (arith, l.invariant.1, place_small l.counter (c.args.x.0 / l.weight) h)

pub nonzero_div-place : goal.nonzero_div-place
nonzero_div-place c =
    let l = c.loop in
    let n = c.args.n in
    let b : l.counter < n = omega arith in
    omega (arith, weight_next n l.counter l.weight b l.invariant.0, power_above (n - (l.counter + 1)))

pub overflow_add-place : goal.overflow_add-place
overflow_add-place c =
    let l = c.loop in
    let h : l.counter ≤ 20 = omega arith in
    omega (arith, l.invariant.1, place_small l.counter (c.args.x.0 / l.weight) h)

pub overflow_add-place-in-loop : goal.overflow_add-place-in-loop
overflow_add-place-in-loop c =
    let l = c.loop in
    let h : l.counter ≤ 20 = omega arith in
    omega (arith, l.invariant.1, place_small l.counter (c.args.x.0 / l.weight) h)

pub loop-preserved : goal.loop-preserved
loop-preserved c =
    let l = c.loop in
    let n = c.args.n in
    let x = c.args.x.0 in
    let b : l.counter < n = omega arith in
    let e : x / (l.weight / 3) / 3 ≡ x / l.weight = part_next n l.counter l.weight x b l.invariant.0 in (
      weight_next n l.counter l.weight b l.invariant.0,
      place_turn l.counter (x / (l.weight / 3)) l.place (l.invariant.1 ∙ ap (place_of 3 l.counter) (sym e)),
    )

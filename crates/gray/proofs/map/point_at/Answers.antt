-- `gray::map::point_at` meets its contract: what is done and what remains make up the point.
use mathlib.Core.Path.{◌≡◌, sym, ap, ◌∙◌}
use Prim.Native.Nat.{ℕ, ◌+◌, ◌-◌, ◌*◌, ◌/◌, ◌%◌, ◌^◌, ◌<◌}
use native.Mathlib.Nat.{pow-suc}
use native.Mathlib.Numerals.{add-one}
use native.Mathlib.Omega.{arith}
use Rattle.gray.proofs.TurnLaw.{power_small, point_turn, point_done, digit_small}
use Rattle.gray.proofs.map.point_at.Goals as goal

whole : (x : ℕ) → 0 + 1 * x ≡ x
whole x = omega arith

none : (n : ℕ) → n - 0 ≡ n
none n = omega arith

pub overflow_mul-point : goal.overflow_mul-point
overflow_mul-point c =
    let l = c.loop in
    let d : (l.rest % 3 + 3 - l.rest / 3 % 3) % 3 < 3 = omega arith in
    omega (arith, power_small l.counter (omega arith), digit_small l.point l.weight ((l.rest % 3 + 3 - l.rest / 3 % 3) % 3) l.invariant.1 d)

pub overflow_add-point : goal.overflow_add-point
overflow_add-point c =
    let l = c.loop in
    let d : (l.rest % 3 + 3 - l.rest / 3 % 3) % 3 < 3 = omega arith in
    omega (arith, power_small l.counter (omega arith), digit_small l.point l.weight ((l.rest % 3 + 3 - l.rest / 3 % 3) % 3) l.invariant.1 d)

pub overflow_mul-weight : goal.overflow_mul-weight
overflow_mul-weight c =
    let l = c.loop in
    omega (arith, power_small l.counter (omega arith))

pub loop-preserved : goal.loop-preserved
loop-preserved c =
    let l = c.loop in
    let n = c.args.n in
    let b : l.counter < n = omega arith in
    let d : (l.rest % 3 + 3 - l.rest / 3 % 3) % 3 < 3 = omega arith in
    let w : l.weight * 3 ≡ 3 ^ (l.counter + 1) = ap (λ (k : ℕ). k * 3) l.invariant.0 ∙ sym (pow-suc 3 l.counter) ∙ ap (λ (k : ℕ). 3 ^ k) (sym (add-one l.counter)) in (
      w,
      digit_small l.point l.weight ((l.rest % 3 + 3 - l.rest / 3 % 3) % 3) l.invariant.1 d,
      sym (point_turn l.point l.weight n l.counter l.rest b) ∙ l.invariant.2,
    )

pub returns : goal.returns
returns c =
    let l = c.loop in
    let n = c.args.n in
    sym (point_done l.point l.weight n l.counter l.rest (omega arith)) ∙ l.invariant.2

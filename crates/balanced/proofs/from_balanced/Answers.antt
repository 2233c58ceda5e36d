-- `balanced::from_balanced` meets its contract: raised by the upper end the number is a natural one, turned by two.
use Rattle.std.specs.Prelude.{Err}
use Rattle.balanced.proofs.BalancedLaw.{half_is}
use Rattle.balanced.proofs.SignLaw.{low_test, high_test, sum_fits, sum_cast, sum_number}
use mathlib.Core.Path.{◌≡◌, refl, ap, ◌∙◌}
use mathlib.Core.Bool.{true, false}
use Prim.Native.Nat.{ℕ, ◌-◌, ◌/◌, ◌^◌, ◌≤◌}
use native.Mathlib.Omega.{arith}
use lib.IntN.{ℤ, pos, ◌-ℤ◌, +ℤ_idr}
use Rattle.refusals.specs.declared.Refusal.TheVariants.{Range}
use Rattle.balanced.specs.Balanced.{half_of, turned, unbalanced_of}
use Rattle.gray.proofs.TurnLaw.{power_small, power_above}
use Rattle.refusals.specs.Refusal.{done}
use Rattle.gray.proofs.AnswerLaw.{point_meets}
use Rattle.balanced.proofs.AnswerLaw.{ends_low, ends_high, ends_so}
use Rattle.balanced.proofs.SignLaw.{raised}
use borrow.Author.Tests.{not-false}
use Rattle.balanced.proofs.from_balanced.Goals as goal

-- the upper end, as the code has it
half : (n w : ℕ) (H : ℤ) → n ≤ 20 → w ≡ 3 ^ n → H ≡ pos ((w - 1) / 2) -ℤ pos 0 → (half_of n ≤ 4294967296) × (H ≡ pos (half_of n))
half n w H k e f =
    let h = half_is n w e in
    (omega (arith, power_small n k), f ∙ +ℤ_idr (pos ((w - 1) / 2)) ∙ ap pos h)

pub overflow_sub-power : goal.overflow_sub-power
overflow_sub-power c =
    let n = c.args.n in
    let w = c.unknowns_fit.ensures.0 (not-false _ c.if-not-unknowns_fit.false-raw) in
    let e = c.power.ensures.0 (omega (arith, w.most)) in
    omega (arith, power_above n)

pub minus-half-requires : goal.minus-half-requires
minus-half-requires c =
    let n = c.args.n in
    let w = c.unknowns_fit.ensures.0 (not-false _ c.if-not-unknowns_fit.false-raw) in
    let e = c.power.ensures.0 (omega (arith, w.most)) in
    (omega (arith, power_small n w.most), omega arith)

pub returns-then-y-half : goal.returns-then-y-half
returns-then-y-half c =
    let a = c.args in
    let f = c.ranges.y in
    let w = c.unknowns_fit.ensures.0 (not-false _ c.if-not-unknowns_fit.false-raw) in
    let g = half a.n _ _ w.most (c.power.ensures.0 (omega (arith, w.most))) c.minus-half.ensures in
    let t = low_test a.y _ (half_of a.n) f g.0 g.1 true c.if-y-half.true in
    let all = point_meets (Err Range) _ _ _ (ends_low a.n a.y w t) refl in record { answer = all.0; number = all.1 }

pub returns-then-y-half-2 : goal.returns-then-y-half-2
returns-then-y-half-2 c =
    let a = c.args in
    let f = c.ranges.y in
    let w = c.unknowns_fit.ensures.0 (not-false _ c.if-not-unknowns_fit.false-raw) in
    let g = half a.n _ _ w.most (c.power.ensures.0 (omega (arith, w.most))) c.minus-half.ensures in
    let t = low_test a.y _ (half_of a.n) f g.0 g.1 false c.if-y-half.false in
    let u = high_test a.y _ (half_of a.n) f g.0 g.1 true c.if-y-half-2.true in
    let all = point_meets (Err Range) _ _ _ (ends_high a.n a.y w t u) refl in record { answer = all.0; number = all.1 }

pub overflow_add-raised : goal.overflow_add-raised
overflow_add-raised c =
    let a = c.args in
    let f = c.ranges.y in
    let w = c.unknowns_fit.ensures.0 (not-false _ c.if-not-unknowns_fit.false-raw) in
    let g = half a.n _ _ w.most (c.power.ensures.0 (omega (arith, w.most))) c.minus-half.ensures in
    let t = low_test a.y _ (half_of a.n) f g.0 g.1 false c.if-y-half.false in
    let u = high_test a.y _ (half_of a.n) f g.0 g.1 false c.if-y-half-2.false in
    sum_fits a.y _ (half_of a.n) f g.0 g.1 (raised a.y (half_of a.n) t u)

pub overflow_cast-raised : goal.overflow_cast-raised
overflow_cast-raised c =
    let a = c.args in
    let f = c.ranges.y in
    let w = c.unknowns_fit.ensures.0 (not-false _ c.if-not-unknowns_fit.false-raw) in
    let g = half a.n _ _ w.most (c.power.ensures.0 (omega (arith, w.most))) c.minus-half.ensures in
    let t = low_test a.y _ (half_of a.n) f g.0 g.1 false c.if-y-half.false in
    let u = high_test a.y _ (half_of a.n) f g.0 g.1 false c.if-y-half-2.false in
    sum_cast a.y _ (half_of a.n) f g.0 g.1 (raised a.y (half_of a.n) t u)

pub returns : goal.returns
unfolding unbalanced_of
returns c =
    let a = c.args in
    let f = c.ranges.y in
    let w = c.unknowns_fit.ensures.0 (not-false _ c.if-not-unknowns_fit.false-raw) in
    let g = half a.n _ _ w.most (c.power.ensures.0 (omega (arith, w.most))) c.minus-half.ensures in
    let t = low_test a.y _ (half_of a.n) f g.0 g.1 false c.if-y-half.false in
    let u = high_test a.y _ (half_of a.n) f g.0 g.1 false c.if-y-half-2.false in
    let s = sum_number a.y _ (half_of a.n) f g.0 g.1 (raised a.y (half_of a.n) t u) in
    let all = point_meets done _ _ _ (ends_so a.n a.y w t u) (c.turn.ensures ∙ ap (turned 2 a.n) s) in record { answer = all.0; number = all.1 }

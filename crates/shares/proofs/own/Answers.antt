-- `shares::own` meets its contract: modulo 3 a number may be taken for its remainder.
use mathlib.Core.Path.{ap}
use Prim.Native.Nat.{◌+◌, ◌*◌, ◌/◌, ◌%◌, ◌≤◌}
use native.Mathlib.Nat.{mul-le-mul_right}
use native.Mathlib.Numerals.{add-one}
use native.Mathlib.Omega.{arith}
use Rattle.residues.proofs.ModLaw.{crefl, cof, ◌⨾◌, cadd, cmul}
use Rattle.held.specs.Thirds.{low_sum}
use Rattle.shares.proofs.ShareLaw.{lows_is}
use Rattle.shares.proofs.own.Goals as goal

pub overflow_mul-lows-3 : goal.overflow_mul-lows-3
overflow_mul-lows-3 c =
    let y = c.args.y in
    let one : (y / 3 % 3 + 1) / 2 ≤ 1 = omega arith in
    let p = mul-le-mul_right (2 * (y / 3 / 3 % 3)) one in
    omega arith

pub overflow_add-lows-2 : goal.overflow_add-lows-2
overflow_add-lows-2 c =
    let y = c.args.y in
    let one : (y / 3 % 3 + 1) / 2 ≤ 1 = omega arith in
    let p = mul-le-mul_right (2 * (y / 3 / 3 % 3)) one in
    omega arith

pub overflow_add-lows-3 : goal.overflow_add-lows-3
overflow_add-lows-3 c =
    let y = c.args.y in
    let one : (y / 3 % 3 + 1) / 2 ≤ 1 = omega arith in
    let p = mul-le-mul_right (2 * (y / 3 / 3 % 3)) one in
    omega arith

pub overflow_mul-result : goal.overflow_mul-result
overflow_mul-result c =
    let y = c.args.y in
    let one : (y / 3 % 3 + 1) / 2 ≤ 1 = omega arith in
    let p = mul-le-mul_right (2 * (y / 3 / 3 % 3)) one in
    let two : (y % 3 + 1) / 2 ≤ 1 = omega arith in
    let q = mul-le-mul_right c.low_sum.result two in
    let l = c.low_sum.ensures.1 in
    omega arith

pub overflow_mul-result-2 : goal.overflow_mul-result-2
overflow_mul-result-2 c =
    let y = c.args.y in
    let one : (y / 3 % 3 + 1) / 2 ≤ 1 = omega arith in
    let p = mul-le-mul_right (2 * (y / 3 / 3 % 3)) one in
    let two : (y % 3 + 1) / 2 ≤ 1 = omega arith in
    let q = mul-le-mul_right c.low_sum.result two in
    let l = c.low_sum.ensures.1 in
    let three : y % 3 / 2 ≤ 1 = omega arith in
    let r = mul-le-mul_right c.low_sum-2.result three in
    let k = c.low_sum-2.ensures.1 in
    omega arith

pub overflow_add-result-2 : goal.overflow_add-result-2
overflow_add-result-2 c =
    let y = c.args.y in
    let one : (y / 3 % 3 + 1) / 2 ≤ 1 = omega arith in
    let p = mul-le-mul_right (2 * (y / 3 / 3 % 3)) one in
    let two : (y % 3 + 1) / 2 ≤ 1 = omega arith in
    let q = mul-le-mul_right c.low_sum.result two in
    let l = c.low_sum.ensures.1 in
    let three : y % 3 / 2 ≤ 1 = omega arith in
    let r = mul-le-mul_right c.low_sum-2.result three in
    let k = c.low_sum-2.ensures.1 in
    omega arith

pub overflow_add-result-3 : goal.overflow_add-result-3
overflow_add-result-3 c =
    let y = c.args.y in
    let one : (y / 3 % 3 + 1) / 2 ≤ 1 = omega arith in
    let p = mul-le-mul_right (2 * (y / 3 / 3 % 3)) one in
    let two : (y % 3 + 1) / 2 ≤ 1 = omega arith in
    let q = mul-le-mul_right c.low_sum.result two in
    let l = c.low_sum.ensures.1 in
    let three : y % 3 / 2 ≤ 1 = omega arith in
    let r = mul-le-mul_right c.low_sum-2.result three in
    let k = c.low_sum-2.ensures.1 in
    omega arith

pub returns : goal.returns
returns c =
    let y = c.args.y in (
      c.weigh-w.ensures.1,
      cadd (lows_is (y / 3)) (cadd (cmul (crefl ((y % 3 + 1) / 2)) c.low_sum.ensures.0) (cmul (crefl (y % 3 / 2)) (c.low_sum-2.ensures.0 ⨾ cof (ap low_sum (add-one (y / 3)))))),
    )

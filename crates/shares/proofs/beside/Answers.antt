-- `shares::beside` meets its contract: modulo 3 a number may be taken for its remainder.
use Prim.Native.Nat.{◌+◌, ◌*◌, ◌/◌, ◌%◌, ◌≤◌}
use native.Mathlib.Nat.{mod-lt, mul-le-mul_right}
use native.Mathlib.Omega.{arith}
use Rattle.residues.proofs.ModLaw.{crefl, cadd, cmul}
use Rattle.weights.proofs.WeightLaw.{small}
use Rattle.shares.proofs.ShareLaw.{sames_is, nexts_is}
use Rattle.shares.proofs.beside.Goals as goal

pub overflow_mul-sames : goal.overflow_mul-sames
overflow_mul-sames c =
    let y = c.args.y in
    let k = y / 3 in
    let a = small (k / 3 % 3) (k / 3 % 3) (mod-lt (k / 3) (omega arith)) in
    let b = small (k % 3) (k / 3 % 3 * (k / 3 % 3)) (mod-lt k (omega arith)) in
    let half : k % 3 / 2 ≤ 1 = omega arith in
    let d = mul-le-mul_right (k / 3 % 3) half in
    let e = mul-le-mul_right (k / 3 % 3 + 2 * (k / 3 / 3 % 3)) half in
    let v = small (y % 3) c.weigh-u.result.same (mod-lt y (omega arith)) in
    let w = small (y % 3) c.weigh-u.result.next (mod-lt y (omega arith)) in
    let i = c.weigh-u.ensures.3 in
    let j = c.weigh-u.ensures.4 in
    omega arith

pub overflow_mul-sames-2 : goal.overflow_mul-sames-2
overflow_mul-sames-2 c =
    let y = c.args.y in
    let k = y / 3 in
    let a = small (k / 3 % 3) (k / 3 % 3) (mod-lt (k / 3) (omega arith)) in
    let b = small (k % 3) (k / 3 % 3 * (k / 3 % 3)) (mod-lt k (omega arith)) in
    let half : k % 3 / 2 ≤ 1 = omega arith in
    let d = mul-le-mul_right (k / 3 % 3) half in
    let e = mul-le-mul_right (k / 3 % 3 + 2 * (k / 3 / 3 % 3)) half in
    let v = small (y % 3) c.weigh-u.result.same (mod-lt y (omega arith)) in
    let w = small (y % 3) c.weigh-u.result.next (mod-lt y (omega arith)) in
    let i = c.weigh-u.ensures.3 in
    let j = c.weigh-u.ensures.4 in
    omega arith

pub overflow_add-sames : goal.overflow_add-sames
overflow_add-sames c =
    let y = c.args.y in
    let k = y / 3 in
    let a = small (k / 3 % 3) (k / 3 % 3) (mod-lt (k / 3) (omega arith)) in
    let b = small (k % 3) (k / 3 % 3 * (k / 3 % 3)) (mod-lt k (omega arith)) in
    let half : k % 3 / 2 ≤ 1 = omega arith in
    let d = mul-le-mul_right (k / 3 % 3) half in
    let e = mul-le-mul_right (k / 3 % 3 + 2 * (k / 3 / 3 % 3)) half in
    let v = small (y % 3) c.weigh-u.result.same (mod-lt y (omega arith)) in
    let w = small (y % 3) c.weigh-u.result.next (mod-lt y (omega arith)) in
    let i = c.weigh-u.ensures.3 in
    let j = c.weigh-u.ensures.4 in
    omega arith

pub overflow_mul-sames-3 : goal.overflow_mul-sames-3
overflow_mul-sames-3 c =
    let y = c.args.y in
    let k = y / 3 in
    let a = small (k / 3 % 3) (k / 3 % 3) (mod-lt (k / 3) (omega arith)) in
    let b = small (k % 3) (k / 3 % 3 * (k / 3 % 3)) (mod-lt k (omega arith)) in
    let half : k % 3 / 2 ≤ 1 = omega arith in
    let d = mul-le-mul_right (k / 3 % 3) half in
    let e = mul-le-mul_right (k / 3 % 3 + 2 * (k / 3 / 3 % 3)) half in
    let v = small (y % 3) c.weigh-u.result.same (mod-lt y (omega arith)) in
    let w = small (y % 3) c.weigh-u.result.next (mod-lt y (omega arith)) in
    let i = c.weigh-u.ensures.3 in
    let j = c.weigh-u.ensures.4 in
    omega arith

pub overflow_add-sames-2 : goal.overflow_add-sames-2
overflow_add-sames-2 c =
    let y = c.args.y in
    let k = y / 3 in
    let a = small (k / 3 % 3) (k / 3 % 3) (mod-lt (k / 3) (omega arith)) in
    let b = small (k % 3) (k / 3 % 3 * (k / 3 % 3)) (mod-lt k (omega arith)) in
    let half : k % 3 / 2 ≤ 1 = omega arith in
    let d = mul-le-mul_right (k / 3 % 3) half in
    let e = mul-le-mul_right (k / 3 % 3 + 2 * (k / 3 / 3 % 3)) half in
    let v = small (y % 3) c.weigh-u.result.same (mod-lt y (omega arith)) in
    let w = small (y % 3) c.weigh-u.result.next (mod-lt y (omega arith)) in
    let i = c.weigh-u.ensures.3 in
    let j = c.weigh-u.ensures.4 in
    omega arith

pub overflow_mul-nexts-2 : goal.overflow_mul-nexts-2
overflow_mul-nexts-2 c =
    let y = c.args.y in
    let k = y / 3 in
    let a = small (k / 3 % 3) (k / 3 % 3) (mod-lt (k / 3) (omega arith)) in
    let b = small (k % 3) (k / 3 % 3 * (k / 3 % 3)) (mod-lt k (omega arith)) in
    let half : k % 3 / 2 ≤ 1 = omega arith in
    let d = mul-le-mul_right (k / 3 % 3) half in
    let e = mul-le-mul_right (k / 3 % 3 + 2 * (k / 3 / 3 % 3)) half in
    let s = small (k % 3) (2 * c.low_sum.result) (mod-lt k (omega arith)) in
    let t = c.low_sum.ensures.1 in
    let v = small (y % 3) c.weigh-u.result.same (mod-lt y (omega arith)) in
    let w = small (y % 3) c.weigh-u.result.next (mod-lt y (omega arith)) in
    let i = c.weigh-u.ensures.3 in
    let j = c.weigh-u.ensures.4 in
    omega arith

pub overflow_mul-nexts-4 : goal.overflow_mul-nexts-4
overflow_mul-nexts-4 c =
    let y = c.args.y in
    let k = y / 3 in
    let a = small (k / 3 % 3) (k / 3 % 3) (mod-lt (k / 3) (omega arith)) in
    let b = small (k % 3) (k / 3 % 3 * (k / 3 % 3)) (mod-lt k (omega arith)) in
    let half : k % 3 / 2 ≤ 1 = omega arith in
    let d = mul-le-mul_right (k / 3 % 3) half in
    let e = mul-le-mul_right (k / 3 % 3 + 2 * (k / 3 / 3 % 3)) half in
    let s = small (k % 3) (2 * c.low_sum.result) (mod-lt k (omega arith)) in
    let t = c.low_sum.ensures.1 in
    let v = small (y % 3) c.weigh-u.result.same (mod-lt y (omega arith)) in
    let w = small (y % 3) c.weigh-u.result.next (mod-lt y (omega arith)) in
    let i = c.weigh-u.ensures.3 in
    let j = c.weigh-u.ensures.4 in
    omega arith

pub overflow_add-nexts-2 : goal.overflow_add-nexts-2
overflow_add-nexts-2 c =
    let y = c.args.y in
    let k = y / 3 in
    let a = small (k / 3 % 3) (k / 3 % 3) (mod-lt (k / 3) (omega arith)) in
    let b = small (k % 3) (k / 3 % 3 * (k / 3 % 3)) (mod-lt k (omega arith)) in
    let half : k % 3 / 2 ≤ 1 = omega arith in
    let d = mul-le-mul_right (k / 3 % 3) half in
    let e = mul-le-mul_right (k / 3 % 3 + 2 * (k / 3 / 3 % 3)) half in
    let s = small (k % 3) (2 * c.low_sum.result) (mod-lt k (omega arith)) in
    let t = c.low_sum.ensures.1 in
    let v = small (y % 3) c.weigh-u.result.same (mod-lt y (omega arith)) in
    let w = small (y % 3) c.weigh-u.result.next (mod-lt y (omega arith)) in
    let i = c.weigh-u.ensures.3 in
    let j = c.weigh-u.ensures.4 in
    omega arith

pub overflow_mul-result : goal.overflow_mul-result
overflow_mul-result c =
    let y = c.args.y in
    let k = y / 3 in
    let a = small (k / 3 % 3) (k / 3 % 3) (mod-lt (k / 3) (omega arith)) in
    let b = small (k % 3) (k / 3 % 3 * (k / 3 % 3)) (mod-lt k (omega arith)) in
    let half : k % 3 / 2 ≤ 1 = omega arith in
    let d = mul-le-mul_right (k / 3 % 3) half in
    let e = mul-le-mul_right (k / 3 % 3 + 2 * (k / 3 / 3 % 3)) half in
    let s = small (k % 3) (2 * c.low_sum.result) (mod-lt k (omega arith)) in
    let t = c.low_sum.ensures.1 in
    let v = small (y % 3) c.weigh-u.result.same (mod-lt y (omega arith)) in
    let w = small (y % 3) c.weigh-u.result.next (mod-lt y (omega arith)) in
    let i = c.weigh-u.ensures.3 in
    let j = c.weigh-u.ensures.4 in
    omega arith

pub overflow_mul-result-2 : goal.overflow_mul-result-2
overflow_mul-result-2 c =
    let y = c.args.y in
    let k = y / 3 in
    let a = small (k / 3 % 3) (k / 3 % 3) (mod-lt (k / 3) (omega arith)) in
    let b = small (k % 3) (k / 3 % 3 * (k / 3 % 3)) (mod-lt k (omega arith)) in
    let half : k % 3 / 2 ≤ 1 = omega arith in
    let d = mul-le-mul_right (k / 3 % 3) half in
    let e = mul-le-mul_right (k / 3 % 3 + 2 * (k / 3 / 3 % 3)) half in
    let s = small (k % 3) (2 * c.low_sum.result) (mod-lt k (omega arith)) in
    let t = c.low_sum.ensures.1 in
    let v = small (y % 3) c.weigh-u.result.same (mod-lt y (omega arith)) in
    let w = small (y % 3) c.weigh-u.result.next (mod-lt y (omega arith)) in
    let i = c.weigh-u.ensures.3 in
    let j = c.weigh-u.ensures.4 in
    omega arith

pub overflow_add-result : goal.overflow_add-result
overflow_add-result c =
    let y = c.args.y in
    let k = y / 3 in
    let a = small (k / 3 % 3) (k / 3 % 3) (mod-lt (k / 3) (omega arith)) in
    let b = small (k % 3) (k / 3 % 3 * (k / 3 % 3)) (mod-lt k (omega arith)) in
    let half : k % 3 / 2 ≤ 1 = omega arith in
    let d = mul-le-mul_right (k / 3 % 3) half in
    let e = mul-le-mul_right (k / 3 % 3 + 2 * (k / 3 / 3 % 3)) half in
    let s = small (k % 3) (2 * c.low_sum.result) (mod-lt k (omega arith)) in
    let t = c.low_sum.ensures.1 in
    let v = small (y % 3) c.weigh-u.result.same (mod-lt y (omega arith)) in
    let w = small (y % 3) c.weigh-u.result.next (mod-lt y (omega arith)) in
    let i = c.weigh-u.ensures.3 in
    let j = c.weigh-u.ensures.4 in
    omega arith

pub overflow_mul-result-3 : goal.overflow_mul-result-3
overflow_mul-result-3 c =
    let y = c.args.y in
    let k = y / 3 in
    let a = small (k / 3 % 3) (k / 3 % 3) (mod-lt (k / 3) (omega arith)) in
    let b = small (k % 3) (k / 3 % 3 * (k / 3 % 3)) (mod-lt k (omega arith)) in
    let half : k % 3 / 2 ≤ 1 = omega arith in
    let d = mul-le-mul_right (k / 3 % 3) half in
    let e = mul-le-mul_right (k / 3 % 3 + 2 * (k / 3 / 3 % 3)) half in
    let s = small (k % 3) (2 * c.low_sum.result) (mod-lt k (omega arith)) in
    let t = c.low_sum.ensures.1 in
    let v = small (y % 3) c.weigh-u.result.same (mod-lt y (omega arith)) in
    let w = small (y % 3) c.weigh-u.result.next (mod-lt y (omega arith)) in
    let i = c.weigh-u.ensures.3 in
    let j = c.weigh-u.ensures.4 in
    omega arith

pub overflow_mul-result-4 : goal.overflow_mul-result-4
overflow_mul-result-4 c =
    let y = c.args.y in
    let k = y / 3 in
    let a = small (k / 3 % 3) (k / 3 % 3) (mod-lt (k / 3) (omega arith)) in
    let b = small (k % 3) (k / 3 % 3 * (k / 3 % 3)) (mod-lt k (omega arith)) in
    let half : k % 3 / 2 ≤ 1 = omega arith in
    let d = mul-le-mul_right (k / 3 % 3) half in
    let e = mul-le-mul_right (k / 3 % 3 + 2 * (k / 3 / 3 % 3)) half in
    let s = small (k % 3) (2 * c.low_sum.result) (mod-lt k (omega arith)) in
    let t = c.low_sum.ensures.1 in
    let v = small (y % 3) c.weigh-u.result.same (mod-lt y (omega arith)) in
    let w = small (y % 3) c.weigh-u.result.next (mod-lt y (omega arith)) in
    let i = c.weigh-u.ensures.3 in
    let j = c.weigh-u.ensures.4 in
    omega arith

pub overflow_add-result-2 : goal.overflow_add-result-2
overflow_add-result-2 c =
    let y = c.args.y in
    let k = y / 3 in
    let a = small (k / 3 % 3) (k / 3 % 3) (mod-lt (k / 3) (omega arith)) in
    let b = small (k % 3) (k / 3 % 3 * (k / 3 % 3)) (mod-lt k (omega arith)) in
    let half : k % 3 / 2 ≤ 1 = omega arith in
    let d = mul-le-mul_right (k / 3 % 3) half in
    let e = mul-le-mul_right (k / 3 % 3 + 2 * (k / 3 / 3 % 3)) half in
    let s = small (k % 3) (2 * c.low_sum.result) (mod-lt k (omega arith)) in
    let t = c.low_sum.ensures.1 in
    let v = small (y % 3) c.weigh-u.result.same (mod-lt y (omega arith)) in
    let w = small (y % 3) c.weigh-u.result.next (mod-lt y (omega arith)) in
    let i = c.weigh-u.ensures.3 in
    let j = c.weigh-u.ensures.4 in
    omega arith

pub returns : goal.returns
returns c =
    let y = c.args.y in (
      c.weigh-w.ensures.2,
      cadd (cmul (crefl 2) (sames_is (y / 3))) (cmul (crefl (y % 3)) c.weigh-u.ensures.1),
      cadd (cmul (crefl 2) (nexts_is (y / 3) c.low_sum.result c.low_sum.ensures.0)) (cmul (crefl (y % 3)) c.weigh-u.ensures.2),
    )

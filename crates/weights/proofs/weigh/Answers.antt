-- `weights::weigh` meets its contract: modulo 3 a number may be taken for its remainder.
use Prim.Native.Nat.{◌+◌, ◌*◌, ◌/◌, ◌%◌}
use native.Mathlib.Nat.{mod-lt}
use native.Mathlib.Omega.{arith}
use Rattle.weights.proofs.WeightLaw.{small, whole_is, same_is, next_is}
use Rattle.weights.proofs.weigh.Goals as goal

pub overflow_mul-result-2 : goal.overflow_mul-result-2
overflow_mul-result-2 c =
    let y = c.args.y in
    let p = small (y / 3 % 3) (y / 3 % 3) (mod-lt (y / 3) (omega arith)) in
    let q = small (y % 3) (y / 3 % 3) (mod-lt y (omega arith)) in
    let r = small (y % 3) (y / 3 % 3 + 2 * (y / 3 / 3 % 3)) (mod-lt y (omega arith)) in
    omega arith

pub overflow_mul-result-3 : goal.overflow_mul-result-3
overflow_mul-result-3 c =
    let y = c.args.y in
    let p = small (y / 3 % 3) (y / 3 % 3) (mod-lt (y / 3) (omega arith)) in
    let q = small (y % 3) (y / 3 % 3) (mod-lt y (omega arith)) in
    let r = small (y % 3) (y / 3 % 3 + 2 * (y / 3 / 3 % 3)) (mod-lt y (omega arith)) in
    omega arith

pub overflow_add-result-2 : goal.overflow_add-result-2
overflow_add-result-2 c =
    let y = c.args.y in
    let p = small (y / 3 % 3) (y / 3 % 3) (mod-lt (y / 3) (omega arith)) in
    let q = small (y % 3) (y / 3 % 3) (mod-lt y (omega arith)) in
    let r = small (y % 3) (y / 3 % 3 + 2 * (y / 3 / 3 % 3)) (mod-lt y (omega arith)) in
    omega arith

pub overflow_add-result-3 : goal.overflow_add-result-3
overflow_add-result-3 c =
    let y = c.args.y in
    let p = small (y / 3 % 3) (y / 3 % 3) (mod-lt (y / 3) (omega arith)) in
    let q = small (y % 3) (y / 3 % 3) (mod-lt y (omega arith)) in
    let r = small (y % 3) (y / 3 % 3 + 2 * (y / 3 / 3 % 3)) (mod-lt y (omega arith)) in
    omega arith

pub overflow_mul-result-6 : goal.overflow_mul-result-6
overflow_mul-result-6 c =
    let y = c.args.y in
    let p = small (y / 3 % 3) (y / 3 % 3) (mod-lt (y / 3) (omega arith)) in
    let q = small (y % 3) (y / 3 % 3) (mod-lt y (omega arith)) in
    let r = small (y % 3) (y / 3 % 3 + 2 * (y / 3 / 3 % 3)) (mod-lt y (omega arith)) in
    omega arith

pub overflow_add-result-5 : goal.overflow_add-result-5
overflow_add-result-5 c =
    let y = c.args.y in
    let p = small (y / 3 % 3) (y / 3 % 3) (mod-lt (y / 3) (omega arith)) in
    let q = small (y % 3) (y / 3 % 3) (mod-lt y (omega arith)) in
    let r = small (y % 3) (y / 3 % 3 + 2 * (y / 3 / 3 % 3)) (mod-lt y (omega arith)) in
    omega arith

pub returns : goal.returns
returns c =
    let y = c.args.y in
    let p = small (y / 3 % 3) (y / 3 % 3) (mod-lt (y / 3) (omega arith)) in
    let q = small (y % 3) (y / 3 % 3) (mod-lt y (omega arith)) in
    let r = small (y % 3) (y / 3 % 3 + 2 * (y / 3 / 3 % 3)) (mod-lt y (omega arith)) in
    (whole_is y, same_is y, next_is y c.low_sum.result c.low_sum.ensures.0, omega arith, omega arith)

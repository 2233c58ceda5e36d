-- `weights::low_sum` meets its contract: modulo 3 a number may be taken for its remainder.
use Prim.Native.Nat.{◌/◌, ◌%◌}
use native.Mathlib.Nat.{mod-lt}
use native.Mathlib.Omega.{arith}
use Rattle.weights.proofs.WeightLaw.{small, low_is}
use Rattle.weights.proofs.low_sum.Goals as goal

pub overflow_mul-result : goal.overflow_mul-result
overflow_mul-result c =
    let k = c.args.k in
    let p = small (k % 3) (k / 3 % 3) (mod-lt k (omega arith)) in
    omega arith

pub overflow_mul-result-2 : goal.overflow_mul-result-2
overflow_mul-result-2 c =
    let k = c.args.k in
    let p = small (k % 3) (k / 3 % 3) (mod-lt k (omega arith)) in
    omega arith

pub overflow_add-result : goal.overflow_add-result
overflow_add-result c =
    let k = c.args.k in
    let p = small (k % 3) (k / 3 % 3) (mod-lt k (omega arith)) in
    omega arith

pub returns : goal.returns
returns c =
    let k = c.args.k in
    let p = small (k % 3) (k / 3 % 3) (mod-lt k (omega arith)) in
    (low_is k, omega arith)

-- `trits_run::wanted` is safe and ends.
use Rattle.std.proofs.Common.{◌%◌, ◌≤◌, mul-le-mul, arith}
use Rattle.trits_run.proofs.wanted.Goals as goal

pub overflow_mul-result : goal.overflow_mul-result
overflow_mul-result c =
    let a = c.args in
    let l : a.x ≤ 2 = omega arith in
    let k : a.y ≤ 2 = omega arith in
    omega (arith, mul-le-mul l k)

pub overflow_mul-result-in-Multiple : goal.overflow_mul-result-in-Multiple
overflow_mul-result-in-Multiple c =
    let a = c.args in
    let l : a.x ≤ 2 = omega arith in
    let k : a.t % 3 ≤ 2 = omega arith in
    omega (arith, mul-le-mul l k)

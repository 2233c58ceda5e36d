-- `single_trits::with_trit` meets its contract.
use Prim.Native.Nat.{◌^◌, ◌<◌}
use native.Mathlib.Omega.{arith}
use Rattle.trits.proofs.PutLaw.{puts}
use Rattle.single_trits.proofs.with_trit.Goals as goal

pub returns : goal.returns
returns c =
    let a = c.args in
    let h : a.v.high < 2 ^ 64 = omega arith in
    let l : a.v.low < 2 ^ 64 = omega arith in
    let e : a.e < 64 = omega arith in
    puts a.v a.e a.t h l e

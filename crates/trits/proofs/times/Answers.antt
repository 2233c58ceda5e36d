-- `trits::times` meets its contract.
use Prim.Native.Nat.{◌^◌, ◌<◌}
use native.Mathlib.Omega.{arith}
use Rattle.trits.proofs.SumLaw.{scales}
use Rattle.trits.proofs.MaskLaw.{masked_is}
use Rattle.trits.proofs.times.Goals as goal

pub returns : goal.returns
returns c =
    let a = c.args in
    let h : a.v.high < 2 ^ 64 = omega arith in
    let l : a.v.low < 2 ^ 64 = omega arith in
    scales (masked_is a.v h l a.t)

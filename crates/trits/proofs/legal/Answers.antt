-- `trits::legal` meets its contract.
use Prim.Native.Nat.{◌≤◌, ◌<◌, ◌^◌}
use native.Mathlib.Omega.{arith}
use borrow.Author.Tests.{eq-eqb, ne_eqb}
use native.Mathlib.Nat.{div-eq_of_lt, lt_of_lt_of_le}
use lib.Pow.{pow_mono}
use Rattle.trits.proofs.LegalLaw.{judged}
use Rattle.trits.proofs.legal.Goals as goal

pub returns-then-v : goal.returns-then-v
returns-then-v c =
    let a = c.args in
    judged a.m a.v _ (simp (ne_eqb _ _ c.if-v.true))

pub returns-then-m-lt64 : goal.returns-then-m-lt64
returns-then-m-lt64 c =
    let a = c.args in
    judged a.m a.v _ (simp (eq-eqb _ _ c.if-v.false))

pub returns-else-m-lt64 : goal.returns-else-m-lt64
returns-else-m-lt64 c =
    let a = c.args in
    let h : a.v.high < 2 ^ 64 = omega arith in
    let k : 64 ≤ a.m = omega arith in
    let w : a.v.high < 2 ^ a.m = lt_of_lt_of_le h (pow_mono k) in
    judged a.m a.v _ (simp (eq-eqb _ _ c.if-v.false, eq-eqb _ _ (div-eq_of_lt w)))

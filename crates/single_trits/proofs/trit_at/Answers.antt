-- `single_trits::trit_at` meets its contract.
use mathlib.Core.Path.{sym, ap₂}
use Prim.Native.Nat.{ℕ, ◌+◌, ◌^◌, ◌/◌, ◌<◌, ◌≤◌}
use native.Mathlib.Omega.{arith}
use lib.Bits.{and_le_r}
use Rattle.trits.specs.Trit.{trit}
use Rattle.trits.proofs.LegalLaw.{bit_mask, trit_out}
use Rattle.single_trits.proofs.trit_at.Goals as goal

pub returns-then-e-lt64 : goal.returns-then-e-lt64
unfolding trit
returns-then-e-lt64 c =
    let a = c.args in
    ap₂ (λ (x y : ℕ). x + y) (bit_mask a.v.high a.e) (bit_mask a.v.low a.e)

pub returns-else-e-lt64 : goal.returns-else-e-lt64
returns-else-e-lt64 c =
    let a = c.args in
    let h : a.v.high < 2 ^ 64 = omega arith in
    let l : a.v.low < 2 ^ 64 = omega arith in
    let k : 64 ≤ a.e = omega arith in
    sym (trit_out a.v 64 a.e h l k)

-- `refusals::sizes_fit` meets its contract.
use mathlib.Core.Bool.{false≢true}
use native.Mathlib.Omega.{arith}
use borrow.Author.Tests.{not-true, not-false, le-leb, leb-true}
use Rattle.refusals.proofs.RefusalLaw.{said_no}
use Rattle.refusals.proofs.sizes_fit.Goals as goal

pub returns-then-not-unknowns_fit : goal.returns-then-not-unknowns_fit
returns-then-not-unknowns_fit c = (
  λ e. absurd (false≢true e),
  λ w. absurd (said_no _ c.unknowns_fit.ensures (not-true _ c.if-not-unknowns_fit.true-raw) (record { least = w.least; most = w.most })),
)

pub returns-then-m-lt1 : goal.returns-then-m-lt1
returns-then-m-lt1 c = (λ e. absurd (false≢true e), λ w. absurd (omega (arith, w.one, c.if-m-lt1.true)))

pub returns : goal.returns
returns c =
    let u = c.unknowns_fit.ensures.0 (not-false _ c.if-not-unknowns_fit.false-raw) in
    (λ e. record { least = u.least; most = u.most; one = omega arith; wide = leb-true _ _ e }, λ w. le-leb _ _ w.wide)

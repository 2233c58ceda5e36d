-- `refusals::unknowns_fit` meets its contract.
use mathlib.Core.Bool.{false≢true}
use native.Mathlib.Omega.{arith}
use borrow.Author.Tests.{le-leb, leb-true}
use Rattle.refusals.proofs.unknowns_fit.Goals as goal

pub returns-then-n-lt1 : goal.returns-then-n-lt1
returns-then-n-lt1 c = (λ e. absurd (false≢true e), λ w. absurd (omega (arith, w.least, c.if-n-lt1.true)))

pub returns : goal.returns
returns c = (λ e. record { least = omega arith; most = leb-true _ _ e }, λ w. le-leb _ _ w.most)

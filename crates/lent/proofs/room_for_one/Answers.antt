-- `lent::room_for_one` meets its contract: one question after another.
use mathlib.Core.Path.{refl, sym, ◌∙◌}
use borrow.Author.Tests.{eq-eqb, ne_eqb, not-true, not-false}
use Rattle.refusals.proofs.RefusalLaw.{said_no, unknowns_not, unknowns_next}
use Rattle.lent.proofs.room_for_one.Goals as goal

pub returns-then-not-unknowns_fit : goal.returns-then-not-unknowns_fit
returns-then-not-unknowns_fit c = sym (unknowns_not _ _ (said_no _ c.unknowns_fit.ensures (not-true _ c.if-not-unknowns_fit.true-raw)))

pub returns-then-count-ne1 : goal.returns-then-count-ne1
returns-then-count-ne1 c =
    let w = c.unknowns_fit.ensures.0 (not-false _ c.if-not-unknowns_fit.false-raw) in
    sym (unknowns_next _ _ w ∙ rw (ne_eqb _ _ c.if-count-ne1.true) refl)

pub returns : goal.returns
returns c =
    let w = c.unknowns_fit.ensures.0 (not-false _ c.if-not-unknowns_fit.false-raw) in
    sym (unknowns_next _ _ w ∙ rw (eq-eqb _ _ c.if-count-ne1.false) refl)

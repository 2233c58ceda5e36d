-- `lent::room_for` meets its contract: one question after another.
use mathlib.Core.Path.{refl, sym, ◌∙◌}
use borrow.Author.Tests.{eq-eqb, ne_eqb, not-true, not-false}
use Rattle.refusals.proofs.RefusalLaw.{said_no, sized_not, sized_next}
use Rattle.lent.proofs.room_for.Goals as goal

pub returns-then-not-sizes_fit : goal.returns-then-not-sizes_fit
returns-then-not-sizes_fit c = sym (sized_not _ _ _ (said_no _ c.sizes_fit.ensures (not-true _ c.if-not-sizes_fit.true-raw)))

pub returns-then-count-wanted : goal.returns-then-count-wanted
returns-then-count-wanted c =
    let w = c.sizes_fit.ensures.0 (not-false _ c.if-not-sizes_fit.false-raw) in
    sym (sized_next _ _ _ w ∙ rw (ne_eqb _ _ c.if-count-wanted.true) refl)

pub returns : goal.returns
returns c =
    let w = c.sizes_fit.ensures.0 (not-false _ c.if-not-sizes_fit.false-raw) in
    sym (sized_next _ _ _ w ∙ rw (eq-eqb _ _ c.if-count-wanted.false) refl)

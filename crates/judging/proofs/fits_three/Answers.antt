-- `judging::fits_three` meets its contract: the first parts, and then the second slots.
use mathlib.Core.Path.{sym, ap, ◌∙◌}
use Rattle.outcomes.specs.First.{same_first}
use Rattle.outcomes.proofs.RecordLaw.{three_first, three_seconds}
use Rattle.judging.proofs.fits_three.Goals as goal

pub returns-else-same_first : goal.returns-else-same_first
returns-else-same_first c =
    let a = c.args in
    let e = ap (same_first a.f) (sym c.first.ensures) ∙ sym c.same_first.ensures ∙ c.if-same_first.false in
    c.if-same_first.false ∙ three_first a.f a.seconds.now _ _ c.record_at-o.ensures e

pub returns-then-same_first : goal.returns-then-same_first
returns-then-same_first c =
    let a = c.args in
    let e = ap (same_first a.f) (sym c.first.ensures) ∙ sym c.same_first.ensures ∙ c.if-same_first.true in
    c.same_seconds.ensures ∙ three_seconds a.f a.seconds.now _ _ c.record_at-o.ensures e

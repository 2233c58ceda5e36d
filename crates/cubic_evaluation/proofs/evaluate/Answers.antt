-- `cubic_evaluation::evaluate` meets its contract: the table is judged, then the point, then the value is summed.
use Rattle.std.specs.Prelude.{Ok, Err}
use Rattle.std.proofs.lemmas.Result.{err_from_is_err_and}
use mathlib.Core.Path.{sym, ap, ◌∙◌}
use native.Mathlib.Omega.{arith}
use lib.ListN.{get_or}
use Rattle.cubic_tables.specs.Order.{cubic_count}
use Rattle.cubic_tables.specs.Words.{cubic_values}
use Rattle.cubic_tables.specs.Answers.{cubic_evaluate_verdict}
use Rattle.tables.proofs.AnswerLaw.{entries_checked}
use Rattle.evaluation.proofs.AnswerLaw.{value_refused, value_inside, tells_of}
use Rattle.cubic_planes.proofs.ValueLaw.{values_are}
use Rattle.cubic_evaluation.proofs.evaluate.Goals as goal

pub returns-in_err-check : goal.returns-in_err-check
returns-in_err-check c =
    let a = c.args in
    let p = err_from_is_err_and c.from_residual.result c.from_residual.ensures.1 in
    let e = p.1 ∙ ap Err p.2 ∙ sym (value_refused (cubic_count a.n) a.n a.m a.coefficients.now a.x.0 (cubic_values a.n a.m a.coefficients.now a.x.0) _ (sym c.check.ensures.answer ∙ c.in_err-check.was)) in
    (e, tells_of (cubic_evaluate_verdict a.n a.m a.coefficients.now a.x.0) (cubic_values a.n a.m a.coefficients.now a.x.0) _ e)

pub returns : goal.returns
returns c =
    let a = c.args in
    let d = sym c.check.ensures.answer ∙ c.in_ok-check.was in
    let r = entries_checked (cubic_count a.n) a.n a.m a.coefficients.now d in
    let p = c.power.ensures.0 (omega (arith, r.0)) in
    let e = ap Ok (c.value_at.ensures a.m r.1 ∙ values_are a.n a.m a.coefficients.now a.x.0 (λ k. get_or c.digits.result k 0) (λ k h. c.digits.ensures k (omega (arith, r.0))))
    ∙ sym (value_inside (cubic_count a.n) a.n a.m a.coefficients.now a.x.0 (cubic_values a.n a.m a.coefficients.now a.x.0) d (omega (arith, p, c.if-x-power.false))) in
    (e, tells_of (cubic_evaluate_verdict a.n a.m a.coefficients.now a.x.0) (cubic_values a.n a.m a.coefficients.now a.x.0) _ e)

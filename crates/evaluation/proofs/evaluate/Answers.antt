-- `evaluation::evaluate` meets its contract: the table is judged, then the point, then the value is summed.
use Rattle.std.specs.Prelude.{Ok}
use Rattle.std.proofs.Common.{rules}
use mathlib.Core.Path.{sym, ap, ◌∙◌}
use native.Mathlib.Omega.{arith}
use lib.ListN.{get_or}
use Rattle.tables.specs.Monomials.{count_of}
use Rattle.tables.specs.Words.{values_at}
use Rattle.tables.specs.Answers.{evaluate_verdict}
use Rattle.tables.proofs.AnswerLaw.{checked_ready}
use Rattle.evaluation.proofs.AnswerLaw.{value_refused, value_inside, tells_of}
use Rattle.evaluation.proofs.EvaluateLaw.{values_are}
use Rattle.evaluation.proofs.evaluate.Goals as goal

pub returns-in_err-check : goal.returns-in_err-check
returns-in_err-check c =
    let a = c.args in
    let e = sym (value_refused (count_of a.n) a.n a.m a.coefficients.now a.x.0 (values_at a.n a.m a.coefficients.now a.x.0) c.in_err-check.field-0.0 (sym c.check.ensures.answer ∙ c.in_err-check.was)) in
    let t = tells_of (evaluate_verdict a.n a.m a.coefficients.now a.x.0) (values_at a.n a.m a.coefficients.now a.x.0) _ e in
    (search rules, search rules)

pub returns : goal.returns
returns c =
    let a = c.args in
    let d = sym c.check.ensures.answer ∙ c.in_ok-check.was in
    let r = checked_ready a.n a.m a.coefficients.now d in
    let p = c.power.ensures.0 (omega (arith, r.0)) in
    let e = ap Ok (c.value_at.ensures a.m r.1 ∙ values_are a.n a.m a.coefficients.now a.x.0 (λ k. get_or c.digits.result k 0) (λ k h. c.digits.ensures k (omega (arith, r.0))))
    ∙ sym (value_inside (count_of a.n) a.n a.m a.coefficients.now a.x.0 (values_at a.n a.m a.coefficients.now a.x.0) d (omega (arith, p, c.if-x-power.false))) in
    (e, tells_of (evaluate_verdict a.n a.m a.coefficients.now a.x.0) (values_at a.n a.m a.coefficients.now a.x.0) _ e)

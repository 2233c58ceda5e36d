-- `differences::coefficients` meets its contract: it writes where nothing is refused.
use mathlib.Core.Path.{◌≡◌, refl, sym, ap, ◌∙◌}
use Rattle.refusals.specs.Refusal.{Verdict, code_of, after, done}
use Rattle.tables.specs.Words.{coefficients_of}
use Rattle.tables.specs.Answers.{copy_verdict}
use Rattle.tables.proofs.AnswerLaw.{copy_ready}
use Rattle.differences.proofs.coefficients.Goals as goal

pub returns : goal.returns
returns c =
    let a = c.args in
    let e : copy_verdict a.n a.m a.table.now a.coefficients.now ≡ done = sym (c.check_copy.ensures a.coefficients.now refl) ∙ c.in_ok-check_copy.was in
    let r = copy_ready a.n a.m a.table.now a.coefficients.now e in
    record { answer = sym e; left = c.coefficients_into.ensures a.m r.table ∙ sym (ap (λ (v : Verdict). after v a.coefficients.now (coefficients_of a.n a.m a.table.now)) e); number = sym (ap code_of e) }

-- `differences::differences` meets its contract: it writes where nothing is refused.
use mathlib.Core.Path.{◌≡◌, refl, sym, ap, ◌∙◌}
use Rattle.refusals.specs.Refusal.{Verdict, code_of, after, done}
use Rattle.tables.specs.Words.{differences_of}
use Rattle.tables.specs.Answers.{copy_verdict}
use Rattle.tables.proofs.AnswerLaw.{copy_ready}
use Rattle.differences.proofs.differences.Goals as goal

pub returns : goal.returns
returns c =
    let a = c.args in
    let e : copy_verdict a.n a.m a.coefficients.now a.table.now ≡ done = sym (c.check_copy.ensures a.table.now refl) ∙ c.in_ok-check_copy.was in
    let r = copy_ready a.n a.m a.coefficients.now a.table.now e in
    record { answer = sym e; left = c.differences_into.ensures a.m r.table ∙ sym (ap (λ (v : Verdict). after v a.table.now (differences_of a.n a.m a.coefficients.now)) e); number = sym (ap code_of e) }

-- `cubic_differences::differences` meets its contract: it writes where nothing is refused.
use mathlib.Core.Path.{◌≡◌, refl, sym, ap, ◌∙◌}
use Rattle.refusals.specs.Refusal.{Verdict, code_of, after, done}
use Rattle.cubic_tables.specs.Words.{cubic_differences}
use Rattle.cubic_tables.specs.Answers.{cubic_copy}
use Rattle.tables.proofs.AnswerLaw.{entries_ready}
use Rattle.cubic_tables.specs.Order.{cubic_count}
use Rattle.cubic_differences.proofs.differences.Goals as goal

pub returns : goal.returns
returns c =
    let a = c.args in
    let k = c.check_copy in
    let e = k.ensures a.table.now refl in
    let d : cubic_copy a.n a.m a.coefficients.now a.table.now ≡ done = sym e ∙ c.in_ok-check_copy.was in
    let r = entries_ready (cubic_count a.n) a.n a.m a.coefficients.now a.table.now d in
    record { answer = sym d; left = c.differences_into.ensures a.m r.table ∙ sym (ap (λ (v : Verdict). after v a.table.now (cubic_differences a.n a.m a.coefficients.now)) d); number = ap code_of (sym d) }

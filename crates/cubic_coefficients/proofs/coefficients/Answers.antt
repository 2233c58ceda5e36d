-- `cubic_coefficients::coefficients` meets its contract: it writes where nothing is refused.
use mathlib.Core.Path.{◌≡◌, refl, sym, ap, ◌∙◌}
use Rattle.refusals.specs.Refusal.{Verdict, code_of, after, done}
use Rattle.cubic_tables.specs.Words.{cubic_coefficients}
use Rattle.cubic_tables.specs.Answers.{cubic_copy}
use Rattle.tables.proofs.AnswerLaw.{entries_ready}
use Rattle.cubic_tables.specs.Order.{cubic_count}
use Rattle.cubic_coefficients.proofs.coefficients.Goals as goal

pub returns : goal.returns
returns c =
    let a = c.args in
    let k = c.check_copy in
    let e = k.ensures a.coefficients.now refl in
    let d : cubic_copy a.n a.m a.table.now a.coefficients.now ≡ done = sym e ∙ c.in_ok-check_copy.was in
    let r = entries_ready (cubic_count a.n) a.n a.m a.table.now a.coefficients.now d in
    record { answer = sym d; left = c.coefficients_into.ensures a.m r.table ∙ sym (ap (λ (v : Verdict). after v a.coefficients.now (cubic_coefficients a.n a.m a.table.now)) d); number = ap code_of (sym d) }

-- `checks::check` meets its contract.
use mathlib.Core.Path.{refl, ap, ◌∙◌}
use Rattle.refusals.specs.Refusal.{code_of}
use Rattle.tables.proofs.AnswerLaw.{entries_self}
use Rattle.checks.proofs.check.Goals as goal

pub returns : goal.returns
returns g c =
    let a = c.args in
    let e = c.check_copy.ensures a.table.now refl ∙ entries_self _ a.n a.m a.table.now in
    record { answer = e; number = ap code_of e }

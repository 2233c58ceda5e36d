-- `checks::check_entries` meets its contract: one law for each refusal, in the order of the tests.
use mathlib.Core.Path.{sym, ◌∙◌}
use Rattle.tables.proofs.AnswerLaw.{copy_from, copy_to, copy_pair, copy_done}
use Rattle.checks.proofs.check_entries.Goals as goal

pub returns-then-from-entries : goal.returns-then-from-entries
returns-then-from-entries c = λ to e. let a = c.args in sym (copy_from a.entries a.m a.from.now to c.if-from-entries.true)

pub returns-then-words-entries : goal.returns-then-words-entries
returns-then-words-entries c = λ to e.
    let a = c.args in
    sym (copy_to a.entries a.m a.from.now to c.if-from-entries.false (λ q. c.if-words-entries.true (sym e ∙ q)))

pub returns-then-front-entries : goal.returns-then-front-entries
returns-then-front-entries c = λ to e.
    let a = c.args in
    let f = c.legal_front-front in
    sym (copy_pair a.entries a.m a.from.now to c.if-from-entries.false (e ∙ c.if-words-entries.false) f.result f.ensures c.if-front-entries.true)

pub returns : goal.returns
returns c = λ to e.
    let a = c.args in
    let f = c.legal_front-front in
    sym (copy_done a.entries a.m a.from.now to c.if-from-entries.false (e ∙ c.if-words-entries.false) f.result f.ensures c.if-front-entries.false)

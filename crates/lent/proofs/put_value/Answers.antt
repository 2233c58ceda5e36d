-- `lent::put_value` meets its contract: each branch is a clause of the definitions.
use mathlib.Core.Path.{sym, ap, ◌∙◌}
use Rattle.tables.specs.Answers.{Evaluated}
use Rattle.lent.specs.Lent.{value_put}
use Rattle.lent.proofs.LentLaw.{set_two}
use Rattle.lent.proofs.put_value.Goals as goal

pub returns-clause-left : goal.returns-clause-left
returns-clause-left c =
    let l = c.args.value.now in
    set_two l _ _ c.requires ∙ sym (ap (λ (z : Evaluated). value_put z l) c.in_ok-v.was)

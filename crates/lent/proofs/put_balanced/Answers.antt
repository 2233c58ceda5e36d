-- `lent::put_balanced` meets its contract: each branch is a clause of the definitions.
use mathlib.Core.Path.{sym, ap, ◌∙◌}
use mathlib.Core.List.{[], ◌∷◌}
use lib.IntN.{ℤ}
use mir.Syntax.{w64}
use mir.ValLaws.{to_z-of_z}
use Rattle.std.proofs.Common.{rules}
use Rattle.balanced.specs.Answers.{BalancedAnswer}
use Rattle.lent.specs.Lent.{balanced_put}
use Rattle.lent.proofs.LentLaw.{set_one}
use Rattle.lent.proofs.put_balanced.Goals as goal

pub returns-clause-left : goal.returns-clause-left
returns-clause-left c =
    let n = c.args.number.now in
    let b = c.branch-y in
    set_one n _ c.requires ∙ ap (λ (z : ℤ). z ∷ []) (to_z-of_z w64 _ (search rules)) ∙ sym (ap (λ (z : BalancedAnswer). balanced_put z n) c.in_ok-y.was)

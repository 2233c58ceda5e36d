-- `vayudrit::vayudrit_unbalanced` meets its contract: a signed argument is handed on as it came.
use mathlib.Core.Path.{ap, ◌∙◌}
use lib.IntN.{ℤ}
use lib.ListN.{length}
use mir.Syntax.{w64}
use mir.ValLaws.{to_z-of_z}
use Rattle.refusals.specs.Refusal.{code_of}
use Rattle.number_calls.specs.Call.{unbalanced_call, unbalanced_after}
use Rattle.vayudrit.proofs.vayudrit_unbalanced.Goals as goal

pub returns : goal.returns
returns c =
    let a = c.args in
    let f = c.unbalanced.ensures in
    let e = to_z-of_z w64 a.number c.ranges.number in (
      f.0 ∙ ap (λ (z : ℤ). code_of (unbalanced_call a.n z (length a.point.now))) e,
      f.1 ∙ ap (λ (z : ℤ). unbalanced_after a.n z a.point.now) e,
    )

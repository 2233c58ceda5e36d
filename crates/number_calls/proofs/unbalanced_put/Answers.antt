-- `number_calls::unbalanced_put` meets its contract: the room is refused, or the answer says all.
use mathlib.Core.Path.{sym, ap, ◌∙◌}
use mathlib.Core.List.{[], ◌∷◌}
use lib.IntN.{ℤ}
use mir.Syntax.{w64}
use mir.ValLaws.{to_z-of_z}
use lib.ListN.{length}
use Rattle.std.proofs.Common.{rules}
use Rattle.gray.specs.Answers.{PointAnswer, point_from}
use Rattle.balanced.specs.Balanced.{unbalanced_of}
use Rattle.balanced.specs.Answers.{balanced_verdict}
use Rattle.lent.specs.Lent.{single, judged, point_put}
use Rattle.lent.proofs.LentLaw.{refused_first, answered, single_refused, single_done, point_meets}
use Rattle.number_calls.proofs.unbalanced_put.Goals as goal

pub returns-in_err-room_for_one : goal.returns-in_err-room_for_one
returns-in_err-room_for_one c =
    let a = c.args in
    let l = a.point.now in
    refused_first (single a.n (length l)) (single_refused a.n (length l)) _ c.room_for_one.ensures _ c.in_err-room_for_one.was c.from_residual.result (search rules) (balanced_verdict a.n a.number) l (unbalanced_of a.n a.number ∷ [])

pub put_point-requires : goal.put_point-requires
put_point-requires c = (single_done c.args.n (length c.args.point.now) (sym c.room_for_one.ensures ∙ c.in_ok-room_for_one.was)).0

pub returns : goal.returns
returns c =
    let a = c.args in
    let l = a.point.now in
    let h = single_done a.n (length l) (sym c.room_for_one.ensures ∙ c.in_ok-room_for_one.was) in
    let u = balanced_verdict a.n a.number in
    let x = unbalanced_of a.n a.number in
    let p = c.put_point.ensures in
    answered (λ (z : PointAnswer). judged z) (λ (z : PointAnswer). point_put z l) (single a.n (length l) u) u (h.1 u) _ _ (c.from_balanced-a.ensures.answer ∙ ap (λ (z : ℤ). point_from (balanced_verdict a.n z) (unbalanced_of a.n z)) (to_z-of_z w64 a.number c.ranges.number)) _ _ l (x ∷ []) p.answer p.left (point_meets u x l)

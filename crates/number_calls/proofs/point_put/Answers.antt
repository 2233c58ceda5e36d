-- `number_calls::point_put` meets its contract: the room is refused, or the answer says all.
use mathlib.Core.Path.{sym, ◌∙◌}
use mathlib.Core.List.{[], ◌∷◌}
use lib.ListN.{length}
use Rattle.std.proofs.Common.{rules}
use Rattle.gray.specs.Answers.{PointAnswer, convert_verdict}
use Rattle.gray.specs.Numbers.{point_of}
use Rattle.lent.specs.Lent.{single, judged, point_put}
use Rattle.lent.proofs.LentLaw.{refused_first, answered, single_refused, single_done, point_meets}
use Rattle.number_calls.proofs.point_put.Goals as goal

pub returns-in_err-room_for_one : goal.returns-in_err-room_for_one
returns-in_err-room_for_one c =
    let a = c.args in
    let l = a.point.now in
    refused_first (single a.n (length l)) (single_refused a.n (length l)) _ c.room_for_one.ensures _ c.in_err-room_for_one.was c.from_residual.result (search rules) (convert_verdict a.n a.place) l (point_of 3 a.n a.place ∷ [])

pub put_point-requires : goal.put_point-requires
put_point-requires c = (single_done c.args.n (length c.args.point.now) (sym c.room_for_one.ensures ∙ c.in_ok-room_for_one.was)).0

pub returns : goal.returns
returns c =
    let a = c.args in
    let l = a.point.now in
    let h = single_done a.n (length l) (sym c.room_for_one.ensures ∙ c.in_ok-room_for_one.was) in
    let u = convert_verdict a.n a.place in
    let x = point_of 3 a.n a.place in
    let p = c.put_point.ensures in
    answered (λ (z : PointAnswer). judged z) (λ (z : PointAnswer). point_put z l) (single a.n (length l) u) u (h.1 u) _ _ c.point_of-a.ensures.answer _ _ l (x ∷ []) p.answer p.left (point_meets u x l)

-- `number_calls::place_put` meets its contract: the room is refused, or the answer says all.
use mathlib.Core.Path.{sym, ◌∙◌}
use mathlib.Core.List.{[], ◌∷◌}
use lib.ListN.{length}
use Rattle.std.proofs.Common.{rules}
use Rattle.gray.specs.Answers.{PlaceAnswer, convert_verdict}
use Rattle.gray.specs.Numbers.{place_of}
use Rattle.lent.specs.Lent.{single, judged, place_put}
use Rattle.lent.proofs.LentLaw.{refused_first, answered, single_refused, single_done, place_meets}
use Rattle.number_calls.proofs.place_put.Goals as goal

pub returns-in_err-room_for_one : goal.returns-in_err-room_for_one
returns-in_err-room_for_one c =
    let a = c.args in
    let l = a.place.now in
    refused_first (single a.n (length l)) (single_refused a.n (length l)) _ c.room_for_one.ensures _ c.in_err-room_for_one.was c.from_residual.result (search rules) (convert_verdict a.n a.point) l (place_of 3 a.n a.point ∷ [])

pub put_place-requires : goal.put_place-requires
put_place-requires c = (single_done c.args.n (length c.args.place.now) (sym c.room_for_one.ensures ∙ c.in_ok-room_for_one.was)).0

pub returns : goal.returns
returns c =
    let a = c.args in
    let l = a.place.now in
    let h = single_done a.n (length l) (sym c.room_for_one.ensures ∙ c.in_ok-room_for_one.was) in
    let u = convert_verdict a.n a.point in
    let x = place_of 3 a.n a.point in
    let p = c.put_place.ensures in
    answered (λ (z : PlaceAnswer). judged z) (λ (z : PlaceAnswer). place_put z l) (single a.n (length l) u) u (h.1 u) _ _ c.place_of-a.ensures.answer _ _ l (x ∷ []) p.answer p.left (place_meets u x l)

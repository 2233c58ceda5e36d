-- `value_calls::value_put` meets its contract: the room is refused, or the answer says all.
use mathlib.Core.Path.{sym, ap, ◌∙◌}
use lib.ListN.{length}
use Rattle.std.proofs.Common.{rules}
use Rattle.tables.specs.Answers.{Evaluated}
use Rattle.given.specs.Given.{Given, degree_told}
use Rattle.operations.specs.Operations.{evaluating, value_in, evaluated_told}
use Rattle.lent.specs.Lent.{room, judged, vector_words, value_put}
use Rattle.lent.proofs.LentLaw.{refused_first, answered, room_refused, room_done, value_meets}
use Rattle.value_calls.proofs.value_put.Goals as goal

pub returns-in_err-room_for : goal.returns-in_err-room_for
returns-in_err-room_for c =
    let a = c.args in
    let l = a.value.now in
    let g = degree_told a.n (length a.coefficients.now) in
    refused_first (room a.n a.m (length l) 2) (room_refused a.n a.m (length l) 2) _ c.room_for.ensures _ c.in_err-room_for.was c.from_residual.result (search rules)
    (evaluating g a.n a.m a.coefficients.now a.point) l (vector_words (value_in g a.n a.m a.coefficients.now a.point))

pub put_value-requires : goal.put_value-requires
put_value-requires c = (room_done c.args.n c.args.m (length c.args.value.now) 2 (sym c.room_for.ensures ∙ c.in_ok-room_for.was)).0

pub returns : goal.returns
returns c =
    let a = c.args in
    let l = a.value.now in
    let h = room_done a.n a.m (length l) 2 (sym c.room_for.ensures ∙ c.in_ok-room_for.was) in
    let g = degree_told a.n (length a.coefficients.now) in
    let u = evaluating g a.n a.m a.coefficients.now a.point in
    let x = value_in g a.n a.m a.coefficients.now a.point in
    let e = c.evaluate-e.ensures.0 ∙ ap (λ (g : Given). evaluated_told g a.point) c.by_length.ensures in
    let p = c.put_value.ensures in
    answered (λ (z : Evaluated). judged z) (λ (z : Evaluated). value_put z l) (room a.n a.m (length l) 2 u) u (h.1 u) _ _ e _ _ l (vector_words x) p.answer p.left (value_meets u x l)

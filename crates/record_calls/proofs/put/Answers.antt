-- `record_calls::put` meets its contract: the room is refused, then what opening refuses, or the record is written.
use Rattle.std.specs.Prelude.{Err}
use mathlib.Core.Path.{sym, ap, ◌∙◌}
use lib.ListN.{length}
use Rattle.std.proofs.lemmas.Result.{err_from_is_err_and}
use Rattle.refusals.specs.Refusal.{Verdict, after}
use Rattle.given.specs.Given.{Given, table_told}
use Rattle.opening.specs.Opened.{opened_at, open_verdict, open_of}
use Rattle.opening.proofs.VerdictLaw.{opened_err, opened_ok}
use Rattle.wire.specs.Wire.{record_words}
use Rattle.lent.proofs.LentLaw.{room_refused, room_done}
use Rattle.record_calls.proofs.put.Goals as goal

pub returns-in_err-room_for : goal.returns-in_err-room_for
returns-in_err-room_for c =
    let a = c.args in
    let l = a.«record».now in
    let g = table_told a.n a.m a.table.now in
    let p = err_from_is_err_and c.from_residual.result c.from_residual.ensures.1 in
    let e = room_refused a.n a.m (length l) 465 _ (open_verdict g a.place.0) (sym c.room_for.ensures ∙ c.in_err-room_for.was) in
    (p.1 ∙ ap Err p.2 ∙ sym e, sym (ap (λ (v : Verdict). after v l (record_words (opened_at g a.place.0))) e))

pub returns-in_err-r : goal.returns-in_err-r
returns-in_err-r c =
    let a = c.args in
    let l = a.«record».now in
    let g = table_told a.n a.m a.table.now in
    let p = err_from_is_err_and c.from_residual-in_err-r.result c.from_residual-in_err-r.ensures.1 in
    let h = room_done a.n a.m (length l) 465 (sym c.room_for.ensures ∙ c.in_ok-room_for.was) in
    let o = c.open.ensures.value ∙ ap (λ (g : Given). open_of g a.place.0) c.by_length.ensures in
    let e = h.1 (open_verdict g a.place.0) ∙ opened_err (open_verdict g a.place.0) (opened_at g a.place.0) _ (sym o ∙ c.in_err-r.was) in
    (p.1 ∙ ap Err p.2 ∙ sym e, sym (ap (λ (v : Verdict). after v l (record_words (opened_at g a.place.0))) e))

pub put_record-requires : goal.put_record-requires
put_record-requires c =
    let a = c.args in
    (room_done a.n a.m (length a.«record».now) 465 (sym c.room_for.ensures ∙ c.in_ok-room_for.was)).0

pub returns : goal.returns
returns c =
    let a = c.args in
    let l = a.«record».now in
    let g = table_told a.n a.m a.table.now in
    let h = room_done a.n a.m (length l) 465 (sym c.room_for.ensures ∙ c.in_ok-room_for.was) in
    let s = c.open.ensures.value ∙ ap (λ (g : Given). open_of g a.place.0) c.by_length.ensures in
    let k = opened_ok (open_verdict g a.place.0) (opened_at g a.place.0) _ (sym s ∙ c.in_ok-r.was) in
    let e = h.1 (open_verdict g a.place.0) ∙ k.0 in
    (sym e, c.put_record.ensures ∙ ap record_words k.1 ∙ sym (ap (λ (v : Verdict). after v l (record_words (opened_at g a.place.0))) e))

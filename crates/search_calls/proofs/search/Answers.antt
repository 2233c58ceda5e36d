-- `search_calls::search` meets its contract: the lengths are refused, or the search over the words says all.
use mathlib.Core.Path.{sym, ◌∙◌}
use lib.ListN.{length}
use Rattle.search_calls.specs.Call.{table_lent}
use Rattle.search_calls.proofs.VerdictLaw.{shapes_done, call_refused, call_done}
use Rattle.search_calls.proofs.search.Goals as goal

pub returns-in-Err : goal.returns-in-Err
returns-in-Err c =
    let a = c.args in
    let q = call_refused (table_lent a.n a.m a.table.now a.«record».now) a.«record».now a.budget a.list.now a.answer.now _ (sym c.shapes.ensures ∙ c.in-Err.is) in
    (c.number.ensures.0 ∙ q.0, q.1, q.2, q.3)

pub over_bytes-requires : goal.over_bytes-requires
over_bytes-requires c =
    let a = c.args in
    let h = shapes_done a.n a.m (length a.table.now) (length a.«record».now) (length a.list.now) (length a.answer.now) (sym c.shapes.ensures ∙ c.in-Ok.is) in
    (h.within.most, h.table, h.rec, h.answer)

pub returns-in-Ok : goal.returns-in-Ok
returns-in-Ok c =
    let a = c.args in
    let h = shapes_done a.n a.m (length a.table.now) (length a.«record».now) (length a.list.now) (length a.answer.now) (sym c.shapes.ensures ∙ c.in-Ok.is) in
    call_done (table_lent a.n a.m a.table.now a.«record».now) a.«record».now a.budget a.list.now a.answer.now h _ _ _ _ c.over_bytes.ensures

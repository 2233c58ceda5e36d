-- `search_calls::shapes` meets its contract: one question after another.
use mathlib.Core.Path.{sym, ◌∙◌}
use borrow.Author.Tests.{not-true, not-false}
use Rattle.refusals.proofs.RefusalLaw.{said_no, sized_not}
use Rattle.search_calls.proofs.VerdictLaw.{wrong_table, wrong_record, wrong_list, wrong_answer, right}
use Rattle.search_calls.proofs.shapes.Goals as goal

pub returns-then-not-sizes_fit : goal.returns-then-not-sizes_fit
returns-then-not-sizes_fit c = sym (sized_not _ _ _ (said_no _ c.sizes_fit.ensures (not-true _ c.if-not-sizes_fit.true-raw)))

pub table_bytes-bytes-requires : goal.table_bytes-bytes-requires
table_bytes-bytes-requires c = let w = c.sizes_fit.ensures.0 (not-false _ c.if-not-sizes_fit.false-raw) in (w.least, w.most)

pub returns-then-table-bytes : goal.returns-then-table-bytes
returns-then-table-bytes c =
    let a = c.args in
    let w = c.sizes_fit.ensures.0 (not-false _ c.if-not-sizes_fit.false-raw) in
    wrong_table a.n a.m a.table a.«record» a.list a.answer w (λ e. c.if-table-bytes.true (e ∙ sym c.table_bytes-bytes.ensures))

pub returns-then-record-ne-RECORD_LENGTH : goal.returns-then-record-ne-RECORD_LENGTH
returns-then-record-ne-RECORD_LENGTH c =
    let a = c.args in
    let w = c.sizes_fit.ensures.0 (not-false _ c.if-not-sizes_fit.false-raw) in
    wrong_record a.n a.m a.table a.«record» a.list a.answer w (c.if-table-bytes.false ∙ c.table_bytes-bytes.ensures) c.if-record-ne-RECORD_LENGTH.true

pub returns-then-list-ne0 : goal.returns-then-list-ne0
returns-then-list-ne0 c =
    let a = c.args in
    let w = c.sizes_fit.ensures.0 (not-false _ c.if-not-sizes_fit.false-raw) in
    wrong_list a.n a.m a.table a.«record» a.list a.answer w (c.if-table-bytes.false ∙ c.table_bytes-bytes.ensures) c.if-record-ne-RECORD_LENGTH.false c.if-list-ne0.true

pub returns-then-answer-ne-ANSWER_LENGTH : goal.returns-then-answer-ne-ANSWER_LENGTH
returns-then-answer-ne-ANSWER_LENGTH c =
    let a = c.args in
    let w = c.sizes_fit.ensures.0 (not-false _ c.if-not-sizes_fit.false-raw) in
    wrong_answer a.n a.m a.table a.«record» a.list a.answer w (c.if-table-bytes.false ∙ c.table_bytes-bytes.ensures) c.if-record-ne-RECORD_LENGTH.false c.if-list-ne0.false c.if-answer-ne-ANSWER_LENGTH.true

pub returns : goal.returns
returns c =
    let a = c.args in
    let w = c.sizes_fit.ensures.0 (not-false _ c.if-not-sizes_fit.false-raw) in
    right a.n a.m a.table a.«record» a.list a.answer w (c.if-table-bytes.false ∙ c.table_bytes-bytes.ensures) c.if-record-ne-RECORD_LENGTH.false c.if-list-ne0.false c.if-answer-ne-ANSWER_LENGTH.false

-- `rows::pack_entries` meets its contract: one law for each refusal, in the order of the tests.
use mathlib.Core.Path.{sym, ap, ◌∙◌}
use native.Mathlib.Omega.{arith}
use Rattle.refusals.specs.Refusal.{Verdict}
use Rattle.refusals.specs.Refusal.{after}
use Rattle.tables.specs.Words.{packed_rows}
use Rattle.rows.proofs.AnswerLaw.{pack_rows, pack_table, pack_done}
use Rattle.rows.proofs.PackLaw.{row_small}
use Rattle.rows.proofs.pack_entries.Goals as goal

pub overflow_mul-m : goal.overflow_mul-m
overflow_mul-m c = let a = c.args in let q = c.requires in omega (arith, row_small a.m a.entries q.0 q.1)

pub returns-then-rows-m : goal.returns-then-rows-m
returns-then-rows-m c =
    let a = c.args in
    let e = pack_rows a.entries a.m a.rows.now a.table.now c.if-rows-m.true in
    record { value = sym e; left = sym (ap (λ (v : Verdict). after v a.table.now (packed_rows a.entries a.m a.rows.now)) e) }

pub returns-then-table-entries : goal.returns-then-table-entries
returns-then-table-entries c =
    let a = c.args in
    let e = pack_table a.entries a.m a.rows.now a.table.now c.if-rows-m.false c.if-table-entries.true in
    record { value = sym e; left = sym (ap (λ (v : Verdict). after v a.table.now (packed_rows a.entries a.m a.rows.now)) e) }

pub returns : goal.returns
returns c =
    let a = c.args in
    let e = pack_done a.entries a.m a.rows.now a.table.now c.if-rows-m.false c.if-table-entries.false in
    record { value = sym e; left = c.pack_rows.ensures ∙ sym (ap (λ (v : Verdict). after v a.table.now (packed_rows a.entries a.m a.rows.now)) e) }

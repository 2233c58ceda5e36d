-- `rows::pack_rows` meets its contract. The invariant: the table holds the first e equations.
use mathlib.Core.Path.{◌≡◌, sym, ap, ◌∙◌}
use Prim.Native.Nat.{ℕ, ◌*◌}
use native.Mathlib.Omega.{arith}
use lib.ListN.{length}
use Rattle.std.proofs.Common.{rules}
use Rattle.tables.specs.Words.{packed_rows}
use Rattle.rows.proofs.PackLaw.{packed_none, packed_part, part_length, row_within, row_small}
use Rattle.rows.proofs.pack_rows.Goals as goal

pub loop-e-init : goal.loop-e-init
loop-e-init c =
    let a = c.args in
    let q = c.requires in
    (c.fill.ensures.len ∙ q.3, c.fill.ensures.after (λ y h. search rules) ∙ packed_none a.entries a.rows.now (length a.table.now) q.3)

pub overflow_mul-at : goal.overflow_mul-at
overflow_mul-at c =
    let a = c.args in
    let q = c.requires in
    let w = row_within c.loop-e.e a.m a.entries (omega arith) in
    omega (arith, row_small a.m a.entries q.1 q.0)

pub overflow_add-at : goal.overflow_add-at
overflow_add-at c =
    let a = c.args in
    let q = c.requires in
    let w = row_within c.loop-e.e a.m a.entries (omega arith) in
    omega (arith, row_small a.m a.entries q.1 q.0)

pub slice_bounds-pack_row-count : goal.slice_bounds-pack_row-count
slice_bounds-pack_row-count c = omega arith

pub slice_bounds-pack_row-start : goal.slice_bounds-pack_row-start
slice_bounds-pack_row-start c =
    let a = c.args in
    let q = c.requires in
    let w = row_within c.loop-e.e a.m a.entries (omega arith) in
    omega (arith, row_small a.m a.entries q.1 q.0)

pub slice_bounds-pack_row-end : goal.slice_bounds-pack_row-end
slice_bounds-pack_row-end c =
    let a = c.args in
    let q = c.requires in
    let w = row_within c.loop-e.e a.m a.entries (omega arith) in
    omega (arith, q.2)

pub pack_row-requires : goal.pack_row-requires
pack_row-requires c =
    let a = c.args in
    let q = c.requires in
    let l = c.loop-e in
    l.invariant.0 ∙ ap (λ (x : ℕ). 2 * x) (sym (part_length a.rows.now l.e a.m a.entries (omega arith) q.2))

pub loop-e-preserved : goal.loop-e-preserved
loop-e-preserved c =
    let a = c.args in
    let q = c.requires in
    let l = c.loop-e in
    let p = c.pack_row in
    (p.auto.table ∙ l.invariant.0, packed_part a.entries a.rows.now l.e a.m l.table p.new.table (omega arith) q.1 q.2 l.invariant.1 p.ensures)

pub shape_of-table : goal.shape_of-table
shape_of-table c = c.loop-e.invariant.0 ∙ sym c.requires.3

pub returns : goal.returns
returns c =
    let a = c.args in
    let l = c.loop-e in
    let e : l.e ≡ a.m = omega arith in
    l.invariant.1 ∙ ap (λ (x : ℕ). packed_rows a.entries x a.rows.now) e

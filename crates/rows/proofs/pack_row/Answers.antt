-- `rows::pack_row` meets its contract. The invariant: the first k entries have their trit e.
use mathlib.Core.Path.{◌≡◌, ap, ◌∙◌}
use native.Mathlib.Omega.{arith}
use lib.IntN.{pos}
use mir.Syntax.{w8}
use mir.ValLaws.{to_z-of_z}
use lib.ListN.{length, get_or}
use Rattle.residues.specs.Residue.{floor_mod}
use Rattle.trits.specs.Words.{Put}
use Rattle.rows.proofs.PackLaw.{row_begun, row_step}
use Rattle.rows.proofs.pack_row.Goals as goal

pub loop-k-init : goal.loop-k-init
loop-k-init c = let a = c.args in row_begun a.row.now a.e a.table.now

pub vector-requires : goal.vector-requires
vector-requires c = let l = c.loop-k in omega (arith, c.requires, l.invariant.size)

pub put_entry-requires : goal.put_entry-requires
put_entry-requires c = let l = c.loop-k in omega (arith, c.requires, l.invariant.size)

pub loop-k-preserved : goal.loop-k-preserved
loop-k-preserved c =
    let l = c.loop-k in
    let a = c.args in
    let q = c.requires in
    let p = c.put_entry in
    let r : c.from-t.result ≡ floor_mod 3 (get_or a.row.now l.k (pos 0)) = c.from-t.ensures ∙ c.remainder.ensures.computed ∙ ap (floor_mod 3) (to_z-of_z w8 (get_or a.row.now l.k (pos 0)) (record { sfits = c.remainder-arg-1.given })) in
    let w : Put c.vector.result a.e (floor_mod 3 (get_or a.row.now l.k (pos 0))) c.with_trit-v.result = rw (← r) c.with_trit-v.ensures in
    rw p.ensures (row_step a.row.now a.e l.k a.table.now l.table c.vector.result c.with_trit-v.result
    (omega (arith, q, l.invariant.size)) c.vector.ensures w l.invariant)

pub shape_of-table : goal.shape_of-table
shape_of-table c = c.loop-k.invariant.size

pub returns : goal.returns
returns c =
    let l = c.loop-k in
    let e : l.k ≡ length c.args.row.now = omega arith in
    rw e at l.invariant

-- `opening::parts::first_two` meets its contract: the room is the front of 462 words.
use native.Mathlib.Omega.{arith}
use lib.ListN.{length-take}
use Rattle.given.specs.Told.{told_two}
use Rattle.given.proofs.TableLaw.{within, table_of_lem}
use Rattle.tables.proofs.IndexLaw.{count_le}
use Rattle.opening.proofs.parts.first_two.Goals as goal

pub slice_bounds-c-end : goal.slice_bounds-c-end
slice_bounds-c-end c = omega (arith, (table_of_lem c.args.table.n c.args.table.m c.args.table.words.now c.requires.0).size, count_le c.args.table.n (within (told_two c.args.table) c.requires.0).most)

pub slice_bounds-fill-end : goal.slice_bounds-fill-end
slice_bounds-fill-end c = simp length-take (omega (arith, (table_of_lem c.args.table.n c.args.table.m c.args.table.words.now c.requires.0).size, count_le c.args.table.n (within (told_two c.args.table) c.requires.0).most))

pub fill-requires : goal.fill-requires
fill-requires c = (c.requires.0, c.requires.1, simp length-take (omega (arith, (table_of_lem c.args.table.n c.args.table.m c.args.table.words.now c.requires.0).size, count_le c.args.table.n (within (told_two c.args.table) c.requires.0).most)))

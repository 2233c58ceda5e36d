use Rattle.rows.specs.Parts.{RowPacked}
use Rattle.rows.proofs.pack_row.Given as goal

abbrev pub invariant-loop-k : goal.invariant-loop-k
invariant-loop-k l = RowPacked l.row l.e l.k l.initial.table l.table

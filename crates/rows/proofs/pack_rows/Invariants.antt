use mathlib.Core.Path.{◌≡◌}
use Prim.Native.Nat.{◌*◌}
use lib.ListN.{length}
use Rattle.tables.specs.Words.{packed_rows}
use Rattle.rows.proofs.pack_rows.Given as goal

abbrev pub invariant-loop-e : goal.invariant-loop-e
invariant-loop-e l = (length l.table ≡ 2 * l.entries) × (l.table ≡ packed_rows l.entries l.e l.rows)

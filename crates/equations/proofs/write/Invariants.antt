use mathlib.Core.Path.{◌≡◌}
use Prim.Native.Nat.{◌*◌}
use lib.ListN.{length}
use Rattle.tables.specs.Monomials.{count_of}
use Rattle.tables.specs.Words.{words_of}
use Rattle.equations.specs.Equations.{system_of}
use Rattle.graphs.specs.Scans.{edges_of}
use Rattle.equations.proofs.write.Given as goal

abbrev pub invariant-loop-e : goal.invariant-loop-e
invariant-loop-e l = (length l.table ≡ 2 * count_of l.g.vertices) × (l.table ≡ words_of l.g.vertices l.e (system_of (edges_of l.g)))

use mathlib.Core.Path.{◌≡◌}
use lib.ListN.{length}
use Rattle.cubic_moves.specs.Step.{walk_of}
use Rattle.cubic_tables.specs.Words.{triple_at}
use Rattle.cubic_walk.specs.Run.{state_of}
use Rattle.cubic_moves.proofs.NearLaw.{counts}
use Rattle.walks.proofs.WalkedLaw.{Walked}
use Rattle.cubic_walk.proofs.run.Given as goal

abbrev pub invariant-loop-start : goal.invariant-loop-start
invariant-loop-start l =
    (l.len ≡ length l.initial.list) × Walked 3 (walk_of l.n (triple_at l.table l.n)) counts 3 l.end l.budget l.left (state_of l.initial.r l.initial.list) (state_of l.r l.list)

abbrev pub decreases-loop-start : goal.decreases-loop-start
decreases-loop-start l = l.left

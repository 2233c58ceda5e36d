use mathlib.Core.Path.{◌≡◌}
use lib.ListN.{length}
use Rattle.cubic_moves.specs.Step.{walk_of}
use Rattle.cubic_tables.specs.Words.{triple_at}
use Rattle.cubic_moves.proofs.NearLaw.{counts, state_by}
use Rattle.walks.proofs.WalkedLaw.{Walked}
use Rattle.cubic_walk.proofs.steps.steps.Given as goal

abbrev pub invariant-loop-f : goal.invariant-loop-f
invariant-loop-f l =
    (l.len ≡ length l.initial.list) × Walked 3 (walk_of l.n (triple_at l.table l.n)) counts 3 l.end l.budget l.left (state_by l.initial.place l.initial.value l.initial.slots l.initial.seconds l.initial.cost l.initial.found l.initial.list) (state_by l.place l.value l.slots l.seconds l.cost l.found l.list)

abbrev pub decreases-loop-f : goal.decreases-loop-f
decreases-loop-f l = l.left

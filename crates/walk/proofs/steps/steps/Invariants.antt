use mathlib.Core.Path.{◌≡◌}
use lib.ListN.{length}
use Rattle.walk.proofs.WalkedLaw.{Walked, state_by}
use Rattle.walk.proofs.steps.steps.Given as goal

abbrev pub invariant-loop-f : goal.invariant-loop-f
invariant-loop-f l =
    (l.len ≡ length l.initial.list) × Walked l.table l.n l.end l.budget l.left (state_by l.initial.place l.initial.value l.initial.slots l.initial.additions l.initial.found l.initial.list) (state_by l.place l.value l.slots l.additions l.found l.list)

abbrev pub decreases-loop-f : goal.decreases-loop-f
decreases-loop-f l = l.left

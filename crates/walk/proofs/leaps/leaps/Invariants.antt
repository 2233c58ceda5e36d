use mathlib.Core.Path.{◌≡◌}
use lib.ListN.{length}
use Rattle.walk.proofs.LeapsLaw.{Kept}
use Rattle.walk.proofs.leaps.leaps.Given as goal

abbrev pub invariant-loop-top : goal.invariant-loop-top
invariant-loop-top l = (l.len ≡ length l.initial.list) × Kept l.table l.n l.end l.budget l.left l.initial.list l.list l.initial.slots l.slots l.initial.x l.x

abbrev pub decreases-loop-top : goal.decreases-loop-top
decreases-loop-top l = l.left

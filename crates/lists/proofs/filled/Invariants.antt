use mathlib.Core.Path.{◌≡◌}
use Prim.Native.Nat.{◌-◌, ◌<◌}
use lib.ListN.{length}
use Rattle.lists.proofs.PieceLaw.{Held}
use Rattle.given.specs.Told.{told}
use Rattle.opening.specs.First.{whole_of}
use Rattle.lists.proofs.filled.Given as goal

abbrev pub invariant-loop-stop : goal.invariant-loop-stop
invariant-loop-stop l =
    Held (told l.table) (whole_of l.table.degree l.initial.s l.initial.seconds) l.budget l.initial.list (l.budget - l.left) l.left l.at l.additions l.list (whole_of l.table.degree l.s l.seconds) × (0 < length l.words) × (length l.words ≡ length l.initial.words)
    × (length l.seconds ≡ length l.initial.seconds)

abbrev pub decreases-loop-stop : goal.decreases-loop-stop
decreases-loop-stop l = l.left

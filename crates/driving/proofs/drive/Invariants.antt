use mathlib.Core.Path.{◌≡◌}
use Prim.Native.Nat.{◌+◌, ◌-◌, ◌*◌, ◌^◌, ◌≤◌}
use lib.ListN.{length}
use Rattle.planner.proofs.DriveLaw.{calls_left}
use Rattle.driving.proofs.CountLaw.{Counted}
use Rattle.driving.proofs.drive.Given as goal

abbrev pub invariant-loop-s : goal.invariant-loop-s
invariant-loop-s l =
    Counted l.table l.initial.s l.first l.s l.sent × (length l.list ≡ length l.initial.list) × (length l.text ≡ length l.initial.text) × (1 ≤ length l.list) × (63 * length l.list + 92 ≤ length l.text) × (length l.text ≤ 65536)

abbrev pub decreases-loop-s : goal.decreases-loop-s
decreases-loop-s l = calls_left l.s.open (3 ^ l.s.n - l.s.points)

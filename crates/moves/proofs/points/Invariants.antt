use mathlib.Core.Path.{◌≡◌}
use Prim.Native.Nat.{◌-◌, ◌≤◌}
use lib.ListN.{length}
use Rattle.gray.specs.Numbers.{point_of}
use Rattle.moves.specs.Moves.{turned_in}
use Rattle.moves.proofs.points.Given as goal

abbrev pub invariant-loop-i : goal.invariant-loop-i
invariant-loop-i l = (l.from ≤ l.i) × (length l.list ≡ length l.initial.list) × (l.list ≡ turned_in (point_of 3 l.n) l.from (l.i - l.from) l.initial.list)

use mathlib.Core.Path.{◌≡◌}
use mathlib.Core.List.{◌++◌}
use Prim.Native.Nat.{◌*◌, ◌≤◌}
use lib.ListN.{length, take, drop}
use Rattle.listing.specs.Listing.{layout_lines}
use Rattle.listing.proofs.put_layouts.Given as goal

abbrev pub invariant-loop-point : goal.invariant-loop-point
invariant-loop-point l = (l.next ≤ 63 * l.point-index) × (length l.text ≡ length l.initial.text) × (take l.next l.text ++ layout_lines l.n (drop l.point-index l.points) ≡ layout_lines l.n l.points) × (drop l.next l.text ≡ drop l.next l.initial.text)

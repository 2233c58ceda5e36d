use mathlib.Core.Path.{◌≡◌}
use mathlib.Core.List.{◌++◌}
use Prim.Native.Nat.{◌+◌, ◌*◌}
use lib.ListN.{length, take, drop}
use Rattle.wire.specs.Wire.{vectors_of}
use Rattle.wire.proofs.first_of.Given as goal

abbrev pub invariant-loop-i : goal.invariant-loop-i
invariant-loop-i l = (length l.slots ≡ 20) × (take l.i l.slots ++ vectors_of (drop (5 + 2 * l.i) l.w) ≡ vectors_of (drop 5 l.w))

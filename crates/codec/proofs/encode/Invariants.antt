use mathlib.Core.Path.{◌≡◌}
use Prim.Native.Nat.{◌*◌}
use lib.ListN.{length, take}
use Rattle.codec.specs.Codec.{bytes_from, pasted}
use Rattle.codec.proofs.encode.Given as goal

abbrev pub invariant-loop-i : goal.invariant-loop-i
invariant-loop-i l = (length l.b ≡ length l.initial.b) × (l.b ≡ pasted l.initial.b (8 * l.at) (bytes_from (take l.i l.w)))

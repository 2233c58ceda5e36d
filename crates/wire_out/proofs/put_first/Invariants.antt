use mathlib.Core.Path.{◌≡◌}
use mathlib.Core.List.{◌++◌}
use Prim.Native.Nat.{◌+◌, ◌*◌}
use lib.ListN.{length, take}
use Rattle.wire.specs.Wire.{words_from}
use Rattle.wire.proofs.WireLaw.{front}
use Rattle.wire_out.proofs.put_first.Given as goal

abbrev pub invariant-loop-i : goal.invariant-loop-i
invariant-loop-i l = (length l.w ≡ 45) × (take (5 + 2 * l.i) l.w ≡ front l.r ++ words_from (take l.i l.r.slots))

use mathlib.Core.Path.{◌≡◌}
use lib.ListN.{length, take}
use Rattle.codec.specs.Codec.{words_of}
use Rattle.codec.proofs.decode.Given as goal

abbrev pub invariant-loop-i : goal.invariant-loop-i
invariant-loop-i l = (length l.out ≡ length l.initial.out) × (take l.i l.out ≡ words_of l.i l.b)

use mathlib.Core.Path.{◌≡◌}
use mathlib.Core.List.{◌++◌}
use Prim.Native.Nat.{suc, ◌^◌, ◌<◌}
use lib.ListN.{length, drop}
use Rattle.texts.specs.Text.{decimal_in}
use Rattle.texts.proofs.spell.Given as goal

abbrev pub invariant-loop-rest : goal.invariant-loop-rest
invariant-loop-rest l = (l.i < 20) × (length l.bytes ≡ 20) × (l.rest < 10 ^ suc l.i) × (decimal_in (suc l.i) l.rest ++ drop (suc l.i) l.bytes ≡ decimal_in 20 l.x)

abbrev pub decreases-loop-rest : goal.decreases-loop-rest
decreases-loop-rest l = l.rest

use mathlib.Core.Path.{◌≡◌}
use Prim.Native.Nat.{◌^◌, ◌<◌}
use lib.ListN.{drop}
use Rattle.lines.specs.Lines.{decimal_from}
use Rattle.lines.proofs.decimal.Given as goal

abbrev pub invariant-loop-x : goal.invariant-loop-x
invariant-loop-x l = (l.value < 10 ^ l.x-index) × (decimal_from l.value (drop l.x-index l.bytes) ≡ decimal_from 0 l.bytes)

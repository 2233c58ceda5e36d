use mathlib.Core.Path.{◌≡◌}
use mathlib.Core.Bool.{◌&&◌}
use lib.Dec.{eqb}
use lib.ListN.{drop}
use Rattle.opening.specs.First.{all_zero}
use Rattle.wire.proofs.no_seconds.Given as goal

abbrev pub invariant-loop-i : goal.invariant-loop-i
invariant-loop-i l = (eqb l.any 0 && all_zero (drop l.i l.b)) ≡ all_zero (drop 360 l.b)

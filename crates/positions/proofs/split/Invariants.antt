use mathlib.Core.Path.{◌≡◌}
use Prim.Native.Nat.{◌+◌, ◌*◌, ◌^◌, ◌<◌}
use Rattle.positions.specs.Positions.{lowest_of}
use Rattle.positions.proofs.split.Given as goal

abbrev pub invariant-loop-rest : goal.invariant-loop-rest
invariant-loop-rest l = (0 < l.p) × (0 < l.rest) × (lowest_of 3 l.p ≡ l.position + lowest_of 3 l.rest) × (l.p ≡ 3 ^ l.position * l.rest)

abbrev pub decreases-loop-rest : goal.decreases-loop-rest
decreases-loop-rest l = l.rest

use mathlib.Core.Path.{◌≡◌}
use Prim.Native.Nat.{◌+◌, ◌-◌, ◌*◌, ◌^◌, ◌<◌}
use Rattle.gray.specs.Numbers.{point_of}
use Rattle.gray.proofs.map.point_at.Given as goal

abbrev pub invariant-loop : goal.invariant-loop
invariant-loop l = (l.weight ≡ 3 ^ l.counter) × (l.point < l.weight) × (l.point + l.weight * point_of 3 (l.n - l.counter) l.rest ≡ point_of 3 l.n l.initial.rest)

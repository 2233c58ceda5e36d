use mathlib.Core.Path.{◌≡◌}
use Prim.Native.Nat.{◌-◌, ◌/◌, ◌^◌}
use Rattle.gray.specs.Numbers.{place_of}
use Rattle.gray.proofs.map.place_at.Given as goal

abbrev pub invariant-loop : goal.invariant-loop
invariant-loop l = (l.weight ≡ 3 ^ (l.n - l.counter)) × (l.place ≡ place_of 3 l.counter (l.point / l.weight))

use mathlib.Core.Path.{◌≡◌}
use Prim.Native.Nat.{◌-◌, ◌/◌, ◌^◌}
use Rattle.balanced.specs.Balanced.{turned}
use Rattle.balanced.proofs.turn.Given as goal

abbrev pub invariant-loop : goal.invariant-loop
invariant-loop l = (l.weight ≡ 3 ^ (l.n - l.counter)) × (l.number ≡ turned l.a l.counter (l.x / l.weight))

use mathlib.Core.Path.{◌≡◌}
use Prim.Native.Nat.{◌-◌, ◌^◌, ◌≤◌}
use Rattle.seconds.specs.Parts.{Filled}
use Rattle.seconds.proofs.seconds_at.Given as goal

abbrev pub invariant-loop-b : goal.invariant-loop-b
invariant-loop-b l = (l.power ≡ 3 ^ l.b) × Filled l.n l.table l.q l.b l.b l.s

use mathlib.Core.Path.{◌≡◌}
use Prim.Native.Nat.{◌-◌, ◌^◌}
use Rattle.opening.proofs.SlotsLaw.{Filled}
use Rattle.opening.proofs.parts.slots.Given as goal

abbrev pub invariant-loop-b : goal.invariant-loop-b
invariant-loop-b l = (l.power ≡ 3 ^ l.b) × (l.lower ≡ 3 ^ (l.b - 1)) × Filled l.n l.c l.q l.b l.s

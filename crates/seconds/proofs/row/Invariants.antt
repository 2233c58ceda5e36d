use mathlib.Core.Path.{◌≡◌}
use Prim.Native.Nat.{◌-◌, ◌^◌, ◌≤◌}
use Rattle.seconds.specs.Parts.{Filled}
use Rattle.seconds.proofs.row.Given as goal

abbrev pub invariant-loop-c : goal.invariant-loop-c
invariant-loop-c l =
    (l.power ≡ 3 ^ l.c) × (Filled l.n l.table l.q l.b l.b l.initial.out → Filled l.n l.table l.q l.b l.c l.out)

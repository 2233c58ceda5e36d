use mathlib.Core.Path.{◌≡◌}
use Prim.Native.Nat.{ℕ, ◌+◌, ◌-◌, ◌/◌, ◌^◌, ◌≤◌}
use Rattle.trits.specs.Trit.{Holds}
use Rattle.cubic_tables.specs.Words.{CubicTable, cubic_at}
use Rattle.weights.specs.Parts.{Ready}
use Rattle.cubic_value.specs.Parts.{value_to}
use Rattle.cubic_value.proofs.value_after.Given as goal

abbrev pub invariant-loop-b : goal.invariant-loop-b
invariant-loop-b l =
    (l.y ≡ l.q / 3 ^ l.b) × (l.from ≤ l.list.count) × Ready l.n 0 l.q l.list.at l.list.turn l.list.count (l.b + 1) l.from
    × ((m : ℕ) → CubicTable l.n m l.table → Holds m (λ e. value_to (cubic_at l.n l.table e) l.n l.q l.b) l.v)

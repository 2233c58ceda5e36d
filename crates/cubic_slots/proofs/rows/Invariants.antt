use mathlib.Core.Path.{◌≡◌}
use Prim.Native.Nat.{ℕ, ◌+◌, ◌-◌, ◌/◌, ◌^◌, ◌≤◌}
use Rattle.trits.specs.Trit.{Holds}
use Rattle.cubic_tables.specs.Words.{CubicTable, cubic_at}
use Rattle.weights.specs.Parts.{Ready}
use Rattle.cubic_slots.specs.Parts.{slot_to}
use Rattle.cubic_slots.proofs.rows.Given as goal

abbrev pub invariant-loop-c : goal.invariant-loop-c
invariant-loop-c l =
    (l.y ≡ l.rest / 3 ^ l.c) × (l.from ≤ l.list.count) × Ready l.n l.b l.rest l.list.at l.list.turn l.list.count (l.c + 1) l.from
    × ((m q : ℕ) → CubicTable l.n m l.table → l.rest ≡ q - 3 ^ l.b → Holds m (λ e. slot_to (cubic_at l.n l.table e) l.n l.b q (l.b + 1)) l.initial.v → Holds m (λ e. slot_to (cubic_at l.n l.table e) l.n l.b q l.c) l.v)

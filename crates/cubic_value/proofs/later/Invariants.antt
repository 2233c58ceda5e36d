use mathlib.Core.Path.{◌≡◌}
use Prim.Native.Nat.{ℕ, ◌+◌, ◌-◌, ◌/◌, ◌^◌, ◌≤◌}
use Rattle.residues.specs.Sums.{sum}
use Rattle.trits.specs.Trit.{Holds}
use Rattle.cubic_tables.specs.Words.{CubicTable, cubic_at}
use Rattle.weights.specs.Parts.{Ready}
use Rattle.cubic_value.specs.Parts.{later_to}
use Rattle.cubic_value.proofs.later.Given as goal

abbrev pub invariant-loop-c : goal.invariant-loop-c
invariant-loop-c l =
    (l.z ≡ l.q / 3 ^ l.c) × (l.f ≤ l.list.count) × Ready l.n 0 l.q l.list.at l.list.turn l.list.count (l.c + 1) l.f
    × ((m : ℕ) → CubicTable l.n m l.table → Holds m (λ e. (cubic_at l.n l.table e).lin l.b + sum (l.c - (l.b + 2)) (λ k. later_to (cubic_at l.n l.table e) l.n l.b (l.b + 2 + k) l.q)) l.v)

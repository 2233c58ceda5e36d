use mathlib.Core.Path.{◌≡◌}
use Prim.Native.Nat.{ℕ, ◌+◌, ◌-◌, ◌/◌, ◌^◌, ◌≤◌}
use Rattle.trits.specs.Trit.{Holds}
use Rattle.cubic_tables.specs.Words.{CubicTable, cubic_at}
use Rattle.seconds.specs.Parts.{counted_to}
use Rattle.seconds.proofs.second.Given as goal

abbrev pub invariant-loop-d : goal.invariant-loop-d
invariant-loop-d l =
    (l.y ≡ l.rest / 3 ^ l.d)
    × ((m q : ℕ) → CubicTable l.n m l.table → l.rest ≡ q - (3 ^ l.b + 3 ^ l.c) → Holds m (λ e. counted_to (cubic_at l.n l.table e) l.b l.c q l.d) l.v)

-- The second slots of a cubic record, as words.
use Rattle.std.specs.Prelude.{◌≡◌, List, [], ◌∷◌, ℕ, ◌≤◌, ◌<◌, length}
use Rattle.trits.specs.Trit.{Holds, none}
use Rattle.tables.specs.Words.{entry}
use Rattle.held.specs.Held.{held, along}
use Rattle.cubics.specs.Cubic.{cubic_of}
use Rattle.cubics.specs.Whole.{back_cubic}
use Rattle.cubic_tables.specs.Order.{seat_of}
use Rattle.cubic_tables.specs.Words.{CubicTable, cubic_at}

-- s has at the seat of b, c what is held for b, c after place q, in each equation of the system that the table of differences t comes from,
-- and nothing at the seats of other pairs
pub record Seconds (n : ℕ) (t : List ℕ) (q : ℕ) (s : List ℕ) : Type 0 where
  pub long : length s ≡ 420
  pub used : (m : ℕ) → CubicTable n m t → (b c : ℕ) → b ≤ c → c < n
      → Holds m (λ e. held 3 (along 3 (cubic_of (back_cubic n (cubic_at n t e)) n)) (b ∷ c ∷ []) q) (entry s (seat_of b c))
  pub unused : (b c : ℕ) → b ≤ c → n ≤ c → c < 20 → entry s (seat_of b c) ≡ none

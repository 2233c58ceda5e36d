-- What the parts of the second slots give: for the code alone; a reader goes by specs/Seconds.
use Rattle.std.specs.Prelude.{◌≡◌, List, [], ◌∷◌, ℕ, ◌+◌, ◌*◌, ◌≤◌, ◌<◌, length}
use Rattle.residues.specs.Sums.{sum}
use Rattle.trits.specs.Trit.{Holds, none}
use Rattle.tables.specs.Words.{entry}
use Rattle.held.specs.Held.{held, along}
use Rattle.held.specs.Visits.{visits}
use Rattle.cubics.specs.Cubic.{Cubic, cubic_of}
use Rattle.cubics.specs.Whole.{back_cubic}
use Rattle.cubic_tables.specs.Order.{seat_of}
use Rattle.cubic_tables.specs.Words.{CubicTable, cubic_at}

-- of a table f the entry of b, c, and those of b, c and each unknown below d, as often as places up to q began with these
unfoldable pub counted_to : Cubic → ℕ → ℕ → ℕ → ℕ → ℕ
counted_to f b c q d = f.quad b c + sum d (λ k. visits 3 (b ∷ c ∷ k ∷ []) q * f.cube b c k)

-- second slots filled in the order of the pairs up to b, c, which is not among them
pub record Filled (n : ℕ) (t : List ℕ) (q b c : ℕ) (s : List ℕ) : Type 0 where
  pub long : length s ≡ 420
  pub rows : (m : ℕ) → CubicTable n m t → (i j : ℕ) → i < b → i ≤ j → j < n
      → Holds m (λ e. held 3 (along 3 (cubic_of (back_cubic n (cubic_at n t e)) n)) (i ∷ j ∷ []) q) (entry s (seat_of i j))
  pub row : (m : ℕ) → CubicTable n m t → (j : ℕ) → b ≤ j → j < c
      → Holds m (λ e. held 3 (along 3 (cubic_of (back_cubic n (cubic_at n t e)) n)) (b ∷ j ∷ []) q) (entry s (seat_of b j))
  pub rest : (i j : ℕ) → i ≤ j → j < 20 → (i < b → n ≤ j) → (i ≡ b → c ≤ j) → entry s (seat_of i j) ≡ none

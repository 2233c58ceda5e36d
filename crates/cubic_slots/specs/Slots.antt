-- The slots of a cubic record.
use Rattle.std.specs.Prelude.{◌≡◌, List, [], ◌∷◌, ℕ, ◌≤◌, ◌<◌, length, get_or}
use Rattle.trits.specs.declared.Vector.{Vector}
use Rattle.trits.specs.Trit.{Holds, none}
use Rattle.held.specs.Held.{held, along}
use Rattle.cubics.specs.Cubic.{cubic_of}
use Rattle.cubics.specs.Whole.{back_cubic}
use Rattle.cubic_tables.specs.Words.{CubicTable, cubic_at}

-- twenty slots: the first n hold what is held for each unknown after place q, in each equation of the system that the table of differences t
-- comes from; the others are zero
pub record CubicSlots (n : ℕ) (t : List ℕ) (q : ℕ) (s : List Vector) : Type 0 where
  pub long : length s ≡ 20
  pub used : (m : ℕ) → CubicTable n m t → (b : ℕ) → b < n → Holds m (λ e. held 3 (along 3 (cubic_of (back_cubic n (cubic_at n t e)) n)) (b ∷ []) q) (get_or s b none)
  pub unused : (b : ℕ) → n ≤ b → get_or s b none ≡ none

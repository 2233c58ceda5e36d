-- What the code on positions answers: a number taken apart at its first position, and one entry of a list of positions.
use Rattle.std.specs.Prelude.{◌≡◌, List, [], ◌∷◌, ℕ, zero, suc, ◌*◌, ◌^◌, ◌<◌, Some, None, Option}
use Rattle.positions.specs.Positions.{lowest_of}
use Rattle.positions.specs.declared.Parts.{Parts}

-- r is p taken apart: its first position, and what is left after division by 3 to that position
pub record Splits (p : ℕ) (r : Parts) : Type 0 where
  pub position : r.position ≡ lowest_of 3 p
  pub whole : p ≡ 3 ^ r.position * r.rest
  pub above : 0 < p → 0 < r.rest

-- entry k of a list of positions
unfoldable pub position_at : List ℕ → ℕ → Option ℕ
position_at [] k = None
position_at (l ∷ ls) zero = Some l
position_at (l ∷ ls) (suc k) = position_at ls k

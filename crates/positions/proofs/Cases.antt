-- Document 01's cases by hand that are about positions: each is computed.
use mathlib.Core.Path.{◌≡◌, refl}
use mathlib.Core.List.{[], ◌∷◌}
use Rattle.positions.specs.Positions.{lowest_in, lowest_of, positions_in, positions}

-- the rows of this crate: positions of 5, of 2 and of 0
pub record Cases : Type 0 where
  pub five : positions 3 5 ≡ 0 ∷ 0 ∷ 1 ∷ []
  pub two : positions 3 2 ≡ 0 ∷ 0 ∷ []
  pub none : positions 3 0 ≡ []

pub cases : Cases
unfolding lowest_in lowest_of positions_in positions
cases = record { five = refl; two = refl; none = refl }

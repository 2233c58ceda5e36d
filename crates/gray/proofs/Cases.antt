-- Document 01's cases by hand that are about places and points: each is computed.
use mathlib.Core.Path.{◌≡◌, refl}
use mathlib.Core.List.{List, [], ◌∷◌}
use Prim.Native.Nat.{ℕ}
use Rattle.residues.specs.Sums.{sum}
use Rattle.gray.specs.Numbers.{digit, number, point_digit, point_of, place_digit, place_of}

abbrev map : {A B : Type 0} → (A → B) → List A → List B
map f [] = []
map f (x ∷ xs) = f x ∷ map f xs

abbrev to_eight : List ℕ
to_eight = 0 ∷ 1 ∷ 2 ∷ 3 ∷ 4 ∷ 5 ∷ 6 ∷ 7 ∷ 8 ∷ []

-- the rows of this crate
pub record Cases : Type 0 where
  -- places 0 to 8 at n = 2, and back
  pub points : map (point_of 3 2) to_eight ≡ 0 ∷ 1 ∷ 2 ∷ 5 ∷ 3 ∷ 4 ∷ 7 ∷ 8 ∷ 6 ∷ []
  pub places : map (place_of 3 2) (0 ∷ 1 ∷ 2 ∷ 5 ∷ 3 ∷ 4 ∷ 7 ∷ 8 ∷ 6 ∷ []) ≡ to_eight

pub cases : Cases
unfolding digit number point_digit point_of place_digit place_of sum
cases = record { points = refl; places = refl }

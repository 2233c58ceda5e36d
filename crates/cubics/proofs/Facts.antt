-- Computed from the definitions: document 01's edge equation, and a cubic equation in two unknowns.
use mathlib.Core.Path.{◌≡◌, refl}
use mathlib.Core.List.{List, [], ◌∷◌, map}
use Prim.Native.Nat.{ℕ, zero, suc, ◌%◌}
use Rattle.residues.specs.Sums.{sum, same}
use Rattle.gray.specs.Numbers.{digit, point_digit}
use Rattle.positions.specs.Positions.{lowest_in, lowest_of, positions_in, positions}
use Rattle.polynomials.specs.Poly.{Poly, value_of}
use Rattle.held.specs.Held.{begins, first_of, latest_of, change, entry, move, along}
use Rattle.cubics.specs.Cubic.{Cubic, cubes_of, cubic_of}
use Rattle.held.proofs.DegreeLaw.{walked}

-- x0² + x0 x1 + x1² + 2
unfoldable pub edge : Poly
edge = record { const = 2; lin = λ i. 0; quad = λ i j. 1 }

-- document 01's differences
pub edge_table : map (λ (L : List ℕ). entry 3 (along 3 (value_of edge 2)) L % 3) ([] ∷ (0 ∷ []) ∷ (1 ∷ []) ∷ (0 ∷ 0 ∷ []) ∷ (0 ∷ 1 ∷ []) ∷ (1 ∷ 1 ∷ []) ∷ [])
    ≡ 2 ∷ 1 ∷ 0 ∷ 2 ∷ 0 ∷ 1 ∷ []
unfolding entry first_of change latest_of begins positions positions_in lowest_of lowest_in point_digit digit value_of sum edge
edge_table = refl

-- x0² x1 + 2 x0 x1² + x1² + x0 + 1 in the order 1, x0, x1, x0², x0 x1, x1², x0² x1, x0 x1²
unfoldable pub mixed : Cubic
mixed = record { const = 1; lin = λ i. same i 0; quad = λ i j. same i 1; cube = λ i j k. elim (same j 0) [ zero ↦ elim (same i 1) [ zero ↦ 2 | suc s ↦ 0 ] | suc s ↦ elim (same k 0) [ zero ↦ 1 | suc t ↦ 0 ] ] }

pub mixed_table : map (λ (L : List ℕ). entry 3 (along 3 (cubic_of mixed 2)) L % 3)
    ([] ∷ (0 ∷ []) ∷ (1 ∷ []) ∷ (0 ∷ 0 ∷ []) ∷ (0 ∷ 1 ∷ []) ∷ (1 ∷ 1 ∷ []) ∷ (0 ∷ 0 ∷ 1 ∷ []) ∷ (0 ∷ 1 ∷ 1 ∷ []) ∷ []) ≡ 1 ∷ 1 ∷ 0 ∷ 0 ∷ 1 ∷ 1 ∷ 2 ∷ 1 ∷ []
unfolding entry first_of change latest_of begins positions positions_in lowest_of lowest_in point_digit digit value_of sum same mixed cubic_of cubes_of
mixed_table = refl

-- x0² + x0 x1 + x1² + 2 modulo 5
pub edge_five : map (λ (L : List ℕ). entry 5 (along 5 (value_of edge 2)) L % 5) ([] ∷ (0 ∷ []) ∷ (1 ∷ []) ∷ (0 ∷ 0 ∷ []) ∷ (0 ∷ 1 ∷ []) ∷ (1 ∷ 1 ∷ []) ∷ [])
    ≡ 2 ∷ 1 ∷ 0 ∷ 2 ∷ 3 ∷ 1 ∷ []
unfolding entry first_of change latest_of begins positions positions_in lowest_of lowest_in point_digit digit value_of sum edge
edge_five = refl

-- the walk from the table, place by place: the values of the edge equation at the points 0, 1, 2, 5, 3, 4, 7, 8, 6
pub edge_walk : map (λ (p : ℕ). walked 3 2 (λ L. entry 3 (along 3 (value_of edge 2)) L % 3) p []) (0 ∷ 1 ∷ 2 ∷ 3 ∷ 4 ∷ 5 ∷ 6 ∷ 7 ∷ 8 ∷ [])
    ≡ 2 ∷ 0 ∷ 0 ∷ 0 ∷ 0 ∷ 2 ∷ 0 ∷ 2 ∷ 0 ∷ []
unfolding entry first_of change latest_of begins positions positions_in lowest_of lowest_in point_digit digit value_of sum edge walked move same
edge_walk = refl

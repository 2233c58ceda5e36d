-- The premise is sharp: where the degrees together are the number of unknowns, the zeros need not be a multiple of 3. By computation.
use mathlib.Core.Path.{◌≡◌, refl}
use Prim.Native.Nat.{◌*◌, ◌^◌}
use lib.ListN.{length}
use Rattle.residues.specs.Sums.{sum, same}
use Rattle.gray.specs.Numbers.{digit, point_digit}
use Rattle.walks.specs.Calls.{zeros_in}
use Rattle.held.specs.Stands.{zeros, trail_of}
use Rattle.polynomials.specs.Poly.{Poly, value_of}
use Rattle.cubics.specs.Cubic.{Cubic, cubes_of, cubic_of}

-- x0² + x1²
abbrev pub squares : Poly
squares = record { const = 0; lin = λ i. 0; quad = same }

-- at m = 1 and n = 2, where 2m is n, it has one zero
pub two_sharp : length (zeros_in (trail_of 3 2 (λ e. value_of squares 2) 2 1 (3 ^ 2)) 0 (3 ^ 2)) ≡ 1
unfolding sum same digit point_digit zeros_in zeros value_of
two_sharp = refl

-- x0 x1 x2
abbrev pub product : Cubic
product = record { const = 0; lin = λ i. 0; quad = λ i j. 0; cube = λ i j k. same i 0 * (same j 1 * same k 2) }

-- at m = 1 and n = 3, where 3m is n, it has 19 zeros
pub three_sharp : length (zeros_in (trail_of 3 3 (λ e. cubic_of product 3) 3 1 (3 ^ 3)) 0 (3 ^ 3)) ≡ 19
unfolding sum same digit point_digit zeros_in zeros value_of cubes_of cubic_of
three_sharp = refl

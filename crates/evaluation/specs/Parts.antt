-- One row of the sum that an evaluation is.
use Rattle.std.specs.Prelude.{ℕ, ◌+◌, ◌-◌, ◌*◌}
use Rattle.residues.specs.Sums.{sum}
use Rattle.polynomials.specs.Poly.{Poly}

-- what unknown i is multiplied by at x: its own coefficient, and those of its products with itself and the later ones
unfoldable pub row_of : Poly → ℕ → ℕ → (ℕ → ℕ) → ℕ
row_of f n i x = f.lin i + sum (n - i) (λ d. f.quad i (i + d) * x (i + d))

-- The parts of the sum that the value of a cubic is.
use Rattle.std.specs.Prelude.{ℕ, ◌+◌, ◌-◌, ◌*◌}
use Rattle.residues.specs.Sums.{sum}
use Rattle.cubics.specs.Cubic.{Cubic}

-- what xi·xj is multiplied by: its own coefficient, and those of its products with xj and the later unknowns
unfoldable pub cell_sum : Cubic → ℕ → ℕ → ℕ → (ℕ → ℕ) → ℕ
cell_sum f n i j x = f.quad i j + sum (n - j) (λ d. f.cube i j (j + d) * x (j + d))

-- what xi is multiplied by
unfoldable pub plane_sum : Cubic → ℕ → ℕ → (ℕ → ℕ) → ℕ
plane_sum f n i x = f.lin i + sum (n - i) (λ d. cell_sum f n i (i + d) x * x (i + d))

-- Document 01's four formulas for the table of differences, modulo 3. Each minus term stands on the other side.
use Rattle.std.specs.Prelude.{◌≡◌, ℕ, suc, ◌+◌, ◌%◌, ◌<◌}
use Rattle.polynomials.specs.Poly.{Poly}

-- d holds the differences of the coefficients c; for i = 0 the terms in (i-1,i) are absent
pub record Formulas (c d : Poly) : Type 0 where
  pub constant : d.const % 3 ≡ c.const % 3
  pub single_first : d.lin 0 % 3 ≡ (c.lin 0 + c.quad 0 0) % 3
  pub single : (i : ℕ) → (d.lin (suc i) + c.quad i (suc i)) % 3 ≡ (c.lin (suc i) + c.quad (suc i) (suc i)) % 3
  pub square_first : (d.quad 0 0 + c.quad 0 0) % 3 ≡ 0
  pub square : (i : ℕ) → (d.quad (suc i) (suc i) + c.quad (suc i) (suc i) + c.quad i (suc i)) % 3 ≡ 0
  pub product_first : (j : ℕ) → 0 < j → (d.quad 0 j + c.quad 0 0) % 3 ≡ c.quad 0 j % 3
  pub product : (i j : ℕ) → suc i < j → (d.quad (suc i) j + c.quad (suc i) (suc i)) % 3 ≡ (c.quad (suc i) j + c.quad i (suc i)) % 3

-- A table that is filled unknown by unknown, and the formulas of both directions.
use Rattle.std.specs.Prelude.{◌≡◌, List, ℕ, zero, suc, ◌+◌, ◌*◌, ◌≤◌, ◌<◌}
use Rattle.trits.specs.declared.Vector.{Vector}
use Rattle.trits.specs.Trit.{trit, of_trits, none}
use Rattle.tables.specs.Monomials.{index_of}
use Rattle.tables.specs.Words.{entry}

-- the constant, the unknowns before i and their products stand in t as they do in g
pub record Filled (g : List ℕ) (n i : ℕ) (t : List ℕ) : Type 0 where
  pub singles : (k : ℕ) → k < 1 + i → entry t k ≡ entry g k
  pub products : (k : ℕ) → 1 + n ≤ k → k < index_of n i i → entry t k ≡ entry g k

-- the entry of the unknown before i and i, of which there is none at i = 0
unfoldable pub before_of : ℕ → List ℕ → ℕ → Vector
before_of n c zero = none
before_of n c (suc i) = entry c (index_of n i (suc i))

-- the later products of unknown i stand in g as they do in t, with f e more in equation e
abbrev pub Products : ℕ → ℕ → ℕ → List ℕ → (ℕ → ℕ) → List ℕ → Type 0
Products n m i t f g = (j : ℕ) → i < j → j < n → entry g (index_of n i j) ≡ of_trits m (λ e. trit (entry t (index_of n i j)) e + f e)

-- what stands in g for unknown i: the differences of the coefficients t, and as well the coefficients of the differences t.
-- p is the coefficient of the unknown before i and i; modulo 3 half is 2, so both directions are the same formulas.
pub record Turned (n m i : ℕ) (t : List ℕ) (p : Vector) (g : List ℕ) : Type 0 where
  pub single : entry g (1 + i) ≡ of_trits m (λ e. trit (entry t (1 + i)) e + trit (entry t (index_of n i i)) e + 2 * trit p e)
  pub square : entry g (index_of n i i) ≡ of_trits m (λ e. 2 * (trit (entry t (index_of n i i)) e + trit p e))
  pub products : Products n m i t (λ e. trit p e + 2 * trit (entry t (index_of n i i)) e) g

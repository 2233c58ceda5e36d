-- Polynomials of any degree by their monomials: the coefficient of xi xj .., for i ≤ j ≤ .., is f (i ∷ j ∷ ..).
use Rattle.std.specs.Prelude.{List, [], ◌∷◌, ℕ, zero, suc, ◌+◌, ◌-◌, ◌*◌}
use Rattle.residues.specs.Sums.{sum}
use Rattle.polynomials.specs.Poly.{Poly}

-- the terms of at most d unknowns from c on, below n, at x
unfoldable pub terms_of : ℕ → (List ℕ → ℕ) → ℕ → ℕ → (ℕ → ℕ) → ℕ
terms_of zero f c n x = f []
terms_of (suc d) f c n x = f [] + sum (n - c) (λ i. x (c + i) * terms_of d (λ L. f ((c + i) ∷ L)) (c + i) n x)

-- the coefficients of a polynomial of degree 2
unfoldable pub coefficients_of : Poly → List ℕ → ℕ
coefficients_of f [] = f.const
coefficients_of f (i ∷ []) = f.lin i
coefficients_of f (i ∷ j ∷ L) = f.quad i j

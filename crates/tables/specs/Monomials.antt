-- The order of the monomials: the constant; x0 to x(n-1); then for each i the products xi·xj for j from i to n-1.
use Rattle.std.specs.Prelude.{true, false, ℕ, zero, suc, ◌+◌, ◌-◌, ◌*◌, ◌/◌, ltb}
use Rattle.polynomials.specs.Poly.{Poly}

-- how many there are
unfoldable pub count_of : ℕ → ℕ
count_of n = 1 + 2 * n + n * (n - 1) / 2

-- how many products stand before those of xi with xi, .., x(n-1)
unfoldable pub row_start : ℕ → ℕ → ℕ
row_start n zero = 0
row_start n (suc i) = row_start n i + (n - i)

-- the number of xi·xj, i not above j
unfoldable pub index_of : ℕ → ℕ → ℕ → ℕ
index_of n i j = 1 + n + row_start n i + (j - i)

-- coefficient number d among the products, from row i on, of which r rows are left
unfoldable pub product_nth : Poly → ℕ → ℕ → ℕ → ℕ
product_nth f zero i d = 0
product_nth f (suc r) i d = elim (ltb d (suc r)) [ true ↦ f.quad i (i + d) | false ↦ product_nth f r (suc i) (d - suc r) ]

-- coefficient number k of a polynomial in n unknowns
unfoldable pub nth : ℕ → Poly → ℕ → ℕ
nth n f zero = f.const
nth n f (suc k) = elim (ltb k n) [ true ↦ f.lin k | false ↦ product_nth f n 0 (k - n) ]

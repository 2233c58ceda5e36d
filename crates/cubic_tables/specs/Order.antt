-- The order of the cubic monomials: those of degree up to 2 as in tables; then for each b the products xb·xc·xd for b ≤ c ≤ d in the order of the pairs c, d, without xb·xb·xb.
use Rattle.std.specs.Prelude.{true, false, ℕ, zero, suc, ◌+◌, ◌-◌, ◌*◌, ◌/◌, ltb}
use Rattle.polynomials.specs.Poly.{Poly}
use Rattle.tables.specs.Monomials.{count_of, row_start, product_nth, nth}
use Rattle.cubics.specs.Cubic.{Cubic, low_of}

-- how many products of three stand before those of xb: each row b has the pairs from b on, but for b, b
unfoldable pub triple_start : ℕ → ℕ → ℕ
triple_start n zero = 0
triple_start n (suc b) = triple_start n b + (row_start n n - row_start n b - 1)

-- how many monomials there are
unfoldable pub cubic_count : ℕ → ℕ
cubic_count n = count_of n + triple_start n n

-- the number of xb·xc·xd, b ≤ c ≤ d, not all equal; at b, b, b it is that of the first product of xb
unfoldable pub triple_index : ℕ → ℕ → ℕ → ℕ → ℕ
triple_index n b c d = count_of n + triple_start n b + (row_start n c - row_start n b + (d - c) - 1)

-- what is added to the number of the pair c, d among all pairs
unfoldable pub key_of : ℕ → ℕ → ℕ
key_of n b = count_of n + triple_start n b - row_start n b - 1

-- the number of the pair b, c among all pairs of n unknowns, and how many pairs there are
unfoldable pub pair_of : ℕ → ℕ → ℕ → ℕ
pair_of n b c = b * n - b * (b + 1) / 2 + c

unfoldable pub pairs_of : ℕ → ℕ
pairs_of n = n * (n + 1) / 2

-- where a record has its second slot of b, c: at the pair's number among 20 unknowns, whatever n is
abbrev pub seat_of : ℕ → ℕ → ℕ
seat_of b c = pair_of 20 b c

-- what xb is multiplied by in the products of three, as products of two
unfoldable pub plane_of : Cubic → ℕ → Poly
plane_of f b = record { const = 0; lin = λ i. 0; quad = f.cube b }

-- coefficient number d among the products of three, from unknown i on, of which r are left
unfoldable pub triple_nth : Cubic → ℕ → ℕ → ℕ → ℕ
triple_nth f zero i d = 0
triple_nth f (suc r) i d = elim (ltb d (row_start (suc r) (suc r) - 1)) [
  | true ↦ product_nth (plane_of f i) (suc r) i (suc d)
  | false ↦ triple_nth f r (suc i) (d - (row_start (suc r) (suc r) - 1))
]

-- coefficient number k of a cubic in n unknowns
unfoldable pub cubic_nth : ℕ → Cubic → ℕ → ℕ
cubic_nth n f k = elim (ltb k (count_of n)) [ true ↦ nth n (low_of f) k | false ↦ triple_nth f n 0 (k - count_of n) ]

-- the monomials themselves at x
unfoldable pub monomials_of : (ℕ → ℕ) → Cubic
monomials_of x = record { const = 1; lin = x; quad = λ i j. x i * x j; cube = λ i j k. x i * (x j * x k) }

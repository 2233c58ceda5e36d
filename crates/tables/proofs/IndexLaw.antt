-- Where a monomial stands: the closed form that the code computes, and that it is below the count.
use mathlib.Core.Path.{◌≡◌, refl, ap, ◌∙◌}
use Prim.Native.Nat.{ℕ, zero, suc, ◌+◌, ◌-◌, ◌*◌, ◌/◌, ◌≤◌, ◌<◌}
use native.Mathlib.Nat.{mul-le-mul_left, mul-le-mul_right}
use native.Mathlib.Omega.{arith}
use Rattle.tables.specs.Monomials.{count_of, row_start, index_of}

-- the rows before row i, doubled
pub twice_row : (n i : ℕ) → i ≤ n → 2 * row_start n i + i * i ≡ 2 * (i * n) + i
unfolding row_start
twice_row n zero h = omega arith
twice_row n (suc i) h = omega (arith, twice_row n i (omega arith))

-- every row has an entry at least
pub row_ge : (n i : ℕ) → i ≤ n → i ≤ row_start n i
unfolding row_start
row_ge n zero h = omega arith
row_ge n (suc i) h = omega (arith, row_ge n i (omega arith))

-- the count, by rows
pub count_is : (n : ℕ) → count_of n ≡ 1 + n + row_start n n
unfolding count_of row_start
count_is zero = refl
count_is (suc n) = by_rows n (row_start (suc n) (suc n)) (twice_row (suc n) (suc n) (omega arith))
  where
    pred : (n : ℕ) → suc n * (suc n - 1) ≡ n * n + n
    pred n = let e : suc n - 1 ≡ n = omega arith in ap (λ (x : ℕ). suc n * x) e ∙ omega arith

    by_rows : (n s : ℕ) → 2 * s + suc n * suc n ≡ 2 * (suc n * suc n) + suc n → 1 + 2 * suc n + suc n * (suc n - 1) / 2 ≡ 1 + suc n + s
    by_rows n s h = rw (pred n) (omega arith)

-- later rows start later
pub row_le : (n i d : ℕ) → row_start n i ≤ row_start n (d + i)
unfolding row_start
row_le n i zero = let e : 0 + i ≡ i = omega arith in rw e (omega arith)
row_le n i (suc d) = let e : suc d + i ≡ suc (d + i) = omega arith in rw e (omega (arith, row_le n i d))

pub index_closed : (n i j : ℕ) → i ≤ j → j < n → 1 + n + (i * n - i * (i + 1) / 2) + j ≡ index_of n i j
unfolding index_of
index_closed n i j h l = omega (arith, twice_row n i (omega arith), row_ge n i (omega arith))

pub index_lt : (n i j : ℕ) → i ≤ j → j < n → index_of n i j < count_of n
unfolding index_of row_start
index_lt n i j h l =
    let m : row_start n (suc i) ≤ row_start n n = rw e at (row_le n (suc i) (n - suc i)) in
    omega (arith, count_is n)
  where
    e : n - suc i + suc i ≡ n
    e = omega arith

-- what the code's products are at most
pub product_le : (a b : ℕ) → a ≤ 20 → b ≤ 20 → a * b ≤ 400
product_le a b h k = omega (arith, mul-le-mul_right b h, mul-le-mul_left 20 k)

-- no difference of the code falls below 0
pub half_le : (n i : ℕ) → i < n → i * (i + 1) / 2 ≤ i * n
half_le n i h = omega (arith, twice_row n i (omega arith), row_ge n i (omega arith))

-- the count at 20 is the largest that the code meets
pub count_le : (n : ℕ) → n ≤ 20 → count_of n ≤ 231
unfolding count_of
count_le n h = omega (arith, mul-le-mul_left n (below n h), mul-le-mul_right 19 h)
  where
    below : (n : ℕ) → n ≤ 20 → n - 1 ≤ 19
    below n h = omega arith

-- Where a product of three stands: the closed forms that the code computes, below the count, in order.
use mathlib.Core.Path.{◌≡◌, refl, sym, ap, ap₂, ◌∙◌}
use mathlib.Core.Logic.{by_cases}
use Prim.Native.Nat.{ℕ, zero, suc, ◌+◌, ◌-◌, ◌*◌, ◌/◌, ◌≤◌, ◌<◌}
use native.Mathlib.Nat.{mul-le-mul_left, mul-le-mul_right}
use native.Mathlib.Decide.{dec_lt}
use native.Mathlib.Omega.{arith}
use Rattle.tables.specs.Monomials.{count_of, row_start, index_of}
use Rattle.tables.proofs.IndexLaw.{twice_row, row_ge, row_le, count_is, count_le}
use Rattle.tables.proofs.MonomialLaw.{row_peel}
use Rattle.cubic_tables.specs.Order.{triple_start, cubic_count, triple_index, key_of}

-- ---- rows of pairs
pub row_order : (n i j : ℕ) → i ≤ j → row_start n i ≤ row_start n j
row_order n i j h = let e : j - i + i ≡ j = omega arith in rw e at (row_le n i (j - i))

pub row_suc : (n i : ℕ) → row_start n (suc i) ≡ row_start n i + (n - i)
unfolding row_start
row_suc n i = refl

-- a later row is at least as far on as the first one had entries
pub row_far : (n i j : ℕ) → i < j → row_start n i + (n - i) ≤ row_start n j
row_far n i j h = omega (arith, row_suc n i, row_order n (suc i) j h)

-- ---- rows of triples
pub start_suc : (n b : ℕ) → triple_start n (suc b) ≡ triple_start n b + (row_start n n - row_start n b - 1)
unfolding triple_start
start_suc n b = refl

pub start_zero : (n : ℕ) → triple_start n 0 ≡ 0
unfolding triple_start
start_zero n = refl

pub index_at : (n b c d : ℕ) → triple_index n b c d ≡ count_of n + triple_start n b + (row_start n c - row_start n b + (d - c) - 1)
unfolding triple_index
index_at n b c d = refl

-- a row ends where the next begins
pub cell_next : (n b c : ℕ) → b ≤ c → c < n → triple_index n b (suc c) (suc c) ≡ triple_index n b c n
cell_next n b c h l =
    index_at n b (suc c) (suc c) ∙ ap (λ (x : ℕ). count_of n + triple_start n b + (x - 1)) (is (row_start n c) (row_start n b) (row_start n (suc c)) (row_suc n c) (row_order n b c h))
    ∙ sym (index_at n b c n)
  where
    is : (x y z : ℕ) → z ≡ x + (n - c) → y ≤ x → z - y + (suc c - suc c) ≡ x - y + (n - c)
    is x y z e f = omega arith

pub plane_next : (n b : ℕ) → b < n → triple_index n (suc b) (suc b) (suc b) ≡ triple_index n b n n
plane_next n b l =
    index_at n (suc b) (suc b) (suc b) ∙ is (count_of n) (triple_start n b) (triple_start n (suc b)) (row_start n n - row_start n b) (row_start n (suc b)) (start_suc n b)
    ∙ sym (index_at n b n n)
  where
    is : (k s u w z : ℕ) → u ≡ s + (w - 1) → k + u + (z - z + (suc b - suc b) - 1) ≡ k + s + (w + (n - n) - 1)
    is k s u w z e = omega arith

pub cube_first : (n : ℕ) → triple_index n 0 0 0 ≡ count_of n
cube_first n = index_at n 0 0 0 ∙ is (count_of n) (triple_start n 0) (row_start n 0) (start_zero n)
  where
    is : (k s z : ℕ) → s ≡ 0 → k + s + (z - z + (0 - 0) - 1) ≡ k
    is k s z e = omega arith

pub cube_last : (n : ℕ) → triple_index n n n n ≡ cubic_count n
unfolding cubic_count
cube_last n = index_at n n n n ∙ is (count_of n) (triple_start n n) (row_start n n)
  where
    is : (k s z : ℕ) → k + s + (z - z + (n - n) - 1) ≡ k + s
    is k s z = omega arith

-- the rank in its row is not 0
pub rank_low : (n b c d : ℕ) → b ≤ c → c ≤ d → b < d → d < n → 1 ≤ row_start n c - row_start n b + (d - c)
rank_low n b c d h l m o =
    by_cases (dec_lt b c) (λ z. is (row_start n b) (row_start n c) (row_far n b c z) z) (λ z. let e : 1 ≤ d - c = omega arith in omega arith)
  where
    is : (x y : ℕ) → x + (n - b) ≤ y → b < c → 1 ≤ y - x + (d - c)
    is x y e z = omega arith

-- one triple after the other: at b, b, b stands the first one of b
pub index_suc : (n b c d : ℕ) → b ≤ c → c ≤ d → b < d → d < n → triple_index n b c (suc d) ≡ suc (triple_index n b c d)
index_suc n b c d h l m o =
    index_at n b c (suc d) ∙ is (count_of n + triple_start n b) (row_start n c - row_start n b) (rank_low n b c d h l m o) ∙ ap suc (sym (index_at n b c d))
  where
    is : (k w : ℕ) → 1 ≤ w + (d - c) → k + (w + (suc d - c) - 1) ≡ suc (k + (w + (d - c) - 1))
    is k w e = omega arith

pub index_same : (n b : ℕ) → triple_index n b b (suc b) ≡ triple_index n b b b
index_same n b = index_at n b b (suc b) ∙ is (count_of n + triple_start n b) (row_start n b) ∙ sym (index_at n b b b)
  where
    is : (k z : ℕ) → k + (z - z + (suc b - b) - 1) ≡ k + (z - z + (b - b) - 1)
    is k z = omega arith

-- ---- closed forms
pub row_zero : (n : ℕ) → row_start n 0 ≡ 0
unfolding row_start
row_zero n = refl

-- the first unknown taken off
pub start_peel : (r a : ℕ) → a ≤ r → triple_start (suc r) (suc a) ≡ row_start (suc r) (suc r) - 1 + triple_start r a
start_peel r zero l = omega (arith, start_suc (suc r) 0, start_zero (suc r), start_zero r, row_zero (suc r))
start_peel r (suc a) l =
    start_suc (suc r) (suc a) ∙ ap₂ (λ (x y : ℕ). x + (y - 1)) (start_peel r a (omega arith)) (is (row_start (suc r) (suc r)) (row_start (suc r) (suc a)) (row_start r r) (row_start r a) (row_peel r r) (row_peel r a))
    ∙ add (row_start (suc r) (suc r) - 1) (triple_start r a) (row_start r r - row_start r a - 1) ∙ ap (λ (x : ℕ). row_start (suc r) (suc r) - 1 + x) (sym (start_suc r a))
  where
    is : (p q x y : ℕ) → p ≡ suc r + x → q ≡ suc r + y → p - q ≡ x - y
    is p q x y e f = omega arith

    add : (x y z : ℕ) → x + y + z ≡ x + (y + z)
    add x y z = omega arith

-- those of the unknowns from b on
pub start_split : (n b : ℕ) → b ≤ n → triple_start n n ≡ triple_start n b + triple_start (n - b) (n - b)
start_split n zero l = let e : n - 0 ≡ n = omega arith in rw e (omega (arith, start_zero n))
start_split zero (suc b) l = absurd (omega arith)
start_split (suc n) (suc b) l =
    let e : suc n - suc b ≡ n - b = omega arith in
    rw e (omega (arith, start_peel n n (omega arith), start_peel n b (omega arith), start_split n b (omega arith)))

-- six times the triples of r unknowns
pub six_start : (r : ℕ) → 6 * triple_start r r + 4 * r ≡ r * (r * (r + 3))
six_start zero = omega (arith, start_zero 0)
six_start (suc r) = is r (row_start (suc r) (suc r)) (triple_start r r) (triple_start (suc r) (suc r)) (start_peel r r (omega arith)) (six_start r) (twice_row (suc r) (suc r) (omega arith)) (row_ge (suc r) (suc r) (omega arith))
  where
    is : (r p s u : ℕ) → u ≡ p - 1 + s → 6 * s + 4 * r ≡ r * (r * (r + 3)) → 2 * p + suc r * suc r ≡ 2 * (suc r * suc r) + suc r → suc r ≤ p → 6 * u + 4 * suc r ≡ suc r * (suc r * (suc r + 3))
    is r p s u a b c d = omega arith

pub four_le : (r : ℕ) → 1 ≤ r → 4 ≤ r * (r + 3)
four_le zero h = absurd (omega arith)
four_le (suc r) h = omega arith

pub small_le : (r : ℕ) → r ≤ 20 → (r * (r + 3) ≤ 460) × (r * (r * (r + 3) - 4) ≤ 9200)
small_le r h =
    let p : r * (r + 3) ≤ 460 = omega (arith, mul-le-mul_right (r + 3) h) in
    let q : r * (r + 3) - 4 ≤ 460 = omega arith in
    (p, omega (arith, mul-le-mul_left r q))

pub cubes_closed : (r : ℕ) → 1 ≤ r → r * (r * (r + 3) - 4) / 6 ≡ triple_start r r
cubes_closed r h = is r (r * (r + 3)) (triple_start r r) (four_le r h) (six_start r)
  where
    less : (r a : ℕ) → 4 ≤ a → r * (a - 4) + 4 * r ≡ r * a
    less r a h = let e : a - 4 + 4 ≡ a = omega arith in ring r (a - 4) ∙ ap (λ (x : ℕ). r * x) e
      where
        ring : (r x : ℕ) → r * x + 4 * r ≡ r * (x + 4)
        ring r x = omega arith

    is : (r a s : ℕ) → 4 ≤ a → 6 * s + 4 * r ≡ r * a → r * (a - 4) / 6 ≡ s
    is r a s h e = omega (arith, less r a h)

pub cubic_count_split : (n b : ℕ) → b ≤ n → cubic_count n ≡ count_of n + triple_start n b + triple_start (n - b) (n - b)
unfolding cubic_count
cubic_count_split n b l = omega (arith, start_split n b l)

-- at most 1751
pub cubic_count_le : (n : ℕ) → n ≤ 20 → cubic_count n ≤ 1751
unfolding cubic_count
cubic_count_le n h = omega (arith, count_le n h, small n h)
  where
    small : (n : ℕ) → n ≤ 20 → triple_start n n ≤ 1520
    small n h = omega (arith, six_start n, mul-le-mul_left n (mul-le-mul_left n (le n h)), mul-le-mul_left n (mul-le-mul_right 23 h), mul-le-mul_right 460 h)
      where
        le : (n : ℕ) → n ≤ 20 → n + 3 ≤ 23
        le n h = omega arith

-- the number of b, c, d is that of the pair c, d, and what is fixed for b
pub index_base : (n b c d : ℕ) → b ≤ c → c ≤ d → b < d → d < n → triple_index n b c d ≡ key_of n b + (row_start n c + (d - c))
unfolding key_of
index_base n b c d h l m o =
    index_at n b c d ∙ is (count_of n) (triple_start n b) (row_start n c) (row_start n b) (d - c) (row_order n b c h) (rank_low n b c d h l m o) (below n b (omega arith))
  where
    below : (n b : ℕ) → b ≤ n → row_start n b + 1 ≤ count_of n
    below n b l = omega (arith, count_is n, row_order n b n l)

    is : (k s x y e : ℕ) → y ≤ x → 1 ≤ x - y + e → y + 1 ≤ k → k + s + (x - y + e - 1) ≡ k + s - y - 1 + (x + e)
    is k s x y e p q r = omega arith

-- every number is below the count
pub triple_lt : (n b c d : ℕ) → b ≤ c → c ≤ d → b < d → d < n → triple_index n b c d < cubic_count n
triple_lt n b c d h l m o = omega (arith, index_at n b c d, rank_low n b c d h l m o, last (row_start n c) (row_start n b) (row_start n n) (row_far n c n (omega arith)) (row_order n b c h), whole)
  where
    last : (x y z : ℕ) → x + (n - c) ≤ z → y ≤ x → x - y + (d - c) < z - y
    last x y z e f = omega arith

    whole : count_of n + triple_start n b + (row_start n n - row_start n b - 1) ≤ cubic_count n
    whole = omega (arith, cubic_count_split n (suc b) (omega arith), start_suc n b)

pub triple_ge : (n b c d : ℕ) → count_of n ≤ triple_index n b c d
triple_ge n b c d = rw (index_at n b c d) (omega arith)

-- ---- what the code's differences ask
pub cubic_count_is : (n : ℕ) → cubic_count n ≡ count_of n + triple_start n n
unfolding cubic_count
cubic_count_is n = refl

pub pair_is : (n c d : ℕ) → index_of n c d ≡ 1 + n + (row_start n c + (d - c))
unfolding index_of
pair_is n c d = omega arith

pub base_is : (n b : ℕ) → b < n → (triple_start (n - b) (n - b) ≤ cubic_count n) × (index_of n b b - n ≤ cubic_count n - triple_start (n - b) (n - b)) × (cubic_count n - triple_start (n - b) (n - b) - (index_of n b b - n) ≡ key_of n b)
unfolding key_of
base_is n b h = is (count_of n) (triple_start n b) (triple_start (n - b) (n - b)) (row_start n b) (cubic_count n) (index_of n b b) (cubic_count_split n b (omega arith)) (pair_is n b b) (omega (arith, count_is n, row_order n b n (omega arith)))
  where
    is : (k s r y w x : ℕ) → w ≡ k + s + r → x ≡ 1 + n + (y + (b - b)) → y + 1 ≤ k → (r ≤ w) × (x - n ≤ w - r) × (w - r - (x - n) ≡ k + s - y - 1)
    is k s r y w x e f g = (omega arith, omega arith, omega arith)

pub cubic_count_low : (n : ℕ) → count_of n ≤ cubic_count n
cubic_count_low n = omega (arith, cubic_count_is n)

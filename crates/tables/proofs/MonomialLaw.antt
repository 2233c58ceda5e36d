-- Each number below the count is that of one monomial, and there `nth` gives that monomial's coefficient: rows are peeled off one by one.
use mathlib.Core.Path.{◌≡◌, refl, ap, ap₂, ◌∙◌}
use mathlib.Core.Logic.{by_cases}
use Prim.Native.Nat.{ℕ, zero, suc, ◌+◌, ◌-◌, ◌≤◌, ◌<◌}
use native.Mathlib.Decide.{dec_lt}
use native.Mathlib.Omega.{arith}
use borrow.Author.Tests.{lt-ltb, le-ltb}
use Rattle.polynomials.specs.Poly.{Poly}
use Rattle.tables.specs.Monomials.{count_of, row_start, index_of, product_nth, nth}
use Rattle.tables.proofs.IndexLaw.{count_is}

-- the first of suc r rows taken off
pub row_peel : (r a : ℕ) → row_start (suc r) (suc a) ≡ suc r + row_start r a
unfolding row_start
row_peel r zero = omega arith
row_peel r (suc a) = omega (arith, row_peel r a)

product_first : (f : Poly) (r i d : ℕ) → d < suc r → product_nth f (suc r) i d ≡ f.quad i (i + d)
unfolding product_nth
product_first f r i d h = rw (lt-ltb d (suc r) h, product_nth)

product_later : (f : Poly) (r i d : ℕ) → product_nth f (suc r) i (suc r + d) ≡ product_nth f r (suc i) d
unfolding product_nth
product_later f r i d = rw (le-ltb (suc r + d) (suc r) (omega arith), product_nth) (ap (product_nth f r (suc i)) (less r d))
  where
    less : (r d : ℕ) → suc r + d - suc r ≡ d
    less r d = omega arith

-- place d of row a, of r rows that start at row i
pub product_at : (f : Poly) (r i a d : ℕ) → a + d < r → product_nth f r i (row_start r a + d) ≡ f.quad (i + a) (i + a + d)
unfolding row_start
product_at f zero i a d h = absurd (omega arith)
product_at f (suc r) i zero d h =
    ap (product_nth f (suc r) i) (start d) ∙ product_first f r i d (omega arith) ∙ ap (λ (x : ℕ). f.quad x (x + d)) (none i)
  where
    start : (d : ℕ) → 0 + d ≡ d
    start d = omega arith

    none : (i : ℕ) → i ≡ i + 0
    none i = omega arith
product_at f (suc r) i (suc a) d h =
    ap (product_nth f (suc r) i) (ap (λ (x : ℕ). x + d) (row_peel r a) ∙ left (suc r) (row_start r a) d)
    ∙ product_later f r i (row_start r a + d) ∙ product_at f r (suc i) a d (omega arith) ∙ ap (λ (x : ℕ). f.quad x (x + d)) (next i a)
  where
    left : (x y z : ℕ) → x + y + z ≡ x + (y + z)
    left x y z = omega arith

    next : (i a : ℕ) → suc i + a ≡ i + suc a
    next i a = omega arith

-- the coefficient at the number of each monomial
pub nth_const : (n : ℕ) (f : Poly) → nth n f 0 ≡ f.const
unfolding nth
nth_const n f = refl

pub nth_lin : (n : ℕ) (f : Poly) (i : ℕ) → i < n → nth n f (1 + i) ≡ f.lin i
unfolding nth
nth_lin n f i h = let e : 1 + i ≡ suc i = omega arith in rw (e, lt-ltb i n h, nth)

pub nth_quad : (n : ℕ) (f : Poly) (i j : ℕ) → i ≤ j → j < n → nth n f (index_of n i j) ≡ f.quad i j
unfolding nth index_of
nth_quad n f i j h l =
    let e : 1 + n + row_start n i + (j - i) ≡ suc (n + (row_start n i + (j - i))) = omega arith in
    rw (e, le-ltb (n + (row_start n i + (j - i))) n (omega arith), nth)
    (ap (product_nth f n 0) (less n (row_start n i + (j - i))) ∙ product_at f n 0 i (j - i) (omega arith) ∙ ap₂ f.quad (none i) (end i j h))
  where
    less : (n d : ℕ) → n + d - n ≡ d
    less n d = omega arith

    none : (i : ℕ) → 0 + i ≡ i
    none i = omega arith

    end : (i j : ℕ) → i ≤ j → 0 + i + (j - i) ≡ j
    end i j h = omega arith

-- number d among the products of r unknowns is that of row a, place b
pub record Product (r d : ℕ) : Type 0 where
  pub row : ℕ
  pub place : ℕ
  pub within : row + place < r
  pub number : d ≡ row_start r row + place

pub find : (r d : ℕ) → d < row_start r r → Product r d
unfolding row_start
find zero d h = absurd (omega arith)
find (suc r) d h =
    by_cases (dec_lt d (suc r))
    (λ l. record { row = 0; place = d; within = omega arith; number = omega arith })
    (λ l.
    let p = find r (d - suc r) (omega (arith, row_peel r r)) in
    record { row = suc p.row; place = p.place; within = omega (arith, p.within); number = omega (arith, p.number, row_peel r p.row) })

-- what holds at the number of every monomial holds at every number below the count
module _ (n : ℕ) (P : ℕ → Type 0) where
  pub by_monomial : P 0 → ((i : ℕ) → i < n → P (1 + i)) → ((i j : ℕ) → i ≤ j → j < n → P (index_of n i j)) → (k : ℕ) → k < count_of n → P k
  unfolding index_of
  by_monomial c l q k h =
      by_cases (dec_lt k 1) (λ z. let e : 0 ≡ k = omega arith in rw (← e) c)
      (λ z.
      by_cases (dec_lt k (1 + n)) (λ s. let e : 1 + (k - 1) ≡ k = omega arith in rw e at (l (k - 1) (omega arith)))
      (λ s.
      let p = find n (k - 1 - n) (omega (arith, count_is n)) in
      let i = p.row in
      let e : 1 + n + row_start n i + (i + p.place - i) ≡ k = omega (arith, p.number) in
      rw e at (q i (i + p.place) (omega arith) p.within)))

-- which monomial a number is
pub data Monomial (n : ℕ) : ℕ → Type 0 where
  constant : Monomial n 0
  single : (i : ℕ) → i < n → Monomial n (1 + i)
  product : (i j : ℕ) → i ≤ j → j < n → Monomial n (index_of n i j)

pub which : (n k : ℕ) → k < count_of n → Monomial n k
which n = by_monomial n (Monomial n) constant single product

-- polynomials that are related at each monomial are related at each number
pub nth_related : (R : ℕ → ℕ → Type 0) (n : ℕ) (f g : Poly) → R f.const g.const → ((i : ℕ) → i < n → R (f.lin i) (g.lin i))
    → ((i j : ℕ) → i ≤ j → j < n → R (f.quad i j) (g.quad i j)) → (k : ℕ) → k < count_of n → R (nth n f k) (nth n g k)
nth_related R n f g c l q =
    by_monomial n (λ k. R (nth n f k) (nth n g k)) (rw (nth_const n f, nth_const n g) c)
    (λ i h. rw (nth_lin n f i h, nth_lin n g i h) (l i h))
    (λ i j h k. rw (nth_quad n f i j h k, nth_quad n g i j h k) (q i j h k))

pub nth_ext : (n : ℕ) (f g : Poly) → f.const ≡ g.const → ((i : ℕ) → i < n → f.lin i ≡ g.lin i)
    → ((i j : ℕ) → i ≤ j → j < n → f.quad i j ≡ g.quad i j) → (k : ℕ) → k < count_of n → nth n f k ≡ nth n g k
nth_ext = nth_related (λ (x y : ℕ). x ≡ y)

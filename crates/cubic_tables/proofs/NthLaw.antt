-- Each number below the count is that of one monomial, and there `cubic_nth` gives that monomial's coefficient: unknowns are peeled off one by one.
use mathlib.Core.Path.{◌≡◌, refl, sym, ap, ap₂, ◌∙◌}
use mathlib.Core.Logic.{by_cases}
use Prim.Native.Nat.{ℕ, zero, suc, ◌+◌, ◌-◌, ◌≤◌, ◌<◌}
use native.Mathlib.Decide.{dec_lt}
use native.Mathlib.Omega.{arith}
use borrow.Author.Tests.{lt-ltb, le-ltb}
use Rattle.tables.specs.Monomials.{count_of, row_start, index_of, product_nth, nth}
use Rattle.tables.proofs.IndexLaw.{count_is, row_ge, index_lt}
use Rattle.tables.proofs.MonomialLaw.{find, row_peel, product_at, by_monomial, nth_const, nth_lin, nth_quad}
use Rattle.cubics.specs.Cubic.{Cubic, low_of}
use Rattle.cubic_tables.specs.Order.{triple_start, cubic_count, triple_index, plane_of, triple_nth, cubic_nth}
use Rattle.cubic_tables.proofs.OrderLaw.{row_far, row_zero, start_zero, start_peel, cubic_count_is, index_at}

cube_first : (f : Cubic) (r i d : ℕ) → d < row_start (suc r) (suc r) - 1 → triple_nth f (suc r) i d ≡ product_nth (plane_of f i) (suc r) i (suc d)
unfolding triple_nth
cube_first f r i d h = rw (lt-ltb d (row_start (suc r) (suc r) - 1) h, triple_nth)

cube_later : (f : Cubic) (r i d : ℕ) → triple_nth f (suc r) i (row_start (suc r) (suc r) - 1 + d) ≡ triple_nth f r (suc i) d
unfolding triple_nth
cube_later f r i d = rw (le-ltb (w + d) w (omega arith), triple_nth) (ap (triple_nth f r (suc i)) (less w d))
  where
    w : ℕ
    w = row_start (suc r) (suc r) - 1

    less : (r d : ℕ) → r + d - r ≡ d
    less r d = omega arith

-- the pair c, d of unknown a, of r unknowns that start at i: u rows after it, place v
cube_at : (f : Cubic) (r i a u v : ℕ) → a + u + v < r → 0 < u + v
    → triple_nth f r i (triple_start r a + (row_start (r - a) u + v - 1)) ≡ f.cube (i + a) (i + a + u) (i + a + u + v)
unfolding plane_of
cube_at f zero i a u v h p = absurd (omega arith)
cube_at f (suc r) i zero u v h p =
    ap (triple_nth f (suc r) i) (is (triple_start (suc r) 0) (start_zero (suc r)))
    ∙ cube_first f r i (row_start (suc r) u + v - 1) (within (row_start (suc r) u) (row_start (suc r) (suc r)) (row_far (suc r) u (suc r) (omega arith)) low)
    ∙ ap (product_nth (plane_of f i) (suc r) i) (up (row_start (suc r) u) low)
    ∙ product_at (plane_of f i) (suc r) i u v (omega arith) ∙ ap (λ (x : ℕ). f.cube x (x + u) (x + u + v)) (none i)
  where
    low : 1 ≤ row_start (suc r) u + v
    low = omega (arith, row_ge (suc r) u (omega arith))

    is : (s : ℕ) → s ≡ 0 → s + (row_start (suc r - 0) u + v - 1) ≡ row_start (suc r) u + v - 1
    is s e = let z : suc r - 0 ≡ suc r = omega arith in rw (e, z) (omega arith)

    within : (x w : ℕ) → x + (suc r - u) ≤ w → 1 ≤ x + v → x + v - 1 < w - 1
    within x w e z = omega arith

    up : (x : ℕ) → 1 ≤ x + v → suc (x + v - 1) ≡ x + v
    up x e = omega arith

    none : (i : ℕ) → i ≡ i + 0
    none i = omega arith
cube_at f (suc r) i (suc a) u v h p =
    ap (triple_nth f (suc r) i) (is (triple_start r a) (triple_start (suc r) (suc a)) (row_start (suc r) (suc r) - 1) (start_peel r a (omega arith)))
    ∙ cube_later f r i (triple_start r a + (row_start (r - a) u + v - 1)) ∙ cube_at f r (suc i) a u v (omega arith) p ∙ ap (λ (x : ℕ). f.cube x (x + u) (x + u + v)) (next i a)
  where
    is : (s z w : ℕ) → z ≡ w + s → z + (row_start (suc r - suc a) u + v - 1) ≡ w + (s + (row_start (r - a) u + v - 1))
    is s z w e = let y : suc r - suc a ≡ r - a = omega arith in rw (e, y) (left w s (row_start (r - a) u + v - 1))
      where
        left : (x y z : ℕ) → x + y + z ≡ x + (y + z)
        left x y z = omega arith

    next : (i a : ℕ) → suc i + a ≡ i + suc a
    next i a = omega arith

-- the rows of pairs from row b on are those of the unknowns from b on
pub row_shift : (n b c : ℕ) → b ≤ c → c ≤ n → row_start n c ≡ row_start n b + row_start (n - b) (c - b)
row_shift n zero c h l = let e : n - 0 ≡ n = omega arith in let f : c - 0 ≡ c = omega arith in rw (e, f) (omega (arith, row_zero n))
row_shift zero (suc b) c h l = absurd (omega arith)
row_shift (suc n) (suc b) zero h l = absurd (omega arith)
row_shift (suc n) (suc b) (suc c) h l =
    let e : suc n - suc b ≡ n - b = omega arith in
    let f : suc c - suc b ≡ c - b = omega arith in
    rw (e, f) (omega (arith, row_peel n c, row_peel n b, row_shift n b c (omega arith) (omega arith)))

pub index_from : (n b c d : ℕ) → b ≤ c → c ≤ d → d < n → triple_index n b c d ≡ count_of n + (triple_start n b + (row_start (n - b) (c - b) + (d - c) - 1))
index_from n b c d h l o = index_at n b c d ∙ is (count_of n) (triple_start n b) (row_start n c) (row_start n b) (row_start (n - b) (c - b)) (row_shift n b c h (omega arith))
  where
    is : (k s x y z : ℕ) → x ≡ y + z → k + s + (x - y + (d - c) - 1) ≡ k + (s + (z + (d - c) - 1))
    is k s x y z e = let w : x - y ≡ z = omega arith in rw w (omega arith)

-- the coefficient at the number of each monomial
pub cubic_nth_low : (n : ℕ) (f : Cubic) (k : ℕ) → k < count_of n → cubic_nth n f k ≡ nth n (low_of f) k
unfolding cubic_nth
cubic_nth_low n f k h = rw (lt-ltb k (count_of n) h, cubic_nth)

cubic_nth_high : (n : ℕ) (f : Cubic) (d : ℕ) → cubic_nth n f (count_of n + d) ≡ triple_nth f n 0 d
unfolding cubic_nth
cubic_nth_high n f d = rw (le-ltb (count_of n + d) (count_of n) (omega arith), cubic_nth) (ap (triple_nth f n 0) (less (count_of n) d))
  where
    less : (n d : ℕ) → n + d - n ≡ d
    less n d = omega arith

pub cubic_nth_const : (n : ℕ) (f : Cubic) → cubic_nth n f 0 ≡ f.const
cubic_nth_const n f = cubic_nth_low n f 0 (omega (arith, count_is n)) ∙ nth_const n (low_of f)

pub cubic_nth_lin : (n : ℕ) (f : Cubic) (i : ℕ) → i < n → cubic_nth n f (1 + i) ≡ f.lin i
cubic_nth_lin n f i h = cubic_nth_low n f (1 + i) (omega (arith, count_is n)) ∙ nth_lin n (low_of f) i h

pub cubic_nth_quad : (n : ℕ) (f : Cubic) (i j : ℕ) → i ≤ j → j < n → cubic_nth n f (index_of n i j) ≡ f.quad i j
cubic_nth_quad n f i j h l = cubic_nth_low n f (index_of n i j) (index_lt n i j h l) ∙ nth_quad n (low_of f) i j h l

pub cubic_nth_cube : (n : ℕ) (f : Cubic) (b c d : ℕ) → b ≤ c → c ≤ d → b < d → d < n → cubic_nth n f (triple_index n b c d) ≡ f.cube b c d
cubic_nth_cube n f b c d h l m o =
    ap (cubic_nth n f) (index_from n b c d h l o) ∙ cubic_nth_high n f (triple_start n b + (row_start (n - b) (c - b) + (d - c) - 1))
    ∙ cube_at f n 0 b (c - b) (d - c) (omega arith) (omega arith)
    ∙ ap (λ (x : ℕ). f.cube x (0 + b + (c - b)) (0 + b + (c - b) + (d - c))) (none b) ∙ ap₂ (f.cube b) (mid b c h) (end b c d h l)
  where
    none : (b : ℕ) → 0 + b ≡ b
    none b = omega arith

    mid : (b c : ℕ) → b ≤ c → 0 + b + (c - b) ≡ c
    mid b c h = omega arith

    end : (b c d : ℕ) → b ≤ c → c ≤ d → 0 + b + (c - b) + (d - c) ≡ d
    end b c d h l = omega arith

-- number d among the products of three of r unknowns is that of unknown a, pair row u, place v
record Triple (r d : ℕ) : Type 0 where
  first : ℕ
  row : ℕ
  place : ℕ
  within : first + row + place < r
  apart : 0 < row + place
  number : d ≡ triple_start r first + (row_start (r - first) row + place - 1)

early : (r d : ℕ) → d < row_start (suc r) (suc r) - 1 → Triple (suc r) d
early r d l =
    let p = find (suc r) (suc d) (omega arith) in
    record {
      first = 0;
      row = p.row;
      place = p.place;
      within = omega (arith, p.within);
      apart = some p.row p.place p.number;
      number = is p.row p.place p.number;
    }
  where
    some : (u v : ℕ) → suc d ≡ row_start (suc r) u + v → 0 < u + v
    some zero v e = omega (arith, row_zero (suc r))
    some (suc u) v e = omega arith

    is : (u v : ℕ) → suc d ≡ row_start (suc r) u + v → d ≡ triple_start (suc r) 0 + (row_start (suc r - 0) u + v - 1)
    is u v e = let z : suc r - 0 ≡ suc r = omega arith in rw z (omega (arith, start_zero (suc r)))

later : (r d w : ℕ) → w ≡ row_start (suc r) (suc r) - 1 → w ≤ d → Triple r (d - w) → Triple (suc r) d
later r d w e l p =
    let i = p.within in
    record {
      first = suc p.first;
      row = p.row;
      place = p.place;
      within = omega (arith, i);
      apart = p.apart;
      number = is p.first p.row p.place (omega arith) p.number;
    }
  where
    add : (s z x : ℕ) → z ≡ w + s → d - w ≡ s + x → d ≡ z + x
    add s z x e f = omega arith

    is : (a u v : ℕ) → a ≤ r → d - w ≡ triple_start r a + (row_start (r - a) u + v - 1) → d ≡ triple_start (suc r) (suc a) + (row_start (suc r - suc a) u + v - 1)
    is a u v h f =
        let z : suc r - suc a ≡ r - a = omega arith in
        rw z (add (triple_start r a) (triple_start (suc r) (suc a)) (row_start (r - a) u + v - 1) (start_peel r a h ∙ ap (λ (x : ℕ). x + triple_start r a) (sym e)) f)

find3 : (r d : ℕ) → d < triple_start r r → Triple r d
find3 zero d h = absurd (omega (arith, start_zero 0))
find3 (suc r) d h =
    by_cases (dec_lt d (row_start (suc r) (suc r) - 1)) (early r d)
    (λ l. later r d (row_start (suc r) (suc r) - 1) refl (omega arith) (find3 r (d - (row_start (suc r) (suc r) - 1)) (omega (arith, start_peel r r (omega arith)))))

back_number : (n k b u v : ℕ) → count_of n ≤ k → k - count_of n ≡ triple_start n b + (row_start (n - b) u + v - 1)
    → count_of n + (triple_start n b + (row_start (n - b) (b + u - b) + (b + u + v - (b + u)) - 1)) ≡ k
back_number n k b u v h e =
    let x : b + u - b ≡ u = omega arith in
    let y : b + u + v - (b + u) ≡ v = omega arith in
    rw (x, y) (ap (λ (z : ℕ). count_of n + z) (sym e) ∙ whole k (count_of n) h)
  where
    whole : (k w : ℕ) → w ≤ k → w + (k - w) ≡ k
    whole k w h = omega arith

-- which triple a number from count_of n on is
pub record Cell (n k : ℕ) : Type 0 where
  pub b : ℕ
  pub c : ℕ
  pub d : ℕ
  pub low : b ≤ c
  pub high : c ≤ d
  pub apart : b < d
  pub end : d < n
  pub number : triple_index n b c d ≡ k

pub cell : (n k : ℕ) → count_of n ≤ k → k < cubic_count n → Cell n k
cell n k s h =
    let p = find3 n (k - count_of n) (omega (arith, cubic_count_is n)) in
    made p.first p.row p.place p.within p.apart p.number
  where
    made : (b u v : ℕ) → b + u + v < n → 0 < u + v → k - count_of n ≡ triple_start n b + (row_start (n - b) u + v - 1) → Cell n k
    made b u v w a e = record {
      b = b;
      c = b + u;
      d = b + u + v;
      low = omega arith;
      high = omega arith;
      apart = omega arith;
      end = w;
      number = index_from n b (b + u) (b + u + v) (omega arith) (omega arith) w ∙ back_number n k b u v s e;
    }

-- what holds at the number of every monomial holds at every number below the count
module _ (n : ℕ) (P : ℕ → Type 0) where
  pub by_cubic_monomial : P 0 → ((i : ℕ) → i < n → P (1 + i)) → ((i j : ℕ) → i ≤ j → j < n → P (index_of n i j))
      → ((b c d : ℕ) → b ≤ c → c ≤ d → b < d → d < n → P (triple_index n b c d)) → (k : ℕ) → k < cubic_count n → P k
  by_cubic_monomial z l q t k h =
      by_cases (dec_lt k (count_of n)) (λ s. by_monomial n P z l q k s)
      (λ s.
      let p = cell n k (omega arith) h in
      rw p.number at (t p.b p.c p.d p.low p.high p.apart p.end))

-- cubics that are related at each monomial are related at each number
pub cubic_nth_related : (R : ℕ → ℕ → Type 0) (n : ℕ) (f g : Cubic) → R f.const g.const → ((i : ℕ) → i < n → R (f.lin i) (g.lin i))
    → ((i j : ℕ) → i ≤ j → j < n → R (f.quad i j) (g.quad i j)) → ((b c d : ℕ) → b ≤ c → c ≤ d → b < d → d < n → R (f.cube b c d) (g.cube b c d))
    → (k : ℕ) → k < cubic_count n → R (cubic_nth n f k) (cubic_nth n g k)
cubic_nth_related R n f g z l q t =
    by_cubic_monomial n (λ k. R (cubic_nth n f k) (cubic_nth n g k)) (rw (cubic_nth_const n f, cubic_nth_const n g) z)
    (λ i h. rw (cubic_nth_lin n f i h, cubic_nth_lin n g i h) (l i h))
    (λ i j h k. rw (cubic_nth_quad n f i j h k, cubic_nth_quad n g i j h k) (q i j h k))
    (λ b c d h k m o. rw (cubic_nth_cube n f b c d h k m o, cubic_nth_cube n g b c d h k m o) (t b c d h k m o))

-- no two triples have the same number: the triple can be read off, by any three functions
pub triple_first : (n b c d x y z : ℕ) → b ≤ c → c ≤ d → b < d → d < n → x ≤ y → y ≤ z → x < z → z < n → triple_index n b c d ≡ triple_index n x y z → (f : ℕ → ℕ → ℕ → ℕ) → f b c d ≡ f x y z
triple_first n b c d x y z h l m o p q r s e f =
    sym (cubic_nth_cube n g b c d h l m o) ∙ ap (cubic_nth n g) e ∙ cubic_nth_cube n g x y z p q r s
  where
    g : Cubic
    g = record { const = 0; lin = λ i. 0; quad = λ i j. 0; cube = f }

pub triple_injective : (n b c d x y z : ℕ) → b ≤ c → c ≤ d → b < d → d < n → x ≤ y → y ≤ z → x < z → z < n → triple_index n b c d ≡ triple_index n x y z → (b ≡ x) × (c ≡ y) × (d ≡ z)
triple_injective n b c d x y z h l m o p q r s e = (
  triple_first n b c d x y z h l m o p q r s e (λ (i j k : ℕ). i),
  triple_first n b c d x y z h l m o p q r s e (λ (i j k : ℕ). j),
  triple_first n b c d x y z h l m o p q r s e (λ (i j k : ℕ). k),
)

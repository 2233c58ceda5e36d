-- Where the pairs and the triples stand: their numbers are within the counts. Over n up to 20 that is computed.
use mathlib.Core.Path.{◌≡◌, refl, sym, ap, ◌∙◌}
use mathlib.Core.Bool.{Bool, true, ◌&&◌, ◌||◌}
use mathlib.Core.Logic.{by_cases}
use Prim.Native.Nat.{ℕ, zero, suc, ◌+◌, ◌-◌, ◌*◌, ◌/◌, ◌≤◌, ◌<◌}
use native.Mathlib.Decide.{ℕ_discrete}
use native.Mathlib.Omega.{arith}
use lib.Dec.{leb, ltb}
use borrow.Author.Tests.{leb-true, ltb-true, lt-leb}
use Rattle.trits.proofs.Bits.{and_left, and_right}
use Rattle.polynomials.specs.Poly.{Poly}
use Rattle.tables.specs.Monomials.{count_of, row_start, index_of, nth}
use Rattle.tables.proofs.IndexLaw.{index_closed}
use Rattle.tables.proofs.MonomialLaw.{nth_quad, find}
use Rattle.cubic_tables.specs.Order.{triple_start, triple_index, key_of, cubic_count, pair_of, pairs_of, seat_of}
use Rattle.cubic_tables.proofs.OrderLaw.{index_base, pair_is}

-- a test at every number below k
every : ℕ → (ℕ → Bool) → Bool
every zero f = true
every (suc k) f = every k f && f k

every_at : (k : ℕ) (f : ℕ → Bool) → every k f ≡ true → (i : ℕ) → i < k → f i ≡ true
unfolding every
every_at zero f h i l = absurd (omega arith)
every_at (suc k) f h i l =
    by_cases (ℕ_discrete i k) (λ e. rw e (and_right (every k f) (f k) h)) (λ e. every_at k f (and_left (every k f) (f k) h) i (omega arith))

-- what is tested of unknown b among n
right : ℕ → ℕ → Bool
right n b =
    leb n b
    || leb (key_of n b + pairs_of n) (cubic_count n) && ltb (pair_of n b (n - 1)) (pairs_of n) && leb (pairs_of n) 210

rights : every 21 (λ n. every 20 (right n)) ≡ true
unfolding every right key_of pairs_of cubic_count triple_start count_of row_start pair_of
rights = refl

pub record Within (n b : ℕ) : Type 0 where
  pub key : key_of n b + pairs_of n ≤ cubic_count n
  pub last : pair_of n b (n - 1) < pairs_of n
  pub pairs : pairs_of n ≤ 210

pub within : (n b : ℕ) → n ≤ 20 → b < n → Within n b
unfolding right
within n b h l =
    let t1 = leb (key_of n b + pairs_of n) (cubic_count n) in
    let t2 = ltb (pair_of n b (n - 1)) (pairs_of n) in
    let t3 = leb (pairs_of n) 210 in
    let e : (t1 && t2 && t3) ≡ true = rw (lt-leb n b l) at (every_at 20 (right n) (every_at 21 (λ n. every 20 (right n)) rights n (omega arith)) b (omega arith)) in
    let e2 = and_left (t1 && t2) t3 e in
    record { key = leb-true _ _ (and_left t1 t2 e2); last = ltb-true _ _ (and_right t1 t2 e2); pairs = leb-true _ _ (and_right (t1 && t2) t3 e) }

pub pair_lt : (n b c : ℕ) → n ≤ 20 → b ≤ c → c < n → (pair_of n b c < pairs_of n) × (pair_of n b c < 210)
unfolding pair_of
pair_lt n b c h l m =
    let w = within n b h (omega arith) in
    let e : b * n - b * (b + 1) / 2 + c ≤ b * n - b * (b + 1) / 2 + (n - 1) = omega arith in
    (omega (arith, w.last), omega (arith, w.last, w.pairs))

-- every triple of a first unknown is in a table of the right size
pub key_room : (n b k l : ℕ) → n ≤ 20 → b < n → k ≡ key_of n b → l ≡ 2 * cubic_count n → (p : ℕ) → p < pairs_of n → 2 * (k + p) + 1 < l
key_room n b k l h g e f p m = omega (arith, (within n b h g).key)

-- ---- a pair's number and those of the products
pair_index : (n b c : ℕ) → b ≤ c → c < n → pair_of n b c + (1 + n) ≡ index_of n b c
unfolding pair_of
pair_index n b c h l = omega (arith, index_closed n b c h l)

pub pair_row : (n b c : ℕ) → b ≤ c → c < n → pair_of n b c ≡ row_start n b + (c - b)
pair_row n b c h l = omega (arith, pair_index n b c h l, pair_is n b c)

pub triple_key : (n b c d : ℕ) → b ≤ c → c ≤ d → b < d → d < n → key_of n b + pair_of n c d ≡ triple_index n b c d
triple_key n b c d h l k m = ap (λ (x : ℕ). key_of n b + x) (pair_row n c d l m) ∙ sym (index_base n b c d h l k m)

-- each pair has a seat of its own
pub seat_apart : (b c e g : ℕ) → b ≤ c → c < 20 → e ≤ g → g < 20 → seat_of b c ≡ seat_of e g → (b ≡ e) × (c ≡ g)
seat_apart b c e g h l m o k =
    let i : index_of 20 b c ≡ index_of 20 e g = sym (pair_index 20 b c h l) ∙ ap (λ (x : ℕ). x + 21) k ∙ pair_index 20 e g m o in
    (by (record { const = 0; lin = λ x. 0; quad = λ x y. x }) i, by (record { const = 0; lin = λ x. 0; quad = λ x y. y }) i)
  where
    by : (f : Poly) → index_of 20 b c ≡ index_of 20 e g → f.quad b c ≡ f.quad e g
    by f i = sym (nth_quad 20 f b c h l) ∙ ap (nth 20 f) i ∙ nth_quad 20 f e g m o

-- and each seat its pair
all_rows : row_start 20 20 ≡ 210
unfolding row_start
all_rows = refl

pub record Seat (k : ℕ) : Type 0 where
  pub first : ℕ
  pub second : ℕ
  pub order : first ≤ second
  pub below : second < 20
  pub is : seat_of first second ≡ k

pub seat_of_lem : (k : ℕ) → k < 210 → Seat k
seat_of_lem k l =
    let f = find 20 k (rw all_rows l) in
    let o : f.row ≤ f.row + f.place = omega arith in
    let w = f.within in
    let d : f.row + f.place - f.row ≡ f.place = omega arith in
    record {
      first = f.row;
      second = f.row + f.place;
      order = o;
      below = w;
      is = pair_row 20 f.row (f.row + f.place) o w ∙ ap (λ (x : ℕ). row_start 20 f.row + x) d ∙ sym f.number;
    }

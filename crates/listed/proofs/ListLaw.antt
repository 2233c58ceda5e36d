-- A list of the unknowns that are not 0 grows by one unknown; and a sum over all unknowns is the sum over the listed ones.
use mathlib.Core.Path.{◌≡◌, refl, sym, ap, ◌∙◌}
use mathlib.Core.Logic.{by_cases}
use mathlib.Core.List.{List}
use Prim.Native.Nat.{ℕ, zero, suc, ◌+◌, ◌-◌, ◌*◌, ◌/◌, ◌%◌, ◌^◌, ◌<◌, ◌≤◌}
use native.Mathlib.Nat.{mod-eq_of_lt}
use native.Mathlib.Numerals.{add-one}
use native.Mathlib.Decide.{ℕ_discrete}
use native.Mathlib.Omega.{arith}
use lib.Bits.{bit_and, bit_xor, and_mask, and_zero_r, xor_zero_l}
use lib.ListN.{length, get_or, set}
use lib.Seq.{get_or-set_same, get_or-set_other}
use Rattle.residues.specs.Sums.{sum}
use Rattle.residues.proofs.SumLaw.{sum_ext}
use Rattle.trits.specs.declared.Vector.{Vector}
use Rattle.trits.specs.Trit.{Holds}
use Rattle.trits.specs.Words.{Added, negate_of}
use Rattle.trits.proofs.SumLaw.{negated}
use Rattle.trits.proofs.HoldLaw.{holds_ext, holds_add, holds_negate}
use Rattle.listed.specs.declared.Listed.{Listed}
use Rattle.listed.specs.Lists.{ListHolds, Lists, Rising, ones}

-- ---- listing
-- every listed unknown is below n
module _ (n : ℕ) (x : ℕ → ℕ) (at turn : List ℕ) (c : ℕ) (g : Lists n x at turn c) where
  below : (i t : ℕ) → t + suc i ≡ c → get_or at t 0 < n
  below zero t e =
      let v : suc t ≡ c = omega arith in
      let u : get_or at (suc t) 0 ≡ n = ap (λ (y : ℕ). get_or at y 0) v ∙ g.last in
      let s = g.step t (omega arith) in
      omega arith
  below (suc i) t e =
      let r = below i (suc t) (omega arith) in
      let s = g.step t (omega arith) in
      omega arith

  pub listed_lt : (t : ℕ) → t < c → get_or at t 0 < n
  listed_lt t l = below (c - suc t) t (omega arith)

  -- and the later ones are larger
  rise : (i t : ℕ) → t + i < c → get_or at t 0 ≤ get_or at (t + i) 0
  rise zero t l = let e : t + 0 ≡ t = omega arith in rw e (omega arith)
  rise (suc i) t l =
      let r = rise i t (omega arith) in
      let s = g.step (t + i) (omega arith) in
      let e : t + suc i ≡ suc (t + i) = omega arith in
      rw e (omega arith)

  pub listed_rise : (t u : ℕ) → t ≤ u → u < c → get_or at t 0 ≤ get_or at u 0
  listed_rise t u l m = let e : t + (u - t) ≡ u = omega arith in let r = rise (u - t) t (omega arith) in rw (ap (λ (y : ℕ). get_or at y 0) e) at r

  pub rising : Rising n at c
  rising = record {
    below = listed_lt;
    rise = λ t u l m. let s = g.step t (omega arith) in let r = listed_rise (suc t) u l m in omega arith;
  }

  -- ---- one unknown more: it is 0
  module _ (room : suc c < length at) (words : c < length turn) (w : ℕ) where
    zero_more : x n ≡ 0 → Lists (suc n) x (set at c (suc n)) (set turn c w) c
    zero_more e = record {
      first = λ k l. by_cases (ℕ_discrete 0 c)
          (λ (z : 0 ≡ c).
          let a : get_or at 0 0 ≡ n = ap (λ (y : ℕ). get_or at y 0) z ∙ g.last in
          let b : get_or (set at c (suc n)) 0 0 ≡ suc n = ap (λ (y : ℕ). get_or (set at c (suc n)) y 0) z ∙ get_or-set_same at c (suc n) 0 (omega arith) in
          by_cases (ℕ_discrete k n) (λ (q : k ≡ n). ap x q ∙ e) (λ q. g.first k (omega arith)))
          (λ z. let b = get_or-set_other at c 0 (suc n) 0 z in g.first k (omega arith));
      step = λ t l.
          let a = get_or-set_other at c t (suc n) 0 (λ q. omega arith) in
          let o = listed_lt t l in
          by_cases (ℕ_discrete (suc t) c)
          (λ (z : suc t ≡ c). let b : get_or (set at c (suc n)) (suc t) 0 ≡ suc n = ap (λ (y : ℕ). get_or (set at c (suc n)) y 0) z ∙ get_or-set_same at c (suc n) 0 (omega arith) in omega arith)
          (λ z. let b = get_or-set_other at c (suc t) (suc n) 0 z in let s = g.step t l in omega arith);
      gap = λ t l k p r.
          let a = get_or-set_other at c t (suc n) 0 (λ q. omega arith) in
          by_cases (ℕ_discrete (suc t) c)
          (λ (z : suc t ≡ c).
          let b : get_or (set at c (suc n)) (suc t) 0 ≡ suc n = ap (λ (y : ℕ). get_or (set at c (suc n)) y 0) z ∙ get_or-set_same at c (suc n) 0 (omega arith) in
          let d : get_or at (suc t) 0 ≡ n = ap (λ (y : ℕ). get_or at y 0) z ∙ g.last in
          by_cases (ℕ_discrete k n) (λ (q : k ≡ n). ap x q ∙ e) (λ q. g.gap t l k (omega arith) (omega arith)))
          (λ z. let b = get_or-set_other at c (suc t) (suc n) 0 z in g.gap t l k (omega arith) (omega arith));
      last = get_or-set_same at c (suc n) 0 (omega arith);
      digit = λ t l. rw (get_or-set_other at c t (suc n) 0 (λ q. omega arith)) (g.digit t l);
      mask = λ t l. rw (get_or-set_other at c t (suc n) 0 (λ q. omega arith), get_or-set_other turn c t w 0 (λ q. omega arith)) (g.mask t l);
    }

    -- ---- it is 1 or 2
    some_more : 1 ≤ x n → x n ≤ 2 → w ≡ x n / 2 * ones → Lists (suc n) x (set at (suc c) (suc n)) (set turn c w) (suc c)
    some_more one two e = record {
      first = λ k l. g.first k (rw (get_or-set_other at (suc c) 0 (suc n) 0 (λ q. omega arith)) at l);
      step = λ t l.
          let a = get_or-set_other at (suc c) t (suc n) 0 (λ q. omega arith) in
          by_cases (ℕ_discrete t c)
          (λ (z : t ≡ c).
          let d : get_or at t 0 ≡ n = ap (λ (y : ℕ). get_or at y 0) z ∙ g.last in
          let b : get_or (set at (suc c) (suc n)) (suc t) 0 ≡ suc n = ap (λ (y : ℕ). get_or (set at (suc c) (suc n)) (suc y) 0) z ∙ get_or-set_same at (suc c) (suc n) 0 (omega arith) in
          omega arith)
          (λ z. let b = get_or-set_other at (suc c) (suc t) (suc n) 0 (λ q. omega arith) in let s = g.step t (omega arith) in omega arith);
      gap = λ t l k p r.
          let a = get_or-set_other at (suc c) t (suc n) 0 (λ q. omega arith) in
          by_cases (ℕ_discrete t c)
          (λ (z : t ≡ c).
          let d : get_or at t 0 ≡ n = ap (λ (y : ℕ). get_or at y 0) z ∙ g.last in
          let b : get_or (set at (suc c) (suc n)) (suc t) 0 ≡ suc n = ap (λ (y : ℕ). get_or (set at (suc c) (suc n)) (suc y) 0) z ∙ get_or-set_same at (suc c) (suc n) 0 (omega arith) in
          absurd (omega arith))
          (λ z. let b = get_or-set_other at (suc c) (suc t) (suc n) 0 (λ q. omega arith) in g.gap t (omega arith) k (omega arith) (omega arith));
      last = get_or-set_same at (suc c) (suc n) 0 room;
      digit = λ t l.
          by_cases (ℕ_discrete t c)
          (λ (z : t ≡ c). rw (here t z) (one, two))
          (λ z. rw (get_or-set_other at (suc c) t (suc n) 0 (λ q. omega arith)) (g.digit t (omega arith)));
      mask = λ t l.
          by_cases (ℕ_discrete t c)
          (λ (z : t ≡ c). rw (here t z) (ap (λ (y : ℕ). get_or (set turn c w) y 0) z ∙ get_or-set_same turn c w 0 words ∙ e))
          (λ z. rw (get_or-set_other at (suc c) t (suc n) 0 (λ q. omega arith), get_or-set_other turn c t w 0 z) (g.mask t (omega arith)));
    }
      where
        here : (t : ℕ) → t ≡ c → get_or (set at (suc c) (suc n)) t 0 ≡ n
        here t z = get_or-set_other at (suc c) t (suc n) 0 (λ q. omega arith) ∙ ap (λ (y : ℕ). get_or at y 0) z ∙ g.last

    -- ---- as the code goes on: d is its digit
    pub listed_next : (d : ℕ) → d ≡ x n → d < 3 → w ≡ d / 2 * ones → Lists (n + 1) x (set at (c + (d + 1) / 2) (n + 1)) (set turn c w) (c + (d + 1) / 2)
    listed_next d e l u =
        rw (add-one n)
        (by_cases (ℕ_discrete d 0)
        (λ (z : d ≡ 0). let k : c + (d + 1) / 2 ≡ c = omega arith in rw k (zero_more (sym e ∙ z)))
        (λ z.
        let k : c + (d + 1) / 2 ≡ suc c = omega arith in
        rw k (some_more (omega arith) (omega arith) (u ∙ ap (λ (y : ℕ). y / 2 * ones) e))))

-- ---- a vector times 1 or 2
abbrev pub masked : Vector → ℕ → Vector
masked v turn = record { high = v.high; low = bit_xor (bit_and v.high turn) v.low }

negates : (v : Vector) → bit_and v.high ones ≡ v.high → masked v ones ≡ negate_of v
unfolding negate_of
negates v p = simp p

pub turned_holds : (v : Vector) → v.high < 2 ^ 64 → (turn m x : ℕ) (f : ℕ → ℕ) → 1 ≤ x → x ≤ 2 → turn ≡ x / 2 * ones → Holds m f v → Holds m (λ e. f e * x) (masked v turn)
turned_holds v h turn m x f one two e g =
    by_cases (ℕ_discrete x 1)
    (λ (z : x ≡ 1).
    let k : turn ≡ 0 = e ∙ ap (λ (y : ℕ). y / 2 * ones) z in
    let r : masked v turn ≡ v = ap (masked v) k ∙ once in
    rw r (holds_ext (λ i l. ap (λ (y : ℕ). y % 3) (sym (ap (λ (y : ℕ). f i * y) z ∙ mul-one (f i)))) g))
    (λ n.
    let z : x ≡ 2 = omega arith in
    let k : turn ≡ ones = e ∙ ap (λ (y : ℕ). y / 2 * ones) z in
    let r : masked v turn ≡ negate_of v = ap (masked v) k ∙ twice in
    rw r (holds_ext (λ i l. ap (λ (y : ℕ). y % 3) (swap (f i) ∙ sym (ap (λ (y : ℕ). f i * y) z))) (holds_negate (record { words = refl; trits = λ k l. negated v k l }) g)))
  where
    mul-one : (y : ℕ) → y * 1 ≡ y
    mul-one y = omega arith

    swap : (y : ℕ) → 2 * y ≡ y * 2
    swap y = omega arith

    once : masked v 0 ≡ v
    once = simp (and_zero_r, xor_zero_l)

    twice : masked v ones ≡ negate_of v
    twice = let p : bit_and v.high ones ≡ v.high = and_mask v.high 64 ∙ mod-eq_of_lt h in negates v p

-- ---- sums over the listed unknowns alone
pub sum_still : (a i : ℕ) (H : ℕ → ℕ) → ((d : ℕ) → a ≤ d → d < a + i → H d ≡ 0) → sum (a + i) H ≡ sum a H
unfolding sum
sum_still a zero H z = let e : a + 0 ≡ a = omega arith in ap (λ (k : ℕ). sum k H) e
sum_still a (suc i) H z =
    let e : a + suc i ≡ suc (a + i) = omega arith in
    let k = z (a + i) (omega arith) (omega arith) in
    let r = sum_still a i H (λ d l m. z d l (omega arith)) in
    rw (ap (λ (y : ℕ). sum y H) e) (omega arith)

pub sum_listed : (n : ℕ) (x : ℕ → ℕ) (at turn : List ℕ) (c : ℕ) → Lists n x at turn c → (t : ℕ) → t < c → (i : ℕ) → i ≤ get_or at t 0
    → (H : ℕ → ℕ) → ((d : ℕ) → x (i + d) ≡ 0 → H d ≡ 0) → sum (get_or at (t + 1) 0 - i) H ≡ sum (get_or at t 0 - i) H + H (get_or at t 0 - i)
unfolding sum
sum_listed n x at turn c g t l i m H z =
    let a = get_or at t 0 - i in
    let s = g.step t l in
    let e : get_or at (t + 1) 0 ≡ get_or at (suc t) 0 = ap (λ (y : ℕ). get_or at y 0) (add-one t) in
    let k : get_or at (t + 1) 0 - i ≡ suc a + (get_or at (suc t) 0 - suc (get_or at t 0)) = omega arith in
    ap (λ (y : ℕ). sum y H) k
    ∙ sum_still (suc a) (get_or at (suc t) 0 - suc (get_or at t 0)) H (λ d o p. z d (g.gap t l (i + d) (omega arith) (omega arith)))

-- one listed unknown more in a row: u is the sum so far, v its entry, w that times it
pub row_more : (n : ℕ) (x : ℕ → ℕ) (at turn : List ℕ) (c : ℕ) → Lists n x at turn c → (t : ℕ) → t < c → (i : ℕ) → i ≤ get_or at t 0
    → (m : ℕ) (s : ℕ → ℕ) (h : ℕ → ℕ → ℕ) (u w r : Vector) → Holds m (λ e. s e + sum (get_or at t 0 - i) (λ d. h e (i + d) * x (i + d))) u
    → Holds m (λ e. h e (get_or at t 0) * x (get_or at t 0)) w → Added u w r → Holds m (λ e. s e + sum (get_or at (t + 1) 0 - i) (λ d. h e (i + d) * x (i + d))) r
row_more n x at turn c g t l i o m s h u w r p q a =
    let k : i + (get_or at t 0 - i) ≡ get_or at t 0 = omega arith in
    holds_ext (λ e j. ap (λ (y : ℕ). y % 3)
    (left (s e) (sum (get_or at t 0 - i) (λ d. h e (i + d) * x (i + d))) (h e (get_or at t 0) * x (get_or at t 0))
    ∙ ap (λ (y : ℕ). s e + y)
    (ap (λ (y : ℕ). sum (get_or at t 0 - i) (λ d. h e (i + d) * x (i + d)) + h e y * x y) (sym k)
    ∙ sym (sum_listed n x at turn c g t l i o (λ d. h e (i + d) * x (i + d)) (λ d z. ap (λ (y : ℕ). h e (i + d) * y) z ∙ none (h e (i + d)))))))
    (holds_add a p q)
  where
    left : (a b c : ℕ) → a + b + c ≡ a + (b + c)
    left a b c = omega arith

    none : (y : ℕ) → y * 0 ≡ 0
    none y = omega arith

-- nothing summed yet
pub row_begun : (m : ℕ) (s z : ℕ → ℕ) (v : Vector) → ((e : ℕ) → z e ≡ 0) → Holds m s v → Holds m (λ e. s e + z e) v
row_begun m s z v h g = holds_ext (λ e l. ap (λ (y : ℕ). y % 3) (sym (ap (λ (y : ℕ). s e + y) (h e) ∙ none (s e)))) g
  where
    none : (y : ℕ) → y + 0 ≡ y
    none y = omega arith

-- nothing of a sum before its start
pub none_begun : (a : ℕ) (H : ℕ → ℕ) → sum (a - a) H ≡ 0
unfolding sum
none_begun a H = let z : a - a ≡ 0 = omega arith in ap (λ (k : ℕ). sum k H) z

-- a sum that starts at 0 is the whole
pub sum_from_none : (n : ℕ) (h : ℕ → ℕ) → sum (n - 0) (λ d. h (0 + d)) ≡ sum n h
sum_from_none n h =
    let z : n - 0 ≡ n = omega arith in
    ap (λ (k : ℕ). sum k (λ d. h (0 + d))) z ∙ sum_ext n (λ d. h (0 + d)) h (λ d l. ap h (zero_left d))
  where
    zero_left : (y : ℕ) → 0 + y ≡ y
    zero_left y = omega arith

-- the unknowns before the first listed one are 0
pub first_begun : (n : ℕ) (x : ℕ → ℕ) (at turn : List ℕ) (c : ℕ) → Lists n x at turn c → (h : ℕ → ℕ) → sum (get_or at 0 0 - 0) (λ d. h (0 + d) * x (0 + d)) ≡ 0
unfolding sum
first_begun n x at turn c g h =
    let z : get_or at 0 0 - 0 ≡ 0 + get_or at 0 0 = omega arith in
    ap (λ (k : ℕ). sum k (λ d. h (0 + d) * x (0 + d))) z
    ∙ sum_still 0 (get_or at 0 0) (λ d. h (0 + d) * x (0 + d)) (λ d l o. ap (λ (y : ℕ). h (0 + d) * y) (g.first (0 + d) (omega arith)) ∙ nought (h (0 + d)))
  where
    nought : (y : ℕ) → y * 0 ≡ 0
    nought y = omega arith

-- the order of two listed unknowns
pub pair_order : (n : ℕ) (at : List ℕ) (c s t : ℕ) → Rising n at c → s ≤ t → t < c → (get_or at s 0 ≤ get_or at t 0) × (get_or at t 0 < n)
pair_order n at c s t r l m =
    by_cases (ℕ_discrete s t)
    (λ (e : s ≡ t). let k : get_or at s 0 ≡ get_or at t 0 = ap (λ (y : ℕ). get_or at y 0) e in (omega arith, r.below t m))
    (λ e. let k = r.rise s t (omega arith) m in (omega arith, r.below t m))

-- ---- what a value says of a list
pub list_holds_same : (n : ℕ) (list : Listed) (Has : ℕ → Type 0) (h : (ℕ → ℕ) → ℕ → ℕ) (v z : Vector) → v ≡ z → ListHolds n list Has h z → ListHolds n list Has h v
list_holds_same n list Has h v z e t = rw e t

pub list_holds : (n : ℕ) (list : Listed) (Has : ℕ → Type 0) (h : (ℕ → ℕ) → ℕ → ℕ) (v : Vector) → ListHolds n list Has h v
    → (m : ℕ) (x : ℕ → ℕ) → Has m → Lists n x list.at list.turn list.count → Holds m (h x) v
unfolding ListHolds
list_holds n list Has h v t = t

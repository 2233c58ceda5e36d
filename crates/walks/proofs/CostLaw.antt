-- Additions of whole walks: a place q * k + e has e positions more than k, so the sums over n + 1 digits are made of those over n.
use mathlib.Core.Path.{◌≡◌, refl, sym, ap, ap₂, ◌∙◌}
use mathlib.Core.Logic.{by_cases, ◌↔◌}
use mathlib.Core.List.{List}
use Prim.Native.Nat.{ℕ, zero, suc, ◌+◌, ◌-◌, ◌*◌, ◌/◌, ◌^◌, ◌≤◌, ◌<◌, min}
use native.Mathlib.Nat.{add-zero, zero-add, mul-zero, mul-suc, mul_comm, mul-sub, one-mul, pow-zero, pow-suc, one-le-pow, mul-le-mul_left, zero-min, min-zero, mod-eq_of_lt}
use native.Mathlib.Decide.{ℕ_discrete}
use native.Mathlib.Omega.{arith}
use lib.ListN.{length}
use Rattle.residues.specs.Sums.{sum}
use Rattle.residues.proofs.SumLaw.{sum_add, sum_ext}
use Rattle.positions.specs.Positions.{lowest_in, lowest_of, positions_in, positions, reps}
use Rattle.positions.proofs.LowestLaw.{of_times, of_le, of_other}
use Rattle.positions.proofs.PositionLaw.{positions_none, positions_next, positions_reps, positions_one, positions_two}
use Rattle.walks.specs.Calls.{Trail, cost_in}
use Rattle.walks.specs.Cost.{cost_of, cost_all}
use Rattle.walks.proofs.CallLaw.{cost_add}

-- ---- sums
sum_const : (n c : ℕ) → sum n (λ i. c) ≡ n * c
unfolding sum
sum_const zero c = omega arith
sum_const (suc n) c = omega (arith, sum_const n c)

sum_split : (a b : ℕ) (h : ℕ → ℕ) → sum (a + b) h ≡ sum a h + sum b (λ i. h (a + i))
unfolding sum
sum_split a zero h = ap (λ (n : ℕ). sum n h) (add-zero a) ∙ sym (add-zero (sum a h))
sum_split a (suc b) h =
    let s : a + suc b ≡ suc (a + b) = omega arith in
    ap (λ (n : ℕ). sum n h) s ∙ ap (λ (n : ℕ). n + h (a + b)) (sum_split a b h) ∙ omega arith

sum_swap : (a b : ℕ) (h : ℕ → ℕ → ℕ) → sum a (λ i. sum b (λ j. h i j)) ≡ sum b (λ j. sum a (λ i. h i j))
unfolding sum
sum_swap zero b h = sym (sum_const b 0 ∙ mul-zero b)
sum_swap (suc a) b h = ap (λ (n : ℕ). n + sum b (λ j. h a j)) (sum_swap a b h) ∙ sym (sum_add b (λ j. sum a (λ i. h i j)) (λ j. h a j))

-- q * m places as m times q
pub sum_rows : (q m : ℕ) (h : ℕ → ℕ) → sum (q * m) h ≡ sum m (λ k. sum q (λ e. h (q * k + e)))
unfolding sum
sum_rows q zero h = ap (λ (n : ℕ). sum n h) (mul-zero q)
sum_rows q (suc m) h =
    ap (λ (n : ℕ). sum n h) (mul-suc q m) ∙ sum_split (q * m) q h ∙ ap (λ (n : ℕ). n + sum q (λ e. h (q * m + e))) (sum_rows q m h)

-- the additions of places 0 to n - 1 are a sum
pub cost_sum : (T : Trail) (n : ℕ) → cost_in T 0 n ≡ sum n T.cost
unfolding cost_in sum
cost_sum T zero = refl
cost_sum T (suc n) =
    let s : suc n ≡ n + 1 = omega arith in
    ap (cost_in T 0) s ∙ cost_add T 0 n 1 ∙ ap₂ (λ (x y : ℕ). x + y) (cost_sum T n) (add-zero (T.cost (0 + n)) ∙ ap T.cost (zero-add n))

module _ (q : ℕ) (two : 1 < q) where
  -- ---- the number of positions
  reps_length : (d l : ℕ) (ps : List ℕ) → length (reps d l ps) ≡ d + length ps
  unfolding reps
  reps_length zero l ps = omega arith
  reps_length (suc d) l ps = omega (arith, reps_length d l ps)

  power_one : q ^ 1 ≡ q
  power_one = pow-suc q 0 ∙ ap (λ (i : ℕ). i * q) (pow-zero q) ∙ one-mul q

  -- a digit 0 below all others gives none
  times_in_lem : (n k : ℕ) → k ≤ n → length (positions q (q * k)) ≡ length (positions q k)
  times_in_lem zero zero h = ap (λ (x : ℕ). length (positions q x)) (mul-zero q)
  times_in_lem zero (suc k) h = absurd (omega arith)
  times_in_lem (suc n) zero h = ap (λ (x : ℕ). length (positions q x)) (mul-zero q)
  times_in_lem (suc n) (suc k) h =
      let x = suc k in
      let z : 0 < q = omega arith in
      let pos : 0 < x = omega arith in
      let w = one-le-pow (lowest_of q x) q z in
      let low : lowest_of q (q * x) ≡ suc (lowest_of q x) = ap (λ (i : ℕ). lowest_of q (i * x)) (sym power_one) ∙ of_times q two 1 x pos ∙ omega arith in
      let big : 0 < q * x = omega (arith, mul-le-mul_left q pos) in
      let left : q * x - q ^ lowest_of q (q * x) ≡ q * (x - q ^ lowest_of q x) = rw (low, pow-suc) (less (q ^ lowest_of q x) x) in
      ap length (positions_next q two (q * x) big)
      ∙ ap (λ (i : ℕ). suc (length (positions q i))) left
      ∙ ap suc (times_in_lem n (x - q ^ lowest_of q x) (omega arith))
      ∙ sym (ap length (positions_next q two x pos))
    where
      less : (w x : ℕ) → q * x - w * q ≡ q * (x - w)
      less w x = ap (λ (i : ℕ). q * x - i) (mul_comm w q) ∙ sym (mul-sub q x w)

  pub positions_count : (k e : ℕ) → e < q → length (positions q (q * k + e)) ≡ e + length (positions q k)
  positions_count k e h =
      let one : (x : ℕ) → q ^ 0 * x ≡ x = λ x. rw (pow-zero q) (one-mul x) in
      ap (λ (i : ℕ). length (positions q i)) (sym (one (q * k + e)))
      ∙ ap length (positions_reps q two 0 k e h) ∙ reps_length e 0 (positions q (q ^ 0 * (q * k)))
      ∙ ap (λ (i : ℕ). e + length (positions q i)) (one (q * k)) ∙ ap (λ (i : ℕ). e + i) (times_in_lem k k (omega arith))

  -- ---- what a place costs
  pub cost_digit : (d k e : ℕ) → e < q → cost_of q d (q * k + e) ≡ min d e + cost_of q (d - e) k
  unfolding cost_of
  cost_digit d k e h = ap (min d) (positions_count k e h) ∙ cut d e (length (positions q k))
    where
      cut : (d e n : ℕ) → min d (e + n) ≡ min d e + min (d - e) n
      cut d e n = omega arith

  pub all_next : (d n : ℕ) → cost_all q d (suc n) ≡ sum q (λ e. q ^ n * min d e + cost_all q (d - e) n)
  unfolding cost_all
  all_next d n =
      let w : q ^ suc n ≡ q * q ^ n = pow-suc q n ∙ omega arith in
      ap (λ (i : ℕ). sum i (cost_of q d)) w
      ∙ sum_rows q (q ^ n) (cost_of q d)
      ∙ sum_swap (q ^ n) q (λ k e. cost_of q d (q * k + e))
      ∙ sum_ext q (λ e. sum (q ^ n) (λ k. cost_of q d (q * k + e))) (λ e. q ^ n * min d e + sum (q ^ n) (cost_of q (d - e)))
      (λ e h.
      sum_ext (q ^ n) (λ k. cost_of q d (q * k + e)) (λ k. min d e + cost_of q (d - e) k) (λ k l. cost_digit d k e h)
      ∙ sum_add (q ^ n) (λ k. min d e) (cost_of q (d - e))
      ∙ ap (λ (i : ℕ). i + sum (q ^ n) (cost_of q (d - e))) (sum_const (q ^ n) (min d e)))

  -- ---- all places of n digits
  pub all_nothing : (n : ℕ) → cost_all q 0 n ≡ 0
  unfolding cost_all cost_of
  all_nothing n =
      sum_ext (q ^ n) (λ p. min 0 (length (positions q p))) (λ p. 0) (λ p h. zero-min (length (positions q p))) ∙ sum_const (q ^ n) 0 ∙ mul-zero (q ^ n)

  pub all_none : (d : ℕ) → cost_all q d 0 ≡ 0
  unfolding cost_all cost_of sum
  all_none d =
      ap (λ (n : ℕ). sum n (cost_of q d)) (pow-zero q)
      ∙ ap (λ (l : List ℕ). 0 + min d (length l)) (positions_none q two) ∙ ap (λ (n : ℕ). 0 + n) (min-zero d)

  -- the digits from d upward cost d at every place
  all_rows : (d r n : ℕ) → q ≡ d + r → cost_all q d (suc n) ≡ sum d (λ e. q ^ n * min d e + cost_all q (d - e) n) + r * (q ^ n * d)
  all_rows d r n h =
      all_next d n ∙ ap (λ (i : ℕ). sum i f) h ∙ sum_split d r f
      ∙ ap (λ (i : ℕ). sum d f + i) (sum_ext r (λ i. f (d + i)) (λ i. q ^ n * d) (λ i l. full i) ∙ sum_const r (q ^ n * d))
    where
      f : ℕ → ℕ
      f e = q ^ n * min d e + cost_all q (d - e) n

      full : (i : ℕ) → q ^ n * min d (d + i) + cost_all q (d - (d + i)) n ≡ q ^ n * d
      full i =
          let m : min d (d + i) ≡ d = omega arith in
          let z : d - (d + i) ≡ 0 = omega arith in
          ap₂ (λ (x y : ℕ). q ^ n * x + cost_all q y n) m z ∙ ap (λ (x : ℕ). q ^ n * d + x) (all_nothing n) ∙ add-zero (q ^ n * d)

  pub all_one : (n : ℕ) → cost_all q 1 n + 1 ≡ q ^ n
  unfolding sum
  all_one zero = omega (arith, all_none 1, pow-zero q)
  all_one (suc n) =
      let r = q - 1 in
      let h : q ≡ 1 + r = omega arith in
      let w : q ^ suc n ≡ q ^ n * (1 + r) = pow-suc q n ∙ ap (λ (i : ℕ). q ^ n * i) h in
      omega (arith, all_rows 1 r n h, w, all_one n)

  pub all_two : (n : ℕ) → cost_all q 2 n + 2 + n ≡ 2 * q ^ n
  unfolding sum
  all_two zero = omega (arith, all_none 2, pow-zero q)
  all_two (suc n) =
      let r = q - 2 in
      let h : q ≡ 2 + r = omega arith in
      let w : q ^ suc n ≡ q ^ n * (2 + r) = pow-suc q n ∙ ap (λ (i : ℕ). q ^ n * i) h in
      omega (arith, all_rows 2 r n h, w, all_two n, all_one n)

  -- in degree 3, with twice the sum so that no half is in it
  pub all_three : 2 < q → (n : ℕ) → 2 * cost_all q 3 n + 6 + 4 * n + n * (n + 1) ≡ 6 * q ^ n
  unfolding sum
  all_three more zero = omega (arith, all_none 3, pow-zero q)
  all_three more (suc n) =
      let r = q - 3 in
      let h : q ≡ 3 + r = omega arith in
      let w : q ^ suc n ≡ q ^ n * (3 + r) = pow-suc q n ∙ ap (λ (i : ℕ). q ^ n * i) h in
      omega (arith, all_rows 3 r n h, w, all_three more n, all_two n, all_one n)

  -- ---- the additions of a whole walk
  module _ (T : Trail) (n : ℕ) where
    all_cost : (d : ℕ) → ((p : ℕ) → p < q ^ n → T.cost p ≡ cost_of q d p) → cost_in T 0 (q ^ n) ≡ cost_all q d n
    unfolding cost_all
    all_cost d e = cost_sum T (q ^ n) ∙ sum_ext (q ^ n) T.cost (cost_of q d) e

    pub whole_two : ((p : ℕ) → p < q ^ n → T.cost p ≡ cost_of q 2 p) → cost_in T 0 (q ^ n) ≡ 2 * (q ^ n - 1) - n
    whole_two e = omega (arith, all_cost 2 e, all_two n)

    pub whole_three : 2 < q → ((p : ℕ) → p < q ^ n → T.cost p ≡ cost_of q 3 p) → cost_in T 0 (q ^ n) ≡ 3 * (q ^ n - 1) - 2 * n - n * (n + 1) / 2
    whole_three more e = omega (arith, all_cost 3 e, all_three more n)

  -- ---- the cost of one place: no position at 0, one at a power, two or more elsewhere
  pub count_zero : length (positions q 0) ≡ 0
  count_zero = ap length (positions_none q two)

  lowest_power : (k : ℕ) → lowest_of q (q ^ k) ≡ k
  lowest_power k =
      let o : q ^ k * 1 ≡ q ^ k = omega arith in
      let z : lowest_of q 1 ≡ 0 = of_other q two 1 (λ e. omega (arith, e, mod-eq_of_lt two)) in
      ap (lowest_of q) (sym o) ∙ of_times q two k 1 (omega arith) ∙ ap (λ (i : ℕ). k + i) z ∙ add-zero k

  pub count_power : (k : ℕ) → length (positions q (q ^ k)) ≡ 1
  count_power k =
      let z : 0 < q = omega arith in
      let e : q ^ k - q ^ lowest_of q (q ^ k) ≡ 0 = rw (lowest_power k) (omega arith) in
      ap length (positions_one q two (q ^ k) (one-le-pow k q z) e)

  pub count_other : (p : ℕ) → 0 < p → (p ≡ q ^ lowest_of q p → ⊥) → 2 ≤ length (positions q p)
  count_other p h f =
      let l = of_le q two p h in
      omega (arith, ap length (positions_two q two p h (omega arith)))

  pub cost_zero : (d : ℕ) → cost_of q d 0 ≡ 0
  unfolding cost_of
  cost_zero d = omega (arith, count_zero)

  pub cost_power : (d k : ℕ) → 0 < d → cost_of q d (q ^ k) ≡ 1
  unfolding cost_of
  cost_power d k h = omega (arith, count_power k)

  pub cost_other : (p : ℕ) → 0 < p → ((k : ℕ) → p ≡ q ^ k → ⊥) → cost_of q 2 p ≡ 2
  unfolding cost_of
  cost_other p h f = omega (arith, count_other p h (f (lowest_of q p)))

  -- one addition at powers only
  pub cost_one : (p : ℕ) → (cost_of q 2 p ≡ 1) ↔ ((k : ℕ) × (p ≡ q ^ k))
  unfolding cost_of
  cost_one p = (
    λ e. by_cases (ℕ_discrete p 0)
        (λ z. absurd (omega (arith, e, cost_zero 2, ap (cost_of q 2) z)))
        (λ n. by_cases (ℕ_discrete p (q ^ lowest_of q p)) (λ s. (lowest_of q p, s)) (λ f. absurd (omega (arith, e, count_other p (omega arith) f)))),
    λ z. ap (cost_of q 2) z.1 ∙ cost_power 2 z.0 (omega arith),
  )

  -- and never more than the degree
  pub cost_le : (d p : ℕ) → cost_of q d p ≤ d
  unfolding cost_of
  cost_le d p = omega arith

-- ---- computed: one to three digits in base 3, one and two in base 5, and two in base 3 in degree 3
pub at_three : (cost_all 3 2 1 ≡ 3) × (cost_all 3 2 2 ≡ 14) × (cost_all 3 2 3 ≡ 49)
unfolding cost_all cost_of sum positions positions_in lowest_of lowest_in
at_three = (refl, refl, refl)

pub at_five : (cost_all 5 2 1 ≡ 7) × (cost_all 5 2 2 ≡ 46)
unfolding cost_all cost_of sum positions positions_in lowest_of lowest_in
at_five = (refl, refl)

pub at_cubic : cost_all 3 3 2 ≡ 17
unfolding cost_all cost_of sum positions positions_in lowest_of lowest_in
at_cubic = refl

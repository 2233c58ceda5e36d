-- The Gray map is one-to-one and onto, over n and the base: sums of differences of digits are the digits again.
use mathlib.Core.Path.{◌≡◌, sym, ap, ◌∙◌}
use mathlib.Core.Logic.{by_cases}
use Prim.Native.Nat.{ℕ, zero, suc, ◌+◌, ◌-◌, ◌*◌, ◌/◌, ◌%◌, ◌^◌, ◌<◌, ◌≤◌}
use native.Mathlib.Nat.{mod-lt, mod-eq_of_lt, add-zero, suc-add}
use native.Mathlib.Numerals.{add-one}
use native.Mathlib.Decide.{dec_lt}
use native.Mathlib.Omega.{arith}
use Rattle.residues.specs.Sums.{sum, same}
use Rattle.residues.proofs.ModLaw.{Cong, crefl, cof, csym, ◌⨾◌, cdrop, cadd, cancel, cless, csmall}
use Rattle.residues.proofs.SumLaw.{sum_ext}
use Rattle.positions.specs.Positions.{lowest_of}
use Rattle.gray.specs.Numbers.{digit, number, point_digit, point_of, place_digit, place_of}
use Rattle.gray.proofs.GrayLaw.{gray_step, point_next}
use Rattle.gray.proofs.DigitLaw.{digit_lt, digit_low, digit_next, digit_above, number_ext, number_lt, digit_number, number_digit}

-- the first summand of a sum, taken out
pub sum_front : (m : ℕ) (h : ℕ → ℕ) → sum (suc m) h ≡ h 0 + sum m (λ d. h (suc d))
unfolding sum
sum_front zero h = omega arith
sum_front (suc m) h = ap (λ (x : ℕ). x + h (suc m)) (sum_front m h) ∙ omega arith

module _ (q : ℕ) (two : 1 < q) where
  pos : 0 < q
  pos = omega arith

  pub point_digit_lt : (p k : ℕ) → point_digit q p k < q
  unfolding point_digit
  point_digit_lt p k = mod-lt (digit q p k + q - digit q p (k + 1)) pos

  pub place_digit_lt : (n x k : ℕ) → place_digit q n x k < q
  unfolding place_digit
  place_digit_lt n x k = mod-lt (sum (n - k) (λ d. digit q x (k + d))) pos

  pub point_lt : (n p : ℕ) → point_of q n p < q ^ n
  unfolding point_of
  point_lt n p = number_lt q two n (point_digit q p) (λ k l. point_digit_lt p k)

  pub place_lt : (n x : ℕ) → place_of q n x < q ^ n
  unfolding place_of
  place_lt n x = number_lt q two n (place_digit q n x) (λ k l. place_digit_lt n x k)

  -- the digits of the point at a place, and of the place of a point
  pub point_digit_lem : (n p k : ℕ) → k < n → digit q (point_of q n p) k ≡ point_digit q p k
  unfolding point_of
  point_digit_lem n p k l = digit_number q two n (point_digit q p) (λ k l. point_digit_lt p k) k l

  pub place_digit_lem : (n x k : ℕ) → k < n → digit q (place_of q n x) k ≡ place_digit q n x k
  unfolding place_of
  place_digit_lem n x k l = digit_number q two n (place_digit q n x) (λ k l. place_digit_lt n x k) k l

  -- a digit of a point and the next digit of its place are the digit of its place
  pub point_is : (p k : ℕ) → Cong q (point_digit q p k + digit q p (suc k)) (digit q p k)
  unfolding point_digit
  point_is p k =
      cof (ap (λ (j : ℕ). (digit q p k + q - digit q p j) % q + digit q p (suc k)) (add-one k))
      ⨾ cless (digit q p k) (digit q p (suc k)) (omega (arith, digit_lt q two p (suc k)))

  -- m digits of a point in a row add up to the digit of the place, less the digit after them
  along : (p k m : ℕ) → Cong q (sum m (λ d. point_digit q p (k + d)) + digit q p (k + m)) (digit q p k)
  unfolding sum
  along p k zero = cof (ap (λ (j : ℕ). 0 + digit q p j) (add-zero k) ∙ omega arith)
  along p k (suc m) =
      cof (ap (λ (j : ℕ). sum m (λ d. point_digit q p (k + d)) + point_digit q p (k + m) + digit q p j) (next k m) ∙ group _ _ _)
      ⨾ cadd (crefl (sum m (λ d. point_digit q p (k + d)))) (point_is p (k + m)) ⨾ along p k m
    where
      next : (k m : ℕ) → k + suc m ≡ suc (k + m)
      next k m = omega arith

      group : (a b c : ℕ) → a + b + c ≡ a + (b + c)
      group a b c = omega arith

  -- the place of the point at place p is p
  back_digit : (n p k : ℕ) → p < q ^ n → k < n → place_digit q n (point_of q n p) k ≡ digit q p k
  unfolding place_digit
  back_digit n p k l h =
      let e : sum (n - k) (λ d. digit q (point_of q n p) (k + d)) ≡ sum (n - k) (λ d. point_digit q p (k + d)) =
      sum_ext (n - k) (λ d. digit q (point_of q n p) (k + d)) (λ d. point_digit q p (k + d)) (λ d m. point_digit_lem n p (k + d) (omega arith)) in
      let z : digit q p (k + (n - k)) ≡ 0 = digit_above q two n p (k + (n - k)) l (omega arith) in
      let c : Cong q (sum (n - k) (λ d. digit q (point_of q n p) (k + d))) (digit q p k) =
      cof (e ∙ (sym (add-zero _) ∙ ap (λ (y : ℕ). sum (n - k) (λ d. point_digit q p (k + d)) + y) (sym z))) ⨾ along p k (n - k) in
      csmall (mod-lt _ pos) (digit_lt q two p k) (cdrop _ ⨾ c)

  pub place_of_point : (n p : ℕ) → p < q ^ n → place_of q n (point_of q n p) ≡ p
  unfolding place_of
  place_of_point n p l =
      number_ext q n (place_digit q n (point_of q n p)) (digit q p) (λ k h. back_digit n p k l h) ∙ number_digit q two n p l

  -- each digit of the place of x, also from n upward
  none : (n k x : ℕ) → n ≤ k → place_digit q n x k ≡ 0
  unfolding place_digit sum
  none n k x h = let e : n - k ≡ 0 = omega arith in rw (e, sum) (mod-eq_of_lt pos)

  place_digits : (n x k : ℕ) → digit q (place_of q n x) k ≡ place_digit q n x k
  place_digits n x k =
      by_cases (dec_lt k n) (λ l. place_digit_lem n x k l)
      (λ g. digit_above q two n (place_of q n x) k (place_lt n x) (omega arith) ∙ sym (none n k x (omega arith)))

  -- a digit of the place of x is the digit of x and the next digit of the place
  place_is : (n x k : ℕ) → k < n → Cong q (place_digit q n x k) (digit q x k + place_digit q n x (suc k))
  unfolding place_digit
  place_is n x k l =
      let m : n - k ≡ suc (n - suc k) = omega arith in
      cdrop (sum (n - k) (λ d. digit q x (k + d)))
      ⨾ cof (ap (λ (j : ℕ). sum j (λ d. digit q x (k + d))) m ∙ sum_front (n - suc k) (λ d. digit q x (k + d)))
      ⨾ cadd (cof (ap (digit q x) (add-zero k)))
      (cof (sum_ext (n - suc k) (λ d. digit q x (k + suc d)) (λ d. digit q x (suc k + d)) (λ d h. ap (digit q x) (turn k d))) ⨾ csym (cdrop _))
    where
      turn : (k d : ℕ) → k + suc d ≡ suc k + d
      turn k d = omega arith

  -- the point at the place of x is x
  pub forth_digit : (n x k : ℕ) → k < n → point_digit q (place_of q n x) k ≡ digit q x k
  forth_digit n x k l =
      csmall (point_digit_lt (place_of q n x) k) (digit_lt q two x k)
      (cancel pos (place_digit q n x (suc k))
      (cof (ap (λ (y : ℕ). point_digit q (place_of q n x) k + y) (sym (place_digits n x (suc k)))) ⨾ point_is (place_of q n x) k ⨾ cof (place_digits n x k) ⨾ place_is n x k l))

  pub point_of_place : (n x : ℕ) → x < q ^ n → point_of q n (place_of q n x) ≡ x
  unfolding point_of
  point_of_place n x l = number_ext q n (point_digit q (place_of q n x)) (digit q x) (λ k h. forth_digit n x k h) ∙ number_digit q two n x l

  -- one-to-one: no two places have the same point, no two points the same place
  pub point_same : (n p p' : ℕ) → p < q ^ n → p' < q ^ n → point_of q n p ≡ point_of q n p' → p ≡ p'
  point_same n p p' l l' e = sym (place_of_point n p l) ∙ ap (place_of q n) e ∙ place_of_point n p' l'

  pub place_same : (n x x' : ℕ) → x < q ^ n → x' < q ^ n → place_of q n x ≡ place_of q n x' → x ≡ x'
  place_same n x x' l l' e = sym (point_of_place n x l) ∙ ap (point_of q n) e ∙ point_of_place n x' l'

  -- onto: each point has a place, each place is the place of a point
  pub point_onto : (n x : ℕ) → x < q ^ n → (p : ℕ) × (p < q ^ n) × (point_of q n p ≡ x)
  point_onto n x l = (place_of q n x, place_lt n x, point_of_place n x l)

  pub place_onto : (n p : ℕ) → p < q ^ n → (x : ℕ) × (x < q ^ n) × (place_of q n x ≡ p)
  place_onto n p l = (point_of q n p, point_lt n p, place_of_point n p l)

  -- from place p to the next, the digit at the first position of the next grows by 1 modulo q, and no other
  pub step_digit : (p k : ℕ) → point_digit q (suc p) k ≡ (point_digit q p k + same k (lowest_of q (suc p))) % q
  step_digit p k = sym (mod-eq_of_lt (point_digit_lt (suc p) k)) ∙ (gray_step q two k p).same

  pub step_point : (n p k : ℕ) → k < n → digit q (point_of q n (suc p)) k ≡ (digit q (point_of q n p) k + same k (lowest_of q (suc p))) % q
  step_point n p k l =
      point_digit_lem n (suc p) k l ∙ step_digit p k ∙ ap (λ (x : ℕ). (x + same k (lowest_of q (suc p))) % q) (sym (point_digit_lem n p k l))

  -- the point and the place from those of a number of one digit less
  pub point_next_is : (n p : ℕ) → point_of q (suc n) p ≡ point_digit q p 0 + q * point_of q n (p / q)
  unfolding point_of number
  point_next_is n p = ap (λ (y : ℕ). point_digit q p 0 + q * y) (number_ext q n (λ k. point_digit q p (suc k)) (point_digit q (p / q)) (λ k h. point_next q two p k))

  shifted : (n x k : ℕ) → place_digit q (suc n) x (suc k) ≡ place_digit q n (x / q) k
  unfolding place_digit
  shifted n x k =
      ap (λ (y : ℕ). y % q) (ap (λ (j : ℕ). sum j (λ d. digit q x (suc k + d))) (less n k)
      ∙ sum_ext (n - k) (λ d. digit q x (suc k + d)) (λ d. digit q (x / q) (k + d)) (λ d h. ap (digit q x) (suc-add k d) ∙ digit_next q two x (k + d)))
    where
      less : (n k : ℕ) → suc n - suc k ≡ n - k
      less n k = omega arith

  low : (n x : ℕ) → place_digit q (suc n) x 0 ≡ (x + place_of q n (x / q)) % q
  low n x =
      csmall (place_digit_lt (suc n) x 0) (mod-lt _ pos)
      (place_is (suc n) x 0 (omega arith)
      ⨾ cadd (cof (digit_low q two x) ⨾ cdrop x) (cof (shifted n x 0 ∙ sym (place_digits n (x / q) 0) ∙ digit_low q two (place_of q n (x / q))) ⨾ cdrop _)
      ⨾ csym (cdrop _))

  front : (n x : ℕ) → place_of q (suc n) x ≡ place_digit q (suc n) x 0 + q * place_of q n (x / q)
  unfolding place_of number
  front n x =
      ap (λ (y : ℕ). place_digit q (suc n) x 0 + q * y) (number_ext q n (λ k. place_digit q (suc n) x (suc k)) (place_digit q n (x / q)) (λ k h. shifted n x k))

  pub place_next_is : (n x : ℕ) → place_of q (suc n) x ≡ (x + place_of q n (x / q)) % q + q * place_of q n (x / q)
  place_next_is n x = front n x ∙ ap (λ (y : ℕ). y + q * place_of q n (x / q)) (low n x)

-- The laws of `lowest_of`, over the base: how it steps, how large it gets, and its value at a level.
use mathlib.Core.Path.{◌≡◌, refl, sym, ap, ◌∙◌}
use mathlib.Core.Logic.{by_cases}
use Prim.Native.Nat.{ℕ, zero, suc, ◌+◌, ◌-◌, ◌*◌, ◌/◌, ◌%◌, ◌^◌, ◌≤◌, ◌<◌}
use native.Mathlib.Nat.{add-sub_cancel, mul-suc, zero-add, mul-zero, one-mul, pow-zero, pow-suc, div-lt_self, div-add-mod, div-add-mod', mul-le-mul_right, mul-mod_right, mul-div_right, mul-add-mod_self_left, mod-eq_of_lt, div-lt_iff_lt-mul, one-le-pow, mul-le-mul_left}
use native.Mathlib.Decide.{ℕ_discrete}
use native.Mathlib.Omega.{arith}
use Rattle.positions.specs.Positions.{lowest_in, lowest_of}

module _ (q : ℕ) (two : 1 < q) where
  in_zero : (k p : ℕ) → p % q ≡ 0 → lowest_in q (suc k) p ≡ suc (lowest_in q k (p / q))
  unfolding lowest_in
  in_zero k p e = rw (e, lowest_in)

  in_other : (k p : ℕ) → (p % q ≡ 0 → ⊥) → lowest_in q (suc k) p ≡ 0
  unfolding lowest_in
  in_other k p f = go (p % q) refl
    where
      go : (d : ℕ) → p % q ≡ d → lowest_in q (suc k) p ≡ 0
      go zero e = absurd (f e)
      go (suc d) e = rw (e, lowest_in)

  -- a whole part of a number above 0 that q divides
  part : (p : ℕ) → 0 < p → p % q ≡ 0 → 0 < p / q
  part p h e = go (p / q) refl
    where
      go : (d : ℕ) → p / q ≡ d → 0 < p / q
      go zero z = let w : q * (p / q) ≡ 0 = rw z (mul-zero q) in absurd (omega (arith, div-add-mod p q))
      go (suc d) z = omega arith

  -- more fuel than p changes nothing
  enough : (k j p : ℕ) → 0 < p → p ≤ k → p ≤ j → lowest_in q k p ≡ lowest_in q j p
  enough zero j p h hk hj = absurd (omega arith)
  enough (suc k) zero p h hk hj = absurd (omega arith)
  enough (suc k) (suc j) p h hk hj =
      by_cases (ℕ_discrete (p % q) 0)
      (λ e. let l = div-lt_self h two in
      in_zero k p e ∙ ap suc (enough k j (p / q) (part p h e) (omega arith) (omega arith)) ∙ sym (in_zero j p e))
      (λ f. in_other k p f ∙ sym (in_other j p f))

  pub of_zero : (p : ℕ) → 0 < p → p % q ≡ 0 → lowest_of q p ≡ suc (lowest_of q (p / q))
  unfolding lowest_of
  of_zero zero h e = absurd (omega arith)
  of_zero (suc p) h e =
      let l = div-lt_self h two in
      in_zero p (suc p) e ∙ ap suc (enough p (suc p / q) (suc p / q) (part (suc p) h e) (omega arith) (omega arith))

  pub of_other : (p : ℕ) → (p % q ≡ 0 → ⊥) → lowest_of q p ≡ 0
  unfolding lowest_of lowest_in
  of_other zero f = refl
  of_other (suc p) f = in_other p (suc p) f

  -- a number of k digits has its lowest below k
  pub of_lt : (k p : ℕ) → 0 < p → p < q ^ k → lowest_of q p < k
  of_lt zero p h l = absurd (omega (arith, pow-zero q))
  of_lt (suc k) p h l =
      by_cases (ℕ_discrete (p % q) 0)
      (λ e.
      let s : p < q ^ k * q = rw pow-suc at l in
      let z : 0 < q = omega arith in
      omega (arith, of_zero p h e, of_lt k (p / q) (part p h e) ((div-lt_iff_lt-mul z).1 s)))
      (λ f. omega (arith, of_other p f))

  -- a product by q ^ l has its lowest l higher
  pub of_times : (l x : ℕ) → 0 < x → lowest_of q (q ^ l * x) ≡ l + lowest_of q x
  of_times zero x h = ap (lowest_of q) (one x) ∙ sym (zero-add (lowest_of q x))
    where
      one : (x : ℕ) → q ^ zero * x ≡ x
      one x = rw (pow-zero q) (one-mul x)
  of_times (suc l) x h =
      let z : 0 < q = omega arith in
      let w : q ^ suc l * x ≡ q * (q ^ l * x) = rw pow-suc (omega arith) in
      let m : 0 < q ^ l * x = omega (arith, mul-le-mul_left (q ^ l) h, one-le-pow l q z) in
      let n : 0 < q * (q ^ l * x) = omega (arith, mul-le-mul_left q m) in
      ap (lowest_of q) w ∙ of_zero (q * (q ^ l * x)) n (mul-mod_right q (q ^ l * x))
      ∙ ap (λ (y : ℕ). suc (lowest_of q y)) (mul-div_right (q ^ l * x) z) ∙ ap suc (of_times l x h) ∙ omega arith

  -- a digit that is not 0 at level l is the lowest
  pub of_level : (l k d : ℕ) → suc d < q → lowest_of q (q ^ l * (q * k + suc d)) ≡ l
  of_level l k d h =
      let e : (q * k + suc d) % q ≡ suc d = mul-add-mod_self_left q k (suc d) ∙ mod-eq_of_lt h in
      of_times l (q * k + suc d) (omega arith) ∙ ap (λ (y : ℕ). l + y) (of_other (q * k + suc d) (λ z. omega arith)) ∙ omega arith

  -- q to the lowest position is not above the number
  le_in : (k p : ℕ) → p ≤ k → 0 < p → q ^ lowest_of q p ≤ p
  le_in zero p l h = absurd (omega arith)
  le_in (suc k) p l h =
      by_cases (ℕ_discrete (p % q) 0)
      (λ e.
      let d = div-lt_self h two in
      let i : q ^ lowest_of q (p / q) ≤ p / q = le_in k (p / q) (omega arith) (part p h e) in
      rw (of_zero p h e, pow-suc) (omega (arith, mul-le-mul_right q i, div-add-mod' p q)))
      (λ f. rw (of_other p f, pow-zero) h)

  pub of_le : (p : ℕ) → 0 < p → q ^ lowest_of q p ≤ p
  of_le p h = le_in p p (omega arith) h

  -- the second position, from what is left of the number
  pub of_second : (l x : ℕ) → 1 < x → lowest_of q (q ^ l * x - q ^ l) ≡ l + lowest_of q (x - 1)
  of_second l x h = ap (lowest_of q) (less (q ^ l) x h) ∙ of_times l (x - 1) (omega arith)
    where
      less : (w x : ℕ) → 1 < x → w * x - w ≡ w * (x - 1)
      less w zero h = absurd (omega arith)
      less w (suc x) h = ap (λ (n : ℕ). n - w) (mul-suc w x) ∙ (add-sub_cancel (w * x) w ∙ ap (λ (n : ℕ). w * n) (one x))
        where
          one : (x : ℕ) → x ≡ suc x - 1
          one x = omega arith

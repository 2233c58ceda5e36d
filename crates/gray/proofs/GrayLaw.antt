-- From one place to the next the point changes in one digit; and how it changes between two moves of an unknown.
use mathlib.Core.Path.{◌≡◌, sym, ap, ◌∙◌}
use mathlib.Core.Logic.{by_cases, ◌⊎◌, inl, inr, ⊎_elim}
use Prim.Native.Nat.{ℕ, zero, suc, ◌+◌, ◌-◌, ◌*◌, ◌/◌, ◌%◌, ◌^◌, ◌<◌}
use native.Mathlib.Nat.{add-zero, zero-add, mul-add-div, mul-add-mod_self_left, mod-eq_of_lt, div-eq_of_lt, mod-lt, div-add-mod, div-one, div-div-eq-div-mul, pow-suc, pow-zero, mul_comm, mul-suc, suc-add}
use native.Mathlib.Decide.{dec_lt}
use native.Mathlib.Numerals.{add-one}
use native.Mathlib.Omega.{arith}
use Rattle.positions.specs.Positions.{lowest_of, before}
use Rattle.positions.proofs.LowestLaw.{of_zero, of_other}
use Rattle.residues.specs.Sums.{same}
use Rattle.gray.specs.Numbers.{digit, point_digit}
use Rattle.residues.proofs.ModLaw.{Cong, crefl, cof, csym, ◌⨾◌, cdrop, cadd, cwhole, cancel, cless, csmall}

module _ (q : ℕ) (two : 1 < q) where
  pos : 0 < q
  pos = omega arith

  pub div_of : (k r : ℕ) → r < q → (q * k + r) / q ≡ k
  div_of k r h = mul-add-div pos k r ∙ ap (λ (x : ℕ). k + x) (div-eq_of_lt h) ∙ add-zero k

  pub mod_of : (k r : ℕ) → r < q → (q * k + r) % q ≡ r
  mod_of k r h = mul-add-mod_self_left q k r ∙ mod-eq_of_lt h

  -- one more: the lowest digit grows, or there is a carry
  pub record Stays (p : ℕ) : Type 0 where
    pub part : suc p / q ≡ p / q
    pub low : suc p % q ≡ suc (p % q)

  pub record Carries (p : ℕ) : Type 0 where
    pub part : suc p / q ≡ suc (p / q)
    pub low : suc p % q ≡ 0
    pub top : suc (p % q) ≡ q

  pub carry : (p : ℕ) → Stays p ⊎ Carries p
  carry p =
      by_cases (dec_lt (suc (p % q)) q)
      (λ l. let e : suc p ≡ q * (p / q) + suc (p % q) = omega (arith, div-add-mod p q) in
      inl record { part = ap (λ (x : ℕ). x / q) e ∙ div_of (p / q) (suc (p % q)) l; low = ap (λ (x : ℕ). x % q) e ∙ mod_of (p / q) (suc (p % q)) l })
      (λ g. let t : suc (p % q) ≡ q = omega (arith, mod-lt p pos) in
      let e : suc p ≡ q * suc (p / q) + 0 = mul p t in
      inr record { part = ap (λ (x : ℕ). x / q) e ∙ div_of (suc (p / q)) 0 pos; low = ap (λ (x : ℕ). x % q) e ∙ mod_of (suc (p / q)) 0 pos; top = t })
    where
      mul : (p : ℕ) → suc (p % q) ≡ q → suc p ≡ q * suc (p / q) + 0
      mul p t = omega (arith, div-add-mod p q, mul-suc q (p / q))

  -- of two numbers in a row q divides one at most
  pub odd : (y : ℕ) → suc y % q ≡ 0 → y % q ≡ 0 → ⊥
  odd y e z = ⊎_elim (λ (s : Stays y). omega (arith, s.low)) (λ (s : Carries y). omega (arith, s.top)) (carry y)

  -- the lowest digit of a point, and the others
  pub point_low : (p : ℕ) → Cong q (point_digit q p 0 + p / q) p
  unfolding point_digit digit
  point_low p =
      cadd (crefl _) (csym (cdrop (p / q)))
      ⨾ cof (ap (λ (x : ℕ). (p / q ^ 0 % q + q - x) % q + p / q % q) (one p))
      ⨾ cless (p / q ^ 0 % q) (p / q % q) (omega (arith, mod-lt (p / q) pos))
      ⨾ cdrop (p / q ^ 0) ⨾ cof (ap (λ (x : ℕ). p / x) (pow-zero q) ∙ div-one p)
    where
      one : (p : ℕ) → p / q ^ (0 + 1) % q ≡ p / q % q
      one p = ap (λ (x : ℕ). p / x % q) (pow-suc q 0 ∙ ap (λ (x : ℕ). x * q) (pow-zero q) ∙ omega arith)

  digit_next : (p k : ℕ) → digit q p (suc k) ≡ digit q (p / q) k
  unfolding digit
  digit_next p k = ap (λ (n : ℕ). p / n % q) (pow-suc q k ∙ mul_comm (q ^ k) q) ∙ ap (λ (n : ℕ). n % q) (sym (div-div-eq-div-mul p q (q ^ k)))

  pub point_next : (p k : ℕ) → point_digit q p (suc k) ≡ point_digit q (p / q) k
  unfolding point_digit
  point_next p k = simp (add-one, digit_next)

  -- the point of the next place has one more at its first position
  pub gray_step : (k p : ℕ) → Cong q (point_digit q (suc p) k) (point_digit q p k + same k (lowest_of q (suc p)))
  unfolding same
  gray_step zero p =
      ⊎_elim
      (λ (s : Stays p).
      let o : lowest_of q (suc p) ≡ 0 = of_other q two (suc p) (λ z. omega (arith, s.low)) in
      rw o (cancel pos (p / q) (cof (ap (λ (x : ℕ). point_digit q (suc p) 0 + x) (sym s.part)) ⨾ point_low (suc p)
      ⨾ cof (more p) ⨾ cadd (csym (point_low p)) (crefl 1) ⨾ cof (swap (point_digit q p 0) (p / q)))))
      (λ (s : Carries p).
      let h : 0 < suc p = omega arith in
      let o = of_zero q two (suc p) h s.low in
      rw o (cancel pos (suc (p / q)) (cof (ap (λ (x : ℕ). point_digit q (suc p) 0 + x) (sym s.part)) ⨾ point_low (suc p)
      ⨾ cof (more p) ⨾ cadd (csym (point_low p)) (crefl 1) ⨾ cof (swap0 (point_digit q p 0) (p / q)))))
      (carry p)
    where
      more : (p : ℕ) → suc p ≡ p + 1
      more p = omega arith

      swap : (a b : ℕ) → a + b + 1 ≡ a + 1 + b
      swap a b = omega arith

      swap0 : (a b : ℕ) → a + b + 1 ≡ a + 0 + suc b
      swap0 a b = omega arith
  gray_step (suc k) p =
      ⊎_elim
      (λ (s : Stays p).
      let o : lowest_of q (suc p) ≡ 0 = of_other q two (suc p) (λ z. omega (arith, s.low)) in
      rw (o, point_next (suc p) k, point_next p k, s.part) (cof (sym (add-zero _))))
      (λ (s : Carries p).
      let h : 0 < suc p = omega arith in
      let o = of_zero q two (suc p) h s.low in
      rw (o, point_next (suc p) k, point_next p k, s.part) (gray_step k (p / q)))
      (carry p)

  pub before_part : (b y : ℕ) → before q (suc b) y / q ≡ before q b y
  unfolding before
  before_part b y = div_of (before q b y) (q - 1) (omega arith)

  pub before_low : (b y : ℕ) → Cong q (before q (suc b) y) (q - 1)
  unfolding before
  before_low b y = cof (turn (q * before q b y) (q - 1)) ⨾ cwhole (q - 1) (before q b y)
    where
      turn : (a b : ℕ) → a + b ≡ b + a
      turn a b = omega arith

  -- the place before a move of b is all digits q - 1 below b
  mid : (b y z e : ℕ) → Cong q y (z + e) → Cong q (before q b y) (before q b z + e * same 0 b)
  unfolding before same
  mid zero y z e h = h ⨾ cof (omega arith)
  mid (suc b) y z e h = before_low b y ⨾ csym (before_low b z) ⨾ cof (omega arith)

  pub low_is : (b y : ℕ) → Cong q (point_digit q (before q (suc b) y) 0 + before q b y) (q - 1)
  low_is b y = cof (ap (λ (x : ℕ). point_digit q (before q (suc b) y) 0 + x) (sym (before_part b y))) ⨾ point_low (before q (suc b) y) ⨾ before_low b y

  -- if y has e more than z in its lowest digit, and its point d more at 0 and a more at c, then so far apart are the points before the moves of b with y and z
  pub gap : (y z e d a c : ℕ) → Cong q y (z + e) → ((k : ℕ) → Cong q (point_digit q y k) (point_digit q z k + d * same k 0 + a * same k c))
      → (b k : ℕ) → Cong q (point_digit q (before q b y) k + e * same (suc k) b) (point_digit q (before q b z) k + d * same k b + a * same k (b + c))
  unfolding same before
  gap y z e d a c h f zero k = cof (none (point_digit q y k) e) ⨾ f k ⨾ cof (ap (λ (x : ℕ). point_digit q z k + d * same k 0 + a * same k x) (sym (zero-add c)))
    where
      none : (x e : ℕ) → x + e * 0 ≡ x
      none x e = omega arith
  gap y z e d a c h f (suc b) zero =
      cancel pos (before q b z)
      (cof (swap (point_digit q (before q (suc b) y) 0) (e * same 0 b) (before q b z)) ⨾ cadd (crefl _) (csym (mid b y z e h))
      ⨾ low_is b y ⨾ csym (low_is b z) ⨾ cof (ap (λ (x : ℕ). x + before q b z) (none (point_digit q (before q (suc b) z) 0)
      ∙ ap (λ (x : ℕ). point_digit q (before q (suc b) z) 0 + d * 0 + a * same 0 x) (sym (suc-add b c)))))
    where
      swap : (a b c : ℕ) → a + b + c ≡ a + (c + b)
      swap a b c = omega arith

      none : (x : ℕ) → x ≡ x + d * 0 + a * 0
      none x = omega arith
  gap y z e d a c h f (suc b) (suc k) =
      rw (point_next (before q (suc b) y) k, point_next (before q (suc b) z) k, before_part b y, before_part b z, suc-add b c) (gap y z e d a c h f b k)

  -- numbers below a multiple of q, less than q away, have no 0 as lowest digit
  off_zero : (d z : ℕ) → d < q → suc (d + z) % q ≡ 0 → (i : ℕ) → i < d → suc (i + z) % q ≡ 0 → ⊥
  off_zero d z l e i h s =
      let u : Cong q (suc (i + z)) 0 = record { same = s ∙ sym (mod-eq_of_lt pos) } in
      let v : Cong q (suc (d + z)) 0 = record { same = e ∙ sym (mod-eq_of_lt pos) } in
      let w : d - i ≡ 0 = csmall (omega arith) pos (cof (sym (add-zero (d - i))) ⨾ cadd (crefl (d - i)) (csym u) ⨾ cof (back d i z h) ⨾ v) in
      omega arith
    where
      back : (d i z : ℕ) → i < d → d - i + suc (i + z) ≡ suc (d + z)
      back d i z h = omega arith

  climb_in : (d z : ℕ) → ((i : ℕ) → i < d → suc (i + z) % q ≡ 0 → ⊥) → (k : ℕ) → Cong q (point_digit q (d + z) k) (point_digit q z k + d * same k 0)
  climb_in zero z f k = cof (ap (λ (x : ℕ). point_digit q x k) (zero-add z) ∙ none _ _)
    where
      none : (a b : ℕ) → a ≡ a + 0 * b
      none a b = omega arith
  climb_in (suc d) z f k =
      cof (ap (λ (x : ℕ). point_digit q x k) (suc-add d z)) ⨾ gray_step k (d + z)
      ⨾ cadd (climb_in d z (λ i h. f i (omega arith)) k) (cof (ap (same k) (of_other q two (suc (d + z)) (f d (omega arith))))) ⨾ cof (more (point_digit q z k) (same k 0) d)
    where
      more : (a s d : ℕ) → a + d * s + s ≡ a + suc d * s
      more a s d = omega arith

  climb : (d z : ℕ) → d < q → suc (d + z) % q ≡ 0 → (k : ℕ) → Cong q (point_digit q (d + z) k) (point_digit q z k + d * same k 0)
  climb d z l e k = climb_in d z (off_zero d z l e) k

  -- the move of b with y, where the lowest digit of y is not 0: the move before has y - 1
  pub near : (y : ℕ) → (suc y % q ≡ 0 → ⊥) → (b k : ℕ)
      → Cong q (point_digit q (before q b (suc y)) k + same (suc k) b) (point_digit q (before q b y) k + same k b)
  near y n b k =
      cof (one _ _) ⨾ gap (suc y) y 1 1 0 0 (cof (sym (add-one y))) (λ k. gray_step k y ⨾ cof (rw (of_other q two (suc y) n) (none _ _ _))) b k ⨾ cof (sym (none _ _ _))
    where
      one : (a b : ℕ) → a + b ≡ a + 1 * b
      one a b = omega arith

      none : (a b c : ℕ) → a + b ≡ a + 1 * b + 0 * c
      none a b c = omega arith

  -- d moves at 0 and one at c: where the lowest digit of y is 0, and d numbers before it stand between y and z (for d = 1 the move before that with y has z)
  pub run : (d z : ℕ) → d < q → suc (d + z) % q ≡ 0 → (k : ℕ) → Cong q (point_digit q (suc (d + z)) k) (point_digit q z k + d * same k 0 + same k (lowest_of q (suc (d + z))))
  run d z l e k = gray_step k (d + z) ⨾ cadd (climb d z l e k) (crefl _)

  pub apart : (d z : ℕ) → d < q → suc (d + z) % q ≡ 0 → (b k : ℕ)
      → Cong q (point_digit q (before q b (suc (d + z))) k + suc d * same (suc k) b) (point_digit q (before q b z) k + d * same k b + same k (b + lowest_of q (suc (d + z))))
  apart d z l e b k =
      gap (suc (d + z)) z (suc d) d 1 (lowest_of q (suc (d + z))) (cof (more d z)) (λ k. run d z l e k ⨾ cadd (crefl _) (cof (one _))) b k ⨾ cadd (crefl _) (cof (sym (one _)))
    where
      more : (d z : ℕ) → suc (d + z) ≡ z + suc d
      more d z = omega arith

      one : (b : ℕ) → b ≡ 1 * b
      one b = omega arith

  -- where it is 0: the move before has y - 2
  pub far : (y : ℕ) → suc (suc y) % q ≡ 0 → (b k : ℕ)
      → Cong q (point_digit q (before q b (suc (suc y))) k + 2 * same (suc k) b) (point_digit q (before q b y) k + same k b + same k (b + lowest_of q (suc (suc y))))
  far y z b k = rw (← one_more y) (apart 1 y two (rw (one_more y) z) b k ⨾ cof (ap (λ (x : ℕ). point_digit q (before q b y) k + x + same k (b + lowest_of q (suc (1 + y)))) (once (same k b))))
    where
      one_more : (y : ℕ) → 1 + y ≡ suc y
      one_more y = omega arith

      once : (x : ℕ) → 1 * x ≡ x
      once x = omega arith

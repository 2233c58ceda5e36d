-- Digits and numbers undo each other, over the base: by taking the lowest digit off.
use mathlib.Core.Path.{◌≡◌, refl, sym, ap, ap₂, ◌∙◌}
use Prim.Native.Nat.{ℕ, zero, suc, ◌+◌, ◌*◌, ◌/◌, ◌%◌, ◌^◌, ◌<◌, ◌≤◌}
use native.Mathlib.Nat.{pow-suc, pow-zero, div-one, mul_comm, mod-lt, mod-eq_of_lt, div-eq_of_lt, div-add-mod, div-div-eq-div-mul, div-lt_iff_lt-mul, mul-le-mul_left, pow-le-pow_right}
use native.Mathlib.Omega.{arith}
use Rattle.gray.specs.Numbers.{digit, number}
use Rattle.gray.proofs.GrayLaw.{div_of, mod_of}

-- numbers with the same digits are the same
pub number_ext : (q n : ℕ) (f g : ℕ → ℕ) → ((k : ℕ) → k < n → f k ≡ g k) → number q n f ≡ number q n g
unfolding number
number_ext q zero f g h = refl
number_ext q (suc n) f g h =
    ap₂ (λ (x y : ℕ). x + q * y) (h 0 (omega arith)) (number_ext q n (λ k. f (suc k)) (λ k. g (suc k)) (λ k l. h (suc k) (omega arith)))

module _ (q : ℕ) (two : 1 < q) where
  pos : 0 < q
  pos = omega arith

  pub digit_lt : (x k : ℕ) → digit q x k < q
  unfolding digit
  digit_lt x k = mod-lt (x / q ^ k) pos

  pub digit_low : (x : ℕ) → digit q x 0 ≡ x % q
  unfolding digit
  digit_low x = ap (λ (y : ℕ). x / y % q) (pow-zero q) ∙ ap (λ (y : ℕ). y % q) (div-one x)

  pub digit_next : (x k : ℕ) → digit q x (suc k) ≡ digit q (x / q) k
  unfolding digit
  digit_next x k = ap (λ (n : ℕ). x / n % q) (pow-suc q k ∙ mul_comm (q ^ k) q) ∙ ap (λ (n : ℕ). n % q) (sym (div-div-eq-div-mul x q (q ^ k)))

  -- a number below q ^ n has no digit from n upward
  pub digit_above : (n x k : ℕ) → x < q ^ n → n ≤ k → digit q x k ≡ 0
  unfolding digit
  digit_above n x k l h =
      let w : q ^ n ≤ q ^ k = pow-le-pow_right {n = q} pos {i = n} {j = k} h in
      ap (λ (y : ℕ). y % q) (div-eq_of_lt (omega arith)) ∙ mod-eq_of_lt pos

  -- a third, of one digit less
  pub part_lt : (n x : ℕ) → x < q ^ suc n → x / q < q ^ n
  part_lt n x l = let s : x < q ^ n * q = rw pow-suc at l in (div-lt_iff_lt-mul pos).1 s

  pub number_lt : (n : ℕ) (f : ℕ → ℕ) → ((k : ℕ) → k < n → f k < q) → number q n f < q ^ n
  unfolding number
  number_lt zero f h = omega (arith, pow-zero q)
  number_lt (suc n) f h =
      let i : suc (number q n (λ k. f (suc k))) ≤ q ^ n = number_lt n (λ k. f (suc k)) (λ k l. h (suc k) (omega arith)) in
      let m : q * suc (number q n (λ k. f (suc k))) ≤ q * q ^ n = mul-le-mul_left q i in
      rw pow-suc (more (f 0) (number q n (λ k. f (suc k))) (q ^ n) (h 0 (omega arith)) m)
    where
      more : (a b w : ℕ) → a < q → q * suc b ≤ q * w → a + q * b < w * q
      more a b w h m = omega (arith, h, m)

  pub digit_number : (n : ℕ) (f : ℕ → ℕ) → ((k : ℕ) → k < n → f k < q) → (k : ℕ) → k < n → digit q (number q n f) k ≡ f k
  unfolding number
  digit_number zero f h k l = absurd (omega arith)
  digit_number (suc n) f h zero l =
      digit_low _ ∙ (ap (λ (x : ℕ). x % q) (swap (f 0) (q * number q n (λ k. f (suc k)))) ∙ mod_of q two (number q n (λ k. f (suc k))) (f 0) (h 0 (omega arith)))
    where
      swap : (a b : ℕ) → a + b ≡ b + a
      swap a b = omega arith
  digit_number (suc n) f h (suc k) l =
      digit_next _ k
      ∙ (ap (λ (x : ℕ). digit q (x / q) k) (swap (f 0) (q * number q n (λ k. f (suc k)))) ∙ ap (λ (x : ℕ). digit q x k) (div_of q two (number q n (λ k. f (suc k))) (f 0) (h 0 (omega arith))))
      ∙ digit_number n (λ k. f (suc k)) (λ j m. h (suc j) (omega arith)) k (omega arith)
    where
      swap : (a b : ℕ) → a + b ≡ b + a
      swap a b = omega arith

  pub number_digit : (n x : ℕ) → x < q ^ n → number q n (digit q x) ≡ x
  unfolding number
  number_digit zero x l = omega (arith, pow-zero q)
  number_digit (suc n) x l =
      ap₂ (λ (a b : ℕ). a + q * b) (digit_low x)
      (number_ext q n (λ k. digit q x (suc k)) (digit q (x / q)) (λ k h. digit_next x k) ∙ number_digit n (x / q) (part_lt n x l))
      ∙ (swap (x % q) (q * (x / q)) ∙ div-add-mod x q)
    where
      swap : (a b : ℕ) → a + b ≡ b + a
      swap a b = omega arith

  -- numbers of n digits that agree in each digit
  pub digits_same : (n x y : ℕ) → x < q ^ n → y < q ^ n → ((k : ℕ) → k < n → digit q x k ≡ digit q y k) → x ≡ y
  digits_same n x y l m h = sym (number_digit n x l) ∙ number_ext q n (digit q x) (digit q y) h ∙ number_digit n y m

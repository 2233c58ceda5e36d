-- Balanced numbers: raised by the upper end a balanced number has each digit of its point one larger, so the two ways undo each other.
use mathlib.Core.Path.{◌≡◌, refl, sym, ap, ap₂, ◌∙◌}
use mathlib.Core.Bool.{false}
use mathlib.Core.Logic.{by_cases}
use Prim.Native.Nat.{ℕ, zero, suc, ◌+◌, ◌-◌, ◌*◌, ◌/◌, ◌%◌, ◌^◌, ◌<◌, ◌≤◌}
use native.Mathlib.Nat.{mod-lt, pow-zero, pow-suc}
use native.Mathlib.Decide.{dec_lt}
use native.Mathlib.Omega.{arith}
use lib.IntN.{ℤ, pos, negsuc, neg_ℤ, nat_abs, ◌+ℤ◌, ◌-ℤ◌, ◌*ℤ◌, +ℤ_assoc, +ℤ_comm, +ℤ_idl, +ℤ-neg_ℤ_cancel, suc_ℤ-*ℤ, zero-*ℤ, pos-ne-negsuc}
use lib.Signed.{lt_z}
use borrow.Author.Tests.{le-ltb}
use Rattle.gray.specs.Numbers.{digit}
use Rattle.balanced.specs.Balanced.{signed_digit, balanced_of, half_of, turned, unbalanced_of}
use Rattle.gray.proofs.DigitLaw.{digit_lt, digit_number, digits_same}
use Rattle.balanced.proofs.TurnLaw.{turned_next, turned_lt, turned_none}
use Rattle.balanced.proofs.SignLaw.{raised, sub_lt}

pub half_is : (n w : ℕ) → w ≡ 3 ^ n → (w - 1) / 2 ≡ half_of n
unfolding half_of
half_is n w e = ap (λ (x : ℕ). (x - 1) / 2) e

-- the upper end by recursion: a digit 1 more
unfoldable halves : ℕ → ℕ
halves zero = 0
halves (suc n) = 1 + 3 * halves n

power_halves : (n : ℕ) → 3 ^ n ≡ 2 * halves n + 1
unfolding halves
power_halves zero = pow-zero 3
power_halves (suc n) = omega (arith, power_halves n, pow-suc 3 n)

half_halves : (n : ℕ) → half_of n ≡ halves n
unfolding half_of
half_halves n = ap (λ (w : ℕ). (w - 1) / 2) (power_halves n) ∙ less (halves n)
  where
    less : (k : ℕ) → (2 * k + 1 - 1) / 2 ≡ k
    less k = omega arith

pub half_power : (n : ℕ) → 3 ^ n ≡ half_of n + half_of n + 1
half_power n = omega (arith, power_halves n, half_halves n)

pub half_next : (n : ℕ) → half_of (suc n) ≡ 1 + 3 * half_of n
unfolding halves
half_next n = half_halves (suc n) ∙ ap (λ (k : ℕ). 1 + 3 * k) (sym (half_halves n))

-- a digit read balanced, raised by one
digit_raised : (d : ℕ) → d < 3 → signed_digit d +ℤ pos 1 ≡ pos ((d + 1) % 3)
unfolding signed_digit
digit_raised zero h = refl
digit_raised (suc zero) h = refl
digit_raised (suc (suc zero)) h = refl
digit_raised (suc (suc (suc d))) h = absurd (omega arith)

-- sums of integers, in another order
swap4 : (a b c d : ℤ) → (a +ℤ b) +ℤ (c +ℤ d) ≡ (a +ℤ c) +ℤ (b +ℤ d)
swap4 a b c d =
    +ℤ_assoc a b (c +ℤ d) ∙ ap (λ (z : ℤ). a +ℤ z) (sym (+ℤ_assoc b c d) ∙ ap (λ (z : ℤ). z +ℤ d) (+ℤ_comm b c) ∙ +ℤ_assoc c b d) ∙ sym (+ℤ_assoc a c (b +ℤ d))

three : (k : ℤ) → pos 3 *ℤ k ≡ k +ℤ k +ℤ k
three k =
    suc_ℤ-*ℤ (pos 2) k
    ∙ ap (λ (z : ℤ). z +ℤ k) (suc_ℤ-*ℤ (pos 1) k ∙ ap (λ (z : ℤ). z +ℤ k) (suc_ℤ-*ℤ (pos 0) k ∙ ap (λ (z : ℤ). z +ℤ k) (zero-*ℤ k) ∙ +ℤ_idl k))

three_add : (a b : ℤ) → pos 3 *ℤ a +ℤ pos 3 *ℤ b ≡ pos 3 *ℤ (a +ℤ b)
three_add a b =
    ap₂ ◌+ℤ◌ (three a) (three b) ∙ swap4 (a +ℤ a) a (b +ℤ b) b ∙ ap (λ (z : ℤ). z +ℤ (a +ℤ b)) (swap4 a a b b) ∙ sym (three (a +ℤ b))

halves_none : halves 0 ≡ 0
unfolding halves
halves_none = refl

-- a balanced number, raised by the upper end
pub balanced_raised : (n x : ℕ) → balanced_of n x +ℤ pos (half_of n) ≡ pos (turned 1 n x)
unfolding balanced_of
balanced_raised zero x = ap (λ (h : ℕ). pos 0 +ℤ pos h) (half_halves 0 ∙ halves_none) ∙ ap pos (sym (turned_none 1 x))
balanced_raised (suc n) x =
    let d = x % 3 in
    ap (λ (h : ℕ). (signed_digit (x % 3) +ℤ pos 3 *ℤ balanced_of n (x / 3)) +ℤ pos h) (half_next n)
    ∙ swap4 (signed_digit (x % 3)) (pos 3 *ℤ balanced_of n (x / 3)) (pos 1) (pos 3 *ℤ pos (half_of n))
    ∙ ap₂ ◌+ℤ◌ (digit_raised (x % 3) (mod-lt x (omega arith))) (three_add (balanced_of n (x / 3)) (pos (half_of n)) ∙ ap (λ (z : ℤ). pos 3 *ℤ z) (balanced_raised n (x / 3)))
    ∙ ap pos (sym (turned_next 1 n x))

pub balanced_is : (n x : ℕ) → balanced_of n x ≡ pos (turned 1 n x) -ℤ pos (half_of n)
balanced_is n x = sym (+ℤ-neg_ℤ_cancel (balanced_of n x) (pos (half_of n))) ∙ ap (λ (z : ℤ). z -ℤ pos (half_of n)) (balanced_raised n x)

-- a digit turned by one and by two is itself
turned_digit : (a n x k : ℕ) → k < n → digit 3 (turned a n x) k ≡ (digit 3 x k + a) % 3
unfolding turned
turned_digit a n x k l = digit_number 3 (omega arith) n (λ k. (digit 3 x k + a) % 3) (λ k l. mod-lt (digit 3 x k + a) (omega arith)) k l

turned_back : (a b n x : ℕ) → ((d : ℕ) → d < 3 → ((d + a) % 3 + b) % 3 ≡ d) → x < 3 ^ n → turned b n (turned a n x) ≡ x
turned_back a b n x f l =
    digits_same 3 (omega arith) n (turned b n (turned a n x)) x (turned_lt b n (turned a n x)) l
    (λ k h. turned_digit b n (turned a n x) k h ∙ ap (λ (d : ℕ). (d + b) % 3) (turned_digit a n x k h) ∙ f (digit 3 x k) (digit_lt 3 (omega arith) x k))

pub turned_one_two : (n x : ℕ) → x < 3 ^ n → turned 2 n (turned 1 n x) ≡ x
turned_one_two n x l = turned_back 1 2 n x (λ d h. omega arith) l

pub turned_two_one : (n x : ℕ) → x < 3 ^ n → turned 1 n (turned 2 n x) ≡ x
turned_two_one n x l = turned_back 2 1 n x (λ d h. omega arith) l

-- the two ways undo each other
pub point_of_balanced : (n x : ℕ) → x < 3 ^ n → unbalanced_of n (balanced_of n x) ≡ x
unfolding unbalanced_of
point_of_balanced n x l = ap (λ (z : ℤ). turned 2 n (nat_abs z)) (balanced_raised n x) ∙ turned_one_two n x l

pub balanced_of_point : (n : ℕ) (y : ℤ) → lt_z y (neg_ℤ (pos (half_of n))) ≡ false → lt_z (pos (half_of n)) y ≡ false → balanced_of n (unbalanced_of n y) ≡ y
unfolding unbalanced_of
balanced_of_point n y a b =
    let r = raised y (half_of n) a b in
    let m : r.number < 3 ^ n = omega (arith, r.most, half_power n) in
    ap (λ (z : ℤ). balanced_of n (turned 2 n (nat_abs z))) r.is ∙ balanced_is n (turned 2 n r.number)
    ∙ ap (λ (t : ℕ). pos t -ℤ pos (half_of n)) (turned_two_one n r.number m) ∙ ap (λ (z : ℤ). z -ℤ pos (half_of n)) (sym r.is) ∙ +ℤ-neg_ℤ_cancel y (pos (half_of n))

-- the point of a balanced number is one of n unknowns, and a balanced number lies within the ends
pub unbalanced_lt : (n : ℕ) (y : ℤ) → unbalanced_of n y < 3 ^ n
unfolding unbalanced_of
unbalanced_lt n y = turned_lt 2 n (nat_abs (y +ℤ pos (half_of n)))

pub record Within (y : ℤ) (h : ℕ) : Type 0 where
  pub low : lt_z y (neg_ℤ (pos h)) ≡ false
  pub high : lt_z (pos h) y ≡ false

within : (y : ℤ) (h t : ℕ) → y +ℤ pos h ≡ pos t → t ≤ h + h → Within y h
within (pos a) zero t e l = let k : a + 0 ≡ t = ap nat_abs e in record { low = le-ltb a 0 (omega arith); high = le-ltb 0 a (omega arith) }
within (pos a) (suc h) t e l = let k : a + suc h ≡ t = ap nat_abs e in record { low = refl; high = le-ltb (suc h) a (omega arith) }
within (negsuc a) h t e l = by_cases (dec_lt h (suc a)) (λ m. absurd (pos-ne-negsuc t (suc a - suc h) (sym e ∙ sub_lt h (suc a) m))) (λ g. go h (omega arith))
  where
    go : (h : ℕ) → suc a ≤ h → Within (negsuc a) h
    go zero m = absurd (omega arith)
    go (suc g) m = record { low = le-ltb g a (omega arith); high = refl }

pub balanced_within : (n x : ℕ) → Within (balanced_of n x) (half_of n)
balanced_within n x =
    let t : turned 1 n x ≤ half_of n + half_of n = omega (arith, turned_lt 1 n x, half_power n) in
    within (balanced_of n x) (half_of n) (turned 1 n x) (balanced_raised n x) t

-- One turn of the loop over digits: the number so far from that of one digit less.
use mathlib.Core.Path.{◌≡◌, refl, sym, ap, ap₂, ◌∙◌}
use Prim.Native.Nat.{ℕ, suc, ◌+◌, ◌*◌, ◌/◌, ◌%◌, ◌^◌, ◌<◌, ◌≤◌}
use native.Mathlib.Nat.{mod-lt}
use native.Mathlib.Numerals.{add-one}
use native.Mathlib.Omega.{arith}
use Rattle.gray.specs.Numbers.{digit, number}
use Rattle.balanced.specs.Balanced.{turned}
use Rattle.gray.proofs.DigitLaw.{digit_low, digit_next, number_ext, number_lt}
use Rattle.gray.proofs.TurnLaw.{power_small}

two : 1 < 3
two = omega arith

swap : (a b : ℕ) → a + b ≡ b + a
swap a b = omega arith

-- the turned number, from the highest digit down
pub turned_next : (a n x : ℕ) → turned a (suc n) x ≡ (x % 3 + a) % 3 + 3 * turned a n (x / 3)
unfolding turned number
turned_next a n x =
    ap₂ (λ (u v : ℕ). (u + a) % 3 + 3 * v) (digit_low 3 two x)
    (number_ext 3 n (λ k. (digit 3 x (suc k) + a) % 3) (λ k. (digit 3 (x / 3) k + a) % 3) (λ k h. ap (λ (u : ℕ). (u + a) % 3) (digit_next 3 two x k)))

pub turned_turn : (a i y t : ℕ) → t ≡ turned a i (y / 3) → 3 * t + (y % 3 + a) % 3 ≡ turned a (i + 1) y
turned_turn a i y t e =
    swap (3 * t) ((y % 3 + a) % 3) ∙ ap (λ (z : ℕ). (y % 3 + a) % 3 + 3 * z) e ∙ sym (turned_next a i y) ∙ ap (λ (k : ℕ). turned a k y) (sym (add-one i))

pub turned_lt : (a n x : ℕ) → turned a n x < 3 ^ n
unfolding turned
turned_lt a n x = number_lt 3 two n (λ k. (digit 3 x k + a) % 3) (λ k l. mod-lt (digit 3 x k + a) (omega arith))

pub turned_small : (a i y : ℕ) → i ≤ 20 → turned a i y < 3486784401
turned_small a i y h = omega (arith, turned_lt a i y, power_small i h)

pub turned_word : (t a i y : ℕ) → i ≤ 20 → t ≡ turned a i y → t ≤ 4294967296
turned_word t a i y h e = omega (arith, e, turned_small a i y h)

pub turned_none : (a y : ℕ) → turned a 0 y ≡ 0
unfolding turned number
turned_none a y = refl

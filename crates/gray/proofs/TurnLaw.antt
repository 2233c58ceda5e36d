-- One turn of each loop over digits: the weights, and the number so far from that of one digit less.
use mathlib.Core.Path.{◌≡◌, refl, sym, ap, ap₂, ◌∙◌}
use Prim.Native.Nat.{ℕ, suc, ◌+◌, ◌-◌, ◌*◌, ◌/◌, ◌%◌, ◌^◌, ◌<◌, ◌≤◌}
use native.Mathlib.Nat.{div-one, pow-zero, pow-suc, mul-div_left, div-div-eq-div-mul, mod-add-mod, pow-le-pow_right, one-le-pow, mul-le-mul_left}
use native.Mathlib.Numerals.{add-one}
use native.Mathlib.Omega.{arith}
use Rattle.gray.specs.Numbers.{digit, number, point_digit, point_of, place_of}
use Rattle.gray.proofs.DigitLaw.{digit_low, digit_next}
use Rattle.gray.proofs.MapLaw.{place_lt, point_next_is, place_next_is}

two : 1 < 3
two = omega arith

-- weights
pub power_small : (i : ℕ) → i ≤ 20 → 3 ^ i ≤ 3486784401
power_small i h = pow-le-pow_right {n = 3} (omega arith) {i = i} {j = 20} h

pub power_above : (i : ℕ) → 0 < 3 ^ i
power_above i = one-le-pow i 3 (omega arith)

third : (n i : ℕ) → i < n → 3 ^ (n - i) ≡ 3 ^ (n - (i + 1)) * 3
third n i l = let e : n - i ≡ suc (n - (i + 1)) = omega arith in ap (λ (k : ℕ). 3 ^ k) e ∙ pow-suc 3 (n - (i + 1))

pub weight_next : (n i w : ℕ) → i < n → w ≡ 3 ^ (n - i) → w / 3 ≡ 3 ^ (n - (i + 1))
weight_next n i w l e = ap (λ (x : ℕ). x / 3) (e ∙ third n i l) ∙ mul-div_left (3 ^ (n - (i + 1))) (omega arith)

pub part_next : (n i w x : ℕ) → i < n → w ≡ 3 ^ (n - i) → x / (w / 3) / 3 ≡ x / w
part_next n i w x l e =
    ap (λ (y : ℕ). x / y / 3) (weight_next n i w l e) ∙ div-div-eq-div-mul x (3 ^ (n - (i + 1))) 3 ∙ ap (λ (y : ℕ). x / y) (sym (third n i l) ∙ sym e)

pub part_last : (n i w x : ℕ) → n ≤ i → w ≡ 3 ^ (n - i) → x / w ≡ x
part_last n i w x h e = let z : n - i ≡ 0 = omega arith in ap (λ (y : ℕ). x / y) (e ∙ ap (λ (k : ℕ). 3 ^ k) z ∙ pow-zero 3) ∙ div-one x

swap : (a b : ℕ) → a + b ≡ b + a
swap a b = omega arith

-- the place, from the highest digit down
pub place_turn : (i y p : ℕ) → p ≡ place_of 3 i (y / 3) → 3 * p + (y % 3 + p) % 3 ≡ place_of 3 (i + 1) y
place_turn i y p e =
    swap (3 * p) ((y % 3 + p) % 3) ∙ ap (λ (z : ℕ). z + 3 * p) (mod-add-mod y 3 p) ∙ ap (λ (z : ℕ). (y + z) % 3 + 3 * z) e
    ∙ sym (place_next_is 3 two i y) ∙ ap (λ (k : ℕ). place_of 3 k y) (sym (add-one i))

pub place_small : (i y : ℕ) → i ≤ 20 → place_of 3 i y < 3486784401
place_small i y h = omega (arith, place_lt 3 two i y, power_small i h)

pub place_none : (y : ℕ) → place_of 3 0 y ≡ 0
unfolding place_of number
place_none y = refl

-- the point, from the lowest digit up
low_is : (p : ℕ) → point_digit 3 p 0 ≡ (p % 3 + 3 - p / 3 % 3) % 3
unfolding point_digit
low_is p =
    ap₂ (λ (u v : ℕ). (u + 3 - v) % 3) (digit_low 3 two p) (ap (digit 3 p) (one 0) ∙ digit_next 3 two p 0 ∙ digit_low 3 two (p / 3))
  where
    one : (k : ℕ) → k + 1 ≡ suc k
    one k = omega arith

pub point_turn : (x w n i rest : ℕ) → i < n
    → x + w * point_of 3 (n - i) rest ≡ (x + w * ((rest % 3 + 3 - rest / 3 % 3) % 3)) + w * 3 * point_of 3 (n - (i + 1)) (rest / 3)
point_turn x w n i rest l =
    let e : n - i ≡ suc (n - (i + 1)) = omega arith in
    ap (λ (k : ℕ). x + w * point_of 3 k rest) e
    ∙ ap (λ (z : ℕ). x + w * z) (point_next_is 3 two (n - (i + 1)) rest ∙ ap (λ (d : ℕ). d + 3 * point_of 3 (n - (i + 1)) (rest / 3)) (low_is rest))
    ∙ spread x w ((rest % 3 + 3 - rest / 3 % 3) % 3) (point_of 3 (n - (i + 1)) (rest / 3))
  where
    spread : (x w d z : ℕ) → x + w * (d + 3 * z) ≡ (x + w * d) + w * 3 * z
    spread x w d z = omega arith

pub point_done : (x w n i rest : ℕ) → n ≤ i → x + w * point_of 3 (n - i) rest ≡ x
unfolding point_of number
point_done x w n i rest h = let z : n - i ≡ 0 = omega arith in rw (z, point_of, number) (omega arith)

-- a digit adds less than two weights more
pub digit_small : (x w d : ℕ) → x < w → d < 3 → x + w * d < w * 3
digit_small x w d h k = let m : w * d ≤ w * 2 = mul-le-mul_left w (omega arith) in omega arith

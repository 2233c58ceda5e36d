-- The sum over all places of a function of degree below 2 n is 0 modulo 3: the sum over one digit is a second difference.
use mathlib.Core.Path.{◌≡◌, sym, ap, ap₂, ◌∙◌}
use Prim.Native.Nat.{ℕ, zero, suc, ◌+◌, ◌*◌, ◌^◌, ◌<◌}
use native.Mathlib.Nat.{add-zero, zero-add, pow-zero, pow-suc}
use native.Mathlib.Omega.{arith}
use Rattle.residues.specs.Sums.{sum, same}
use Rattle.residues.proofs.ModLaw.{Cong, crefl, cof, ◌⨾◌, cadd, cmul, cancel, cwhole}
use Rattle.residues.proofs.SumLaw.{sum_cong}
use Rattle.walks.proofs.CostLaw.{sum_rows}
use Rattle.gray.specs.Numbers.{point_digit}
use Rattle.gray.proofs.GrayLaw.{point_low, point_next, div_of}
use Rattle.held.proofs.FlatLaw.{Fun, plus, delta, Flat, Ext, flat_same, flat_le, flat_affine, ext_delta}

pos : 0 < 3
pos = omega arith

two : 1 < 3
two = omega arith

-- a point with a lowest digit before the others
unfoldable pub cons : ℕ → (ℕ → ℕ) → ℕ → ℕ
cons a x zero = a
cons a x (suc k) = x k

abbrev pub around : Fun → Fun
around h x = h (cons 0 x) + h (cons 1 x) + h (cons 2 x)

cons_cong : (a b : ℕ) (x y : ℕ → ℕ) → Cong 3 a b → ((k : ℕ) → Cong 3 (x k) (y k)) → (k : ℕ) → Cong 3 (cons a x k) (cons b y k)
unfolding cons
cons_cong a b x y e s zero = e
cons_cong a b x y e s (suc k) = s k

pub around_ext : (h : Fun) → Ext 3 h → Ext 3 (around h)
around_ext h e x y s =
    cadd (cadd (e (cons 0 x) (cons 0 y) (cons_cong 0 0 x y (crefl 0) s)) (e (cons 1 x) (cons 1 y) (cons_cong 1 1 x y (crefl 1) s))) (e (cons 2 x) (cons 2 y) (cons_cong 2 2 x y (crefl 2) s))

-- one more at digit 0
low : ℕ → ℕ
low k = same k 0

cons_more : (a : ℕ) (x : ℕ → ℕ) (k : ℕ) → Cong 3 (cons a x k + low k) (cons (suc a) x k)
unfolding cons low same
cons_more a x zero = cof (more a)
  where
    more : (a : ℕ) → a + 1 ≡ suc a
    more a = omega arith
cons_more a x (suc k) = cof (add-zero (x k))

cons_two : (x : ℕ → ℕ) (k : ℕ) → Cong 3 (cons 0 x k + low k + low k) (cons 2 x k)
cons_two x k = cadd (cons_more 0 x k) (crefl (low k)) ⨾ cons_more 1 x k

linear : (x v : ℕ → ℕ) (i : ℕ) → Cong 3 (cons 0 (plus x v) i) (cons 0 x i + cons 0 v i)
unfolding cons
linear x v zero = crefl 0
linear x v (suc i) = crefl (x i + v i)

-- the sum over digit 0 is the second difference
pub around_flat : (k : ℕ) (h : Fun) → Ext 3 h → Flat 3 (suc (suc k)) h → Flat 3 k (around h)
around_flat k h e f =
    flat_same 3 pos k (λ x. delta 3 low (delta 3 low h) (cons 0 x)) (around h) is
    (flat_affine 3 pos (cons 0) (cons 0) linear k (delta 3 low (delta 3 low h)) (ext_delta 3 pos (delta 3 low h) low (ext_delta 3 pos h low e)) (f low low))
  where
    ring : (a b c : ℕ) → c + 2 * b + 2 * (b + 2 * a) ≡ a + b + c + 3 * (a + b)
    ring a b c = omega arith

    is : (x : ℕ → ℕ) → Cong 3 (delta 3 low (delta 3 low h) (cons 0 x)) (around h x)
    is x =
        cadd (cadd (e (plus (plus (cons 0 x) low) low) (cons 2 x) (cons_two x)) (cmul (crefl 2) (e (plus (cons 0 x) low) (cons 1 x) (cons_more 0 x))))
        (cmul (crefl 2) (cadd (e (plus (cons 0 x) low) (cons 1 x) (cons_more 0 x)) (crefl (2 * h (cons 0 x)))))
        ⨾ cof (ring (h (cons 0 x)) (h (cons 1 x)) (h (cons 2 x))) ⨾ cwhole (around h x) (h (cons 0 x) + h (cons 1 x))

-- it does not matter with which digit it begins
pub around_turn : (h : Fun) → Ext 3 h → (x : ℕ → ℕ) (a : ℕ) → Cong 3 (h (cons a x) + h (cons (a + 1) x) + h (cons (a + 2) x)) (around h x)
around_turn h e x zero = crefl _
around_turn h e x (suc a) =
    cof (ap₂ (λ (i j : ℕ). h (cons (suc a) x) + h (cons i x) + h (cons j x)) (one a) (three a))
    ⨾ cadd (crefl (h (cons (suc a) x) + h (cons (a + 2) x))) (e (cons (a + 3 * 1) x) (cons a x) (cons_cong (a + 3 * 1) a x x (cwhole a 1) (λ k. crefl (x k))))
    ⨾ cof (ap (λ (i : ℕ). h (cons i x) + h (cons (a + 2) x) + h (cons a x)) (next a) ∙ swap (h (cons (a + 1) x)) (h (cons (a + 2) x)) (h (cons a x)))
    ⨾ around_turn h e x a
  where
    one : (a : ℕ) → suc a + 1 ≡ a + 2
    one a = omega arith

    three : (a : ℕ) → suc a + 2 ≡ a + 3 * 1
    three a = omega arith

    next : (a : ℕ) → suc a ≡ a + 1
    next a = omega arith

    swap : (a b c : ℕ) → a + b + c ≡ c + a + b
    swap a b c = omega arith

-- the point at place 3 k + d: its lowest digit, and the others
point_cons : (k d : ℕ) → d < 3 → (i : ℕ) → Cong 3 (point_digit 3 (3 * k + d) i) (cons (2 * k + d) (point_digit 3 k) i)
unfolding cons
point_cons k d l zero =
    cancel pos k (cof (ap (λ (x : ℕ). point_digit 3 (3 * k + d) 0 + x) (sym (div_of 3 two k d l))) ⨾ point_low 3 two (3 * k + d) ⨾ cof (turn k d))
  where
    turn : (k d : ℕ) → 3 * k + d ≡ 2 * k + d + k
    turn k d = omega arith
point_cons k d l (suc i) = cof (point_next 3 two (3 * k + d) i ∙ ap (λ (x : ℕ). point_digit 3 x i) (div_of 3 two k d l))

pub row : (h : Fun) → Ext 3 h → (k : ℕ) → Cong 3 (sum 3 (λ d. h (point_digit 3 (3 * k + d)))) (around h (point_digit 3 k))
unfolding sum
row h e k =
    cadd (cadd (cof (zero-add _) ⨾ at 0 (omega arith) ⨾ cof (ap (λ (i : ℕ). h (cons i (point_digit 3 k))) (none (2 * k)))) (at 1 (omega arith))) (at 2 (omega arith)) ⨾ around_turn h e (point_digit 3 k) (2 * k)
  where
    none : (x : ℕ) → x + 0 ≡ x
    none x = omega arith

    at : (d : ℕ) → d < 3 → Cong 3 (h (point_digit 3 (3 * k + d))) (h (cons (2 * k + d) (point_digit 3 k)))
    at d l = e (point_digit 3 (3 * k + d)) (cons (2 * k + d) (point_digit 3 k)) (point_cons k d l)

pub sum_flat : (n : ℕ) (h : Fun) → Ext 3 h → Flat 3 (2 * n) h → Cong 3 (sum (3 ^ n) (λ p. h (point_digit 3 p))) 0
unfolding sum
sum_flat zero h e f = cof (ap (λ (n : ℕ). sum n (λ p. h (point_digit 3 p))) (pow-zero 3) ∙ zero-add _) ⨾ flat_le 3 pos (2 * 0) 0 h (omega arith) f (point_digit 3 0)
sum_flat (suc n) h e f =
    let w : 3 ^ suc n ≡ 3 * 3 ^ n = pow-suc 3 n ∙ omega arith in
    cof (ap (λ (k : ℕ). sum k (λ p. h (point_digit 3 p))) w ∙ sum_rows 3 (3 ^ n) (λ p. h (point_digit 3 p)))
    ⨾ sum_cong 3 (3 ^ n) (λ k. sum 3 (λ d. h (point_digit 3 (3 * k + d)))) (λ k. around h (point_digit 3 k)) (λ k l. row h e k)
    ⨾ sum_flat n (around h) (around_ext h e) (around_flat (2 * n) h e (flat_le 3 pos (2 * suc n) (suc (suc (2 * n))) h (omega arith) f))

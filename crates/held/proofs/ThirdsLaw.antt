-- Base 3: the sums over places that what is held for two positions less than the degree asks for, from the number of the place alone, modulo 3.
use mathlib.Core.Path.{◌≡◌, refl, sym, ap, ap₂, ◌∙◌}
use mathlib.Core.Bool.{true}
use mathlib.Core.Logic.{⊎_elim, by_cases}
use mathlib.Core.List.{[], ◌∷◌}
use Prim.Native.Nat.{ℕ, zero, suc, ◌+◌, ◌-◌, ◌*◌, ◌/◌, ◌%◌, ◌^◌, ◌<◌, ◌≤◌}
use native.Mathlib.Nat.{add-zero, pow-suc, pow-zero, div-one, mod-lt, div-div-eq-div-mul, mul-div-mul_left, mul_comm, one-le-pow}
use native.Mathlib.Decide.{dec_lt}
use native.Mathlib.Omega.{arith}
use lib.Pow.{pow-add}
use Rattle.residues.specs.Sums.{sum}
use Rattle.residues.proofs.ModLaw.{Cong, crefl, cof, csym, ◌⨾◌, cdrop, cadd, cmul, cwhole, cancel}
use Rattle.positions.specs.Positions.{positions}
use Rattle.gray.specs.Numbers.{point_digit}
use Rattle.gray.proofs.GrayLaw.{Stays, Carries, carry, point_low, point_next}
use Rattle.held.specs.Held.{begins, first_of}
use Rattle.held.specs.Visits.{gathered, visits}
use Rattle.held.specs.Thirds.{turns_of, low_sum}
use Rattle.held.proofs.HeldLaw.{begins_self}
use Rattle.held.proofs.PastLaw.{top}
use Rattle.held.proofs.ExactLaw.{pair_same, pair_other}
use Rattle.held.proofs.CountLaw.{gathered_none}
use Rattle.held.proofs.VisitLaw.{roomy, roomy_more, roomy_same, roomy_ext, gathered_number, visits_number, pair_run, same_run, begun_rises, roomy_one, roomy_two, visits_far, visits_near}

pub two : 1 < 3
two = omega arith

pub odd : 2 < 3
odd = omega arith

pub pos : 0 < 3
pos = omega arith

pub turns_low : (y : ℕ) → turns_of 0 y ≡ y - y / 3
unfolding turns_of
turns_low y = ap (λ (w : ℕ). y / w - y / w / 3) (pow-zero 3) ∙ ap (λ (x : ℕ). x - x / 3) (div-one y)

pub turns_up : (l y : ℕ) → turns_of (suc l) y ≡ turns_of l (y / 3)
unfolding turns_of
turns_up l y = ap (λ (x : ℕ). x - x / 3) (ap (λ (w : ℕ). y / w) (pow-suc 3 l ∙ mul_comm (3 ^ l) 3) ∙ sym (div-div-eq-div-mul y 3 (3 ^ l)))

-- it is the digit of the point, modulo 3
pub turns_point : (l y : ℕ) → Cong 3 (turns_of l y) (point_digit 3 y l)
turns_point zero y =
    cancel pos (y / 3) (cof (ap (λ (x : ℕ). x + y / 3) (turns_low y) ∙ whole y) ⨾ csym (point_low 3 two y))
  where
    whole : (y : ℕ) → y - y / 3 + y / 3 ≡ y
    whole y = omega arith
turns_point (suc l) y = cof (turns_up l y) ⨾ turns_point l (y / 3) ⨾ cof (sym (point_next 3 two y l))

-- ---- sums over the numbers that leave room for one more, or for two
pub roomy_thirds : (g : ℕ → ℕ) (x : ℕ) → roomy 3 1 (λ y. g (y / 3)) x ≡ sum (x / 3) g + sum (x / 3) g + x % 3 * g (x / 3)
unfolding roomy sum
roomy_thirds g zero = none (g 0)
  where
    none : (y : ℕ) → 0 ≡ 0 + 0 * y
    none y = omega arith
roomy_thirds g (suc x) =
    ⊎_elim
    (λ (s : Stays 3 two x).
    let l : x % 3 + 1 < 3 = omega (arith, s.low, mod-lt (suc x) pos) in
    roomy_more 3 1 (λ y. g (y / 3)) x l ∙ ap (λ (a : ℕ). a + g (x / 3)) (roomy_thirds g x) ∙ one (sum (x / 3) g) (x % 3) (g (x / 3))
    ∙ ap₂ (λ (k i : ℕ). sum k g + sum k g + i * g k) (sym s.part) (sym s.low))
    (λ (s : Carries 3 two x).
    let l : 3 ≤ x % 3 + 1 = omega (arith, s.top) in
    let i : x % 3 ≡ 2 = omega (arith, s.top) in
    roomy_same 3 1 (λ y. g (y / 3)) x l ∙ roomy_thirds g x ∙ ap (λ (a : ℕ). sum (x / 3) g + sum (x / 3) g + a * g (x / 3)) i ∙ whole (sum (x / 3) g) (g (x / 3)) (g (suc (x / 3)))
    ∙ ap₂ (λ (k i : ℕ). sum k g + sum k g + i * g k) (sym s.part) (sym s.low))
    (carry 3 two x)
  where
    one : (a i y : ℕ) → a + a + i * y + y ≡ a + a + suc i * y
    one a i y = omega arith

    whole : (a y z : ℕ) → a + a + 2 * y ≡ a + y + (a + y) + 0 * z
    whole a y z = omega arith

pub roomy_firsts : (g : ℕ → ℕ) (x : ℕ) → roomy 3 2 (λ y. g (y / 3)) x ≡ sum ((x + 2) / 3) g
unfolding roomy sum
roomy_firsts g zero = refl
roomy_firsts g (suc x) =
    by_cases (dec_lt (x % 3 + 2) 3)
    (λ l. let e : (suc x + 2) / 3 ≡ suc (x / 3) = omega arith in
    let f : (x + 2) / 3 ≡ x / 3 = omega arith in
    roomy_more 3 2 (λ y. g (y / 3)) x l ∙ ap (λ (a : ℕ). a + g (x / 3)) (roomy_firsts g x ∙ ap (λ (k : ℕ). sum k g) f) ∙ ap (λ (k : ℕ). sum k g) (sym e))
    (λ l. let e : (suc x + 2) / 3 ≡ (x + 2) / 3 = omega arith in
    roomy_same 3 2 (λ y. g (y / 3)) x (omega arith) ∙ roomy_firsts g x ∙ ap (λ (k : ℕ). sum k g) (sym e))

-- of their thirds, rounded up
pub roomy_ups : (x : ℕ) → roomy 3 1 (λ y. (y + 2) / 3) x ≡ x / 3 * (x / 3) + x % 3 * (x / 3) + x % 3 / 2
unfolding roomy
roomy_ups zero = refl
roomy_ups (suc x) =
    ⊎_elim
    (λ (s : Stays 3 two x).
    let l : x % 3 + 1 < 3 = omega (arith, s.low, mod-lt (suc x) pos) in
    let e : (x + 2) / 3 ≡ x / 3 + x % 3 = omega arith in
    let f : suc (x % 3) / 2 ≡ x % 3 / 2 + x % 3 = omega arith in
    roomy_more 3 1 (λ y. (y + 2) / 3) x l ∙ ap₂ (λ (a b : ℕ). a + b) (roomy_ups x) e ∙ one (x / 3) (x % 3) (x % 3 / 2) (suc (x % 3) / 2) f
    ∙ ap₂ (λ (k i : ℕ). k * k + i * k + i / 2) (sym s.part) (sym s.low))
    (λ (s : Carries 3 two x).
    let l : 3 ≤ x % 3 + 1 = omega (arith, s.top) in
    let i : x % 3 ≡ 2 = omega (arith, s.top) in
    roomy_same 3 1 (λ y. (y + 2) / 3) x l ∙ roomy_ups x ∙ ap (λ (a : ℕ). x / 3 * (x / 3) + a * (x / 3) + a / 2) i ∙ whole (x / 3)
    ∙ ap₂ (λ (k i : ℕ). k * k + i * k + i / 2) (sym s.part) (sym s.low))
    (carry 3 two x)
  where
    one : (k i h j : ℕ) → j ≡ h + i → k * k + i * k + h + (k + i) ≡ k * k + suc i * k + j
    one k i h j e = omega arith

    whole : (k : ℕ) → k * k + 2 * k + 2 / 2 ≡ suc k * suc k + 0 * suc k + 0 / 2
    whole k = omega arith

-- ---- sums of turns
pub three_times : (k : ℕ) → k % 3 ≡ 0 → (y : ℕ) → Cong 3 (k * y) 0
three_times k e y = let f : k ≡ 3 * (k / 3) = omega arith in cof (ap (λ (x : ℕ). x * y) f ∙ left (k / 3) y) ⨾ cwhole 0 (k / 3 * y)
  where
    left : (a y : ℕ) → 3 * a * y ≡ 0 + 3 * (a * y)
    left a y = omega arith

pub sum_turns_up : (l k : ℕ) → Cong 3 (sum k (turns_of (suc l))) (k * turns_of (suc l) k)
unfolding sum
sum_turns_up l zero = cof (none (turns_of (suc l) 0))
  where
    none : (y : ℕ) → 0 ≡ 0 * y
    none y = omega arith
sum_turns_up l (suc k) =
    cadd (sum_turns_up l k) (crefl _) ⨾ cof (more k (turns_of (suc l) k)) ⨾ ⊎_elim
    (λ (s : Stays 3 two k). cof (ap (λ (y : ℕ). suc k * y) (turns_up l k ∙ ap (turns_of l) (sym s.part) ∙ sym (turns_up l (suc k)))))
    (λ (s : Carries 3 two k). three_times (suc k) s.low (turns_of (suc l) k) ⨾ csym (three_times (suc k) s.low (turns_of (suc l) (suc k))))
    (carry 3 two k)
  where
    more : (k y : ℕ) → k * y + y ≡ suc k * y
    more k y = omega arith

pub sum_turns_low : (k : ℕ) → Cong 3 (sum k (turns_of 0)) (low_sum k)
unfolding sum low_sum
sum_turns_low zero = crefl 0
sum_turns_low (suc k) =
    cadd (sum_turns_low k) (cof (turns_low k)) ⨾ step k (k / 3) (k % 3) (omega arith) (mod-lt k pos)
  where
    -- k is 3 a + i
    step : (k a i : ℕ) → k ≡ 3 * a + i → i < 3 → Cong 3 (i / 2 + 2 * (k * a) + (k - a)) (suc k % 3 / 2 + 2 * (suc k * (suc k / 3)))
    step k a zero e l =
        let u : suc k % 3 ≡ 1 = omega arith in
        let w : suc k / 3 ≡ a = omega arith in
        let s : k - a ≡ 2 * a = omega arith in
        cof (ap₂ (λ (x y : ℕ). 0 / 2 + 2 * (x * a) + y) e s ∙ lhs a) ⨾ csym (cof (ap₂ (λ (x y : ℕ). x / 2 + 2 * (suc k * y)) u w ∙ ap (λ (x : ℕ). 1 / 2 + 2 * (suc x * a)) e ∙ rhs a))
      where
        lhs : (a : ℕ) → 0 / 2 + 2 * ((3 * a + 0) * a) + 2 * a ≡ 6 * (a * a) + 2 * a
        lhs a = omega arith

        rhs : (a : ℕ) → 1 / 2 + 2 * (suc (3 * a + 0) * a) ≡ 6 * (a * a) + 2 * a
        rhs a = omega arith
    step k a (suc zero) e l =
        let u : suc k % 3 ≡ 2 = omega arith in
        let w : suc k / 3 ≡ a = omega arith in
        let s : k - a ≡ 2 * a + 1 = omega arith in
        cof (ap₂ (λ (x y : ℕ). 1 / 2 + 2 * (x * a) + y) e s ∙ lhs a) ⨾ csym (cof (ap₂ (λ (x y : ℕ). x / 2 + 2 * (suc k * y)) u w ∙ ap (λ (x : ℕ). 2 / 2 + 2 * (suc x * a)) e ∙ rhs a))
      where
        lhs : (a : ℕ) → 1 / 2 + 2 * ((3 * a + 1) * a) + (2 * a + 1) ≡ 6 * (a * a) + 4 * a + 1
        lhs a = omega arith

        rhs : (a : ℕ) → 2 / 2 + 2 * (suc (3 * a + 1) * a) ≡ 6 * (a * a) + 4 * a + 1
        rhs a = omega arith
    step k a (suc (suc zero)) e l =
        let u : suc k % 3 ≡ 0 = omega arith in
        let w : suc k / 3 ≡ suc a = omega arith in
        let s : k - a ≡ 2 * a + 2 = omega arith in
        cof (ap₂ (λ (x y : ℕ). 2 / 2 + 2 * (x * a) + y) e s ∙ lhs a) ⨾ cwhole 0 (2 * (a * a) + 2 * a + 1)
        ⨾ csym (cof (ap₂ (λ (x y : ℕ). x / 2 + 2 * (suc k * y)) u w ∙ ap (λ (x : ℕ). 0 / 2 + 2 * (suc x * suc a)) e ∙ rhs a) ⨾ cwhole 0 (2 * (suc a * suc a)))
      where
        lhs : (a : ℕ) → 2 / 2 + 2 * ((3 * a + 2) * a) + (2 * a + 2) ≡ 0 + 3 * (2 * (a * a) + 2 * a + 1)
        lhs a = omega arith

        rhs : (a : ℕ) → 0 / 2 + 2 * (suc (3 * a + 2) * suc a) ≡ 0 + 3 * (2 * (suc a * suc a))
        rhs a = omega arith
    step k a (suc (suc (suc i))) e l = absurd (omega arith)

-- ---- the weights of what is held for one position, in degree 3: Y is what is left of the place over 3 to the second position
pub roomy_next : (x : ℕ) → Cong 3 (roomy 3 1 (turns_of 1) x) (2 * low_sum (x / 3) + x % 3 * (x / 3 - x / 3 / 3))
roomy_next x =
    cof (roomy_ext 3 1 (turns_of 1) (λ y. turns_of 0 (y / 3)) (λ y l. turns_up 0 y) x ∙ roomy_thirds (turns_of 0) x)
    ⨾ cadd (cadd (sum_turns_low (x / 3)) (sum_turns_low (x / 3))) (cof (ap (λ (y : ℕ). x % 3 * y) (turns_low (x / 3)))) ⨾ cof (twice (low_sum (x / 3)) (x % 3 * (x / 3 - x / 3 / 3)))
  where
    twice : (a b : ℕ) → a + a + b ≡ 2 * a + b
    twice a b = omega arith

pub roomy_far : (l x : ℕ) → Cong 3 (roomy 3 1 (turns_of (suc (suc l))) x) ((x + 2 * (x / 3)) * turns_of (suc (suc l)) x)
roomy_far l x =
    let t = turns_of (suc l) (x / 3) in
    cof (roomy_ext 3 1 (turns_of (suc (suc l))) (λ y. turns_of (suc l) (y / 3)) (λ y h. turns_up (suc l) y) x ∙ roomy_thirds (turns_of (suc l)) x)
    ⨾ cadd (cadd (sum_turns_up l (x / 3)) (sum_turns_up l (x / 3))) (cmul (cdrop x) (crefl t)) ⨾ cof (join (x / 3) x t ∙ ap (λ (y : ℕ). (x + 2 * (x / 3)) * y) (sym (turns_up (suc l) x)))
  where
    join : (k x t : ℕ) → k * t + k * t + x * t ≡ (x + 2 * k) * t
    join k x t = omega arith

pub roomy_same_next : (x : ℕ) → Cong 3 (roomy 3 2 (turns_of 1) x) (low_sum ((x + 2) / 3))
roomy_same_next x = cof (roomy_ext 3 2 (turns_of 1) (λ y. turns_of 0 (y / 3)) (λ y l. turns_up 0 y) x ∙ roomy_firsts (turns_of 0) x) ⨾ sum_turns_low ((x + 2) / 3)

pub roomy_same_far : (l x : ℕ) → Cong 3 (roomy 3 2 (turns_of (suc (suc l))) x) ((x + 2) / 3 * turns_of (suc l) ((x + 2) / 3))
roomy_same_far l x =
    cof (roomy_ext 3 2 (turns_of (suc (suc l))) (λ y. turns_of (suc l) (y / 3)) (λ y h. turns_up (suc l) y) x ∙ roomy_firsts (turns_of (suc l)) x) ⨾ sum_turns_up l ((x + 2) / 3)

-- ---- places that begin with two positions
-- the number above them, over a third
pub part_is : (c d y : ℕ) → c ≤ d → 3 ^ c * y / 3 ^ d ≡ y / 3 ^ (d - c)
part_is c d y l =
    let e : 3 ^ d ≡ 3 ^ c * 3 ^ (d - c) = let k : d ≡ c + (d - c) = omega arith in ap (λ (x : ℕ). 3 ^ x) k ∙ pow-add 3 c (d - c) in
    ap (λ (x : ℕ). 3 ^ c * y / x) e ∙ mul-div-mul_left y (3 ^ (d - c)) (one-le-pow c 3 pos)

pub above_two : (a b y : ℕ) → a + b * suc y - (a + b) ≡ b * y
above_two a b y = let e : b * suc y ≡ b * y + b = omega arith in omega arith

pub visits_pair_far : (b c p : ℕ) → b < c → visits 3 (b ∷ c ∷ []) p ≡ (p - 3 ^ b) / 3 ^ c - (p - 3 ^ b) / 3 ^ c / 3
unfolding first_of
visits_pair_far b c p l =
    let g : begins (b ∷ c ∷ []) (positions 3 (3 ^ b + 3 ^ c)) ≡ true = rw (pair_other 3 two b c l) (begins_self (b ∷ c ∷ [])) in
    visits_number 3 two (b ∷ []) c (3 ^ b + 3 ^ c) g p
    ∙ ap₂ (λ (r f : ℕ). roomy 3 r (λ y. 1) ((p - f) / 3 ^ c)) (pair_run 3 two b c l) (add-zero (3 ^ b)) ∙ roomy_one _

pub visits_pair_same : (b p : ℕ) → visits 3 (b ∷ b ∷ []) p ≡ ((p - 3 ^ b) / 3 ^ b + 2) / 3
unfolding first_of
visits_pair_same b p =
    let g : begins (b ∷ b ∷ []) (positions 3 (3 ^ b + 3 ^ b)) ≡ true = rw (pair_same 3 two odd b) (begins_self (b ∷ b ∷ [])) in
    visits_number 3 two (b ∷ []) b (3 ^ b + 3 ^ b) g p
    ∙ ap₂ (λ (r f : ℕ). roomy 3 r (λ y. 1) ((p - f) / 3 ^ b)) (same_run 3 two b) (add-zero (3 ^ b)) ∙ roomy_two _

pub gathered_far : (b c d p : ℕ) → b < c → c < d → gathered 3 (b ∷ c ∷ []) (visits 3 (b ∷ c ∷ d ∷ [])) p ≡ roomy 3 1 (turns_of (d - c)) ((p - 3 ^ b) / 3 ^ c)
unfolding first_of turns_of
gathered_far b c d p l m =
    let g : begins (b ∷ c ∷ []) (positions 3 (3 ^ b + 3 ^ c)) ≡ true = rw (pair_other 3 two b c l) (begins_self (b ∷ c ∷ [])) in
    gathered_number 3 two (b ∷ []) c (3 ^ b + 3 ^ c) g (visits 3 (b ∷ c ∷ d ∷ [])) p
    ∙ ap₂ (λ (r f : ℕ). roomy 3 r (λ y. visits 3 (b ∷ c ∷ d ∷ []) (f + 3 ^ c * suc y)) ((p - f) / 3 ^ c)) (pair_run 3 two b c l) (add-zero (3 ^ b))
    ∙ roomy_ext 3 1 _ (turns_of (d - c)) (λ y h. visits_far b c d (3 ^ b + 3 ^ c * suc y) (omega arith) m
    ∙ ap (λ (x : ℕ). x - x / 3) (ap (λ (x : ℕ). x / 3 ^ d) (above_two (3 ^ b) (3 ^ c) y) ∙ part_is c d y (omega arith))) ((p - 3 ^ b) / 3 ^ c)

pub gathered_near : (b c p : ℕ) → b < c → gathered 3 (b ∷ c ∷ []) (visits 3 (b ∷ c ∷ c ∷ [])) p ≡ roomy 3 1 (λ y. (y + 2) / 3) ((p - 3 ^ b) / 3 ^ c)
unfolding first_of
gathered_near b c p l =
    let g : begins (b ∷ c ∷ []) (positions 3 (3 ^ b + 3 ^ c)) ≡ true = rw (pair_other 3 two b c l) (begins_self (b ∷ c ∷ [])) in
    let z : c - c ≡ 0 = omega arith in
    gathered_number 3 two (b ∷ []) c (3 ^ b + 3 ^ c) g (visits 3 (b ∷ c ∷ c ∷ [])) p
    ∙ ap₂ (λ (r f : ℕ). roomy 3 r (λ y. visits 3 (b ∷ c ∷ c ∷ []) (f + 3 ^ c * suc y)) ((p - f) / 3 ^ c)) (pair_run 3 two b c l) (add-zero (3 ^ b))
    ∙ roomy_ext 3 1 _ (λ y. (y + 2) / 3) (λ y h. visits_near b c (3 ^ b + 3 ^ c * suc y) l
    ∙ ap (λ (x : ℕ). (x + 2) / 3) (ap (λ (x : ℕ). x / 3 ^ c) (above_two (3 ^ b) (3 ^ c) y) ∙ part_is c c y (omega arith) ∙ ap (λ (k : ℕ). y / 3 ^ k) z ∙ ap (λ (w : ℕ). y / w) (pow-zero 3) ∙ div-one y)) ((p - 3 ^ b) / 3 ^ c)

pub gathered_twice : (b d p : ℕ) → b < d → gathered 3 (b ∷ b ∷ []) (visits 3 (b ∷ b ∷ d ∷ [])) p ≡ roomy 3 2 (turns_of (d - b)) ((p - 3 ^ b) / 3 ^ b)
unfolding first_of turns_of
gathered_twice b d p l =
    let g : begins (b ∷ b ∷ []) (positions 3 (3 ^ b + 3 ^ b)) ≡ true = rw (pair_same 3 two odd b) (begins_self (b ∷ b ∷ [])) in
    gathered_number 3 two (b ∷ []) b (3 ^ b + 3 ^ b) g (visits 3 (b ∷ b ∷ d ∷ [])) p
    ∙ ap₂ (λ (r f : ℕ). roomy 3 r (λ y. visits 3 (b ∷ b ∷ d ∷ []) (f + 3 ^ b * suc y)) ((p - f) / 3 ^ b)) (same_run 3 two b) (add-zero (3 ^ b))
    ∙ roomy_ext 3 2 _ (turns_of (d - b)) (λ y h. visits_far b b d (3 ^ b + 3 ^ b * suc y) (omega arith) l
    ∙ ap (λ (x : ℕ). x - x / 3) (ap (λ (x : ℕ). x / 3 ^ d) (above_two (3 ^ b) (3 ^ b) y) ∙ part_is b d y (omega arith))) ((p - 3 ^ b) / 3 ^ b)

-- ---- and those that no place begins with
pub gathered_fall : (b c : ℕ) (h : ℕ → ℕ) (p : ℕ) → c < b → gathered 3 (b ∷ c ∷ []) h p ≡ 0
gathered_fall b c h p l = gathered_none 3 (b ∷ c ∷ []) h (λ t e. let r = begun_rises 3 two (b ∷ c ∷ []) t e in let k : b ≤ c = r.2.0 in omega arith) p

pub visits_pair_fall : (b c p : ℕ) → c < b → visits 3 (b ∷ c ∷ []) p ≡ 0
unfolding visits
visits_pair_fall b c p l = gathered_fall b c (λ u. 1) p l

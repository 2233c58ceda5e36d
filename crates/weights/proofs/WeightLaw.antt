-- The numbers that the code works out from what is left of a place, modulo 3, and how often entries are added to a slot.
use mathlib.Core.Path.{◌≡◌, sym, ap, ap₂, ◌∙◌}
use mathlib.Core.List.{[], ◌∷◌}
use Prim.Native.Nat.{ℕ, suc, ◌+◌, ◌-◌, ◌*◌, ◌/◌, ◌%◌, ◌^◌, ◌≤◌, ◌<◌}
use native.Mathlib.Nat.{mul-le-mul_right, div-div-eq-div-mul, mul-div_right, one-le-pow}
use native.Mathlib.Omega.{arith}
use lib.Pow.{pow-add}
use Rattle.residues.proofs.ModLaw.{Cong, crefl, cof, csym, ◌⨾◌, cdrop, cadd, cmul, cwhole}
use Rattle.gray.specs.Numbers.{point_digit}
use Rattle.held.specs.Visits.{gathered, visits}
use Rattle.held.specs.Thirds.{turns_of, low_sum}
use Rattle.held.proofs.CountLaw.{gathered_cong, gathered_const}
use Rattle.held.proofs.VisitLaw.{roomy, visits_fall, visits_thrice}
use Rattle.held.proofs.ThirdsLaw.{turns_point, roomy_ups, roomy_next, roomy_far, roomy_same_next, roomy_same_far, visits_pair_far, visits_pair_same, gathered_far, gathered_near, gathered_twice}
use Rattle.weights.specs.declared.Weights.{Weights}
use Rattle.weights.specs.Parts.{Weighs}

-- ---- what the code works out
pub small : (a b : ℕ) → a < 3 → a * b ≤ 2 * b
small a b h = let l : a ≤ 2 = omega arith in mul-le-mul_right b l

pub low_is : (k : ℕ) → Cong 3 (k % 3 / 2 + 2 * (k % 3 * (k / 3 % 3))) (low_sum k)
unfolding low_sum
low_is k = cadd (crefl (k % 3 / 2)) (cmul (crefl 2) (cmul (cdrop k) (cdrop (k / 3))))

pub whole_is : (y : ℕ) → Cong 3 (y % 3 + 2 * (y / 3 % 3)) (y + 2 * (y / 3))
whole_is y = cadd (cdrop y) (cmul (crefl 2) (cdrop (y / 3)))

pub same_is : (y : ℕ) → Cong 3 (y / 3 % 3 * (y / 3 % 3) + y % 3 * (y / 3 % 3) + y % 3 / 2) (y / 3 * (y / 3) + y % 3 * (y / 3) + y % 3 / 2)
same_is y = cadd (cadd (cmul (cdrop (y / 3)) (cdrop (y / 3))) (cmul (crefl (y % 3)) (cdrop (y / 3)))) (crefl (y % 3 / 2))

-- a difference of a number and its third
pub less_third : (k : ℕ) → Cong 3 (k + 2 * (k / 3)) (k - k / 3)
less_third k = cof (is k) ⨾ cwhole (k - k / 3) (k / 3)
  where
    is : (k : ℕ) → k + 2 * (k / 3) ≡ k - k / 3 + 3 * (k / 3)
    is k = omega arith

pub next_is : (y s : ℕ) → Cong 3 s (low_sum (y / 3)) → Cong 3 (2 * s + y % 3 * (y / 3 % 3 + 2 * (y / 3 / 3 % 3))) (2 * low_sum (y / 3) + y % 3 * (y / 3 - y / 3 / 3))
next_is y s e = cadd (cmul (crefl 2) e) (cmul (crefl (y % 3)) (cadd (cdrop (y / 3)) (cmul (crefl 2) (cdrop (y / 3 / 3))) ⨾ less_third (y / 3)))

-- ---- how often entries are added
-- turns of a higher digit, from what is left
pub turns_part : (r c d : ℕ) → c ≤ d → turns_of (d - c) (r / 3 ^ c) ≡ turns_of d r
unfolding turns_of
turns_part r c d l =
    let k : c + (d - c) ≡ d = omega arith in
    ap (λ (x : ℕ). x - x / 3) (div-div-eq-div-mul r (3 ^ c) (3 ^ (d - c)) ∙ ap (λ (x : ℕ). r / x) (sym (pow-add 3 c (d - c)) ∙ ap (λ (x : ℕ). 3 ^ x) k))

-- turns of a digit of k, seen from the place of which k is left
turns_above : (b k d : ℕ) → b < d → turns_of d (3 ^ suc b * k) ≡ turns_of (d - suc b) k
turns_above b k d l = sym (turns_part (3 ^ suc b * k) (suc b) d l) ∙ ap (turns_of (d - suc b)) (mul-div_right k (one-le-pow (suc b) 3 (omega arith)))

-- no place begins with unknowns that fall
pub none_falls : (b c d q : ℕ) → d < c → Cong 3 (gathered 3 (b ∷ c ∷ []) (visits 3 (b ∷ c ∷ d ∷ [])) q) 0
none_falls b c d q l =
    gathered_cong 3 (b ∷ c ∷ []) 3 (visits 3 (b ∷ c ∷ d ∷ [])) (λ u. 0) q (λ u g h. cof (visits_fall 3 (omega arith) b c d u l)) ⨾ cof (gathered_const 3 (b ∷ c ∷ []) 0 q ∙ nought (visits 3 (b ∷ c ∷ []) q))
  where
    nought : (x : ℕ) → x * 0 ≡ 0
    nought x = omega arith

pub none_thrice : (b q : ℕ) → Cong 3 (gathered 3 (b ∷ b ∷ []) (visits 3 (b ∷ b ∷ b ∷ [])) q) 0
none_thrice b q =
    gathered_cong 3 (b ∷ b ∷ []) 3 (visits 3 (b ∷ b ∷ b ∷ [])) (λ u. 0) q (λ u g h. cof (visits_thrice b u)) ⨾ cof (gathered_const 3 (b ∷ b ∷ []) 0 q ∙ nought (visits 3 (b ∷ b ∷ []) q))
  where
    nought : (x : ℕ) → x * 0 ≡ 0
    nought x = omega arith

-- a distance of two or more
pub apart : (c d : ℕ) → suc c < d → d - c ≡ suc (suc (d - c - 2))
apart c d l = omega arith

-- two different unknowns
pub weighs_other : (n b c q r y : ℕ) (x : ℕ → ℕ) (w : Weights) → b < c → r ≡ q - 3 ^ b → y ≡ r / 3 ^ c → ((d : ℕ) → c < d → d < n → Cong 3 (x d) (point_digit 3 r d))
    → Cong 3 w.whole (y + 2 * (y / 3)) → Cong 3 w.same (y / 3 * (y / 3) + y % 3 * (y / 3) + y % 3 / 2) → Cong 3 w.next (2 * low_sum (y / 3) + y % 3 * (y / 3 - y / 3 / 3))
    → Weighs n b c (visits 3 (b ∷ c ∷ []) q) (λ d. gathered 3 (b ∷ c ∷ []) (visits 3 (b ∷ c ∷ d ∷ [])) q) x w
weighs_other n b c q r y x w l e f digits u v t =
    let i : (q - 3 ^ b) / 3 ^ c ≡ y = ap (λ (k : ℕ). k / 3 ^ c) (sym e) ∙ sym f in
    let a : Cong 3 (visits 3 (b ∷ c ∷ []) q) (y + 2 * (y / 3)) = cof (visits_pair_far b c q l ∙ ap (λ (k : ℕ). k - k / 3) i) ⨾ csym (less_third y) in
    record {
      whole = u ⨾ csym a;
      same = λ k. v ⨾ csym (cof (gathered_near b c q l ∙ roomy_ups _ ∙ ap (λ (k : ℕ). k / 3 * (k / 3) + k % 3 * (k / 3) + k % 3 / 2) i));
      next = λ k. t ⨾ csym (cof (gathered_far b c (suc c) q l (omega arith) ∙ ap₂ (λ (g k : ℕ). roomy 3 1 (turns_of g) k) (one c) i) ⨾ roomy_next y);
      far = λ d k m. cmul a (digits d (omega arith) m ⨾ csym (turns_point d r) ⨾ cof (sym (turns_part r c d (omega arith)) ∙ ap (turns_of (d - c)) (sym f)))
          ⨾ csym (cof (gathered_far b c d q l (omega arith) ∙ ap₂ (λ (g k : ℕ). roomy 3 1 (turns_of g) k) (apart c d k) i) ⨾ roomy_far (d - c - 2) y ⨾ cof (ap (λ (g : ℕ). (y + 2 * (y / 3)) * turns_of g y) (sym (apart c d k))));
      none = λ d k. none_falls b c d q k;
      twice = λ k. absurd (omega arith);
    }
  where
    one : (c : ℕ) → suc c - c ≡ 1
    one c = omega arith

-- the same unknown twice
pub weighs_twice : (n b q k : ℕ) (x : ℕ → ℕ) (w : Weights) → k ≡ ((q - 3 ^ b) / 3 ^ b + 2) / 3 → ((d : ℕ) → suc b < d → d < n → Cong 3 (x d) (point_digit 3 (3 ^ suc b * k) d))
    → Cong 3 w.whole k → Cong 3 w.next (low_sum k)
    → Weighs n b b (visits 3 (b ∷ b ∷ []) q) (λ d. gathered 3 (b ∷ b ∷ []) (visits 3 (b ∷ b ∷ d ∷ [])) q) x w
weighs_twice n b q k x w e digits u t =
    let a : visits 3 (b ∷ b ∷ []) q ≡ k = visits_pair_same b q ∙ sym e in
    record {
      whole = u ⨾ cof (sym a);
      same = λ l. absurd (omega arith);
      next = λ l. t ⨾ csym (cof (gathered_twice b (suc b) q (omega arith) ∙ ap (λ (g : ℕ). roomy 3 2 (turns_of g) ((q - 3 ^ b) / 3 ^ b)) (one b)) ⨾ roomy_same_next ((q - 3 ^ b) / 3 ^ b) ⨾ cof (ap low_sum (sym e)));
      far = λ d l m. cmul (cof a) (digits d l m ⨾ csym (turns_point d (3 ^ suc b * k)) ⨾ cof (turns_above b k d (omega arith)))
          ⨾ csym (cof (gathered_twice b d q (omega arith) ∙ ap (λ (g : ℕ). roomy 3 2 (turns_of g) ((q - 3 ^ b) / 3 ^ b)) (apart b d l)) ⨾ roomy_same_far (d - b - 2) ((q - 3 ^ b) / 3 ^ b)
          ⨾ cof (ap₂ (λ (y g : ℕ). y * turns_of g y) (sym e) (above b d l)));
      none = λ d l. none_falls b b d q l;
      twice = λ l. none_thrice b q;
    }
  where
    one : (b : ℕ) → suc b - b ≡ 1
    one b = omega arith

    above : (b d : ℕ) → suc b < d → suc (d - b - 2) ≡ d - suc b
    above b d l = omega arith

-- Digits of the point at a place, stored one after the other: what is left of the place after k of them, and the list so far.
use mathlib.Core.Path.{◌≡◌, refl, sym, ap, ◌∙◌}
use mathlib.Core.Logic.{by_cases}
use mathlib.Core.List.{List}
use Prim.Native.Nat.{ℕ, zero, suc, ◌+◌, ◌-◌, ◌/◌, ◌%◌, ◌^◌, ◌≤◌, ◌<◌}
use native.Mathlib.Nat.{div-div-eq-div-mul, pow-suc}
use native.Mathlib.Numerals.{add-one}
use native.Mathlib.Decide.{ℕ_discrete}
use native.Mathlib.Omega.{arith}
use lib.ListN.{length, get_or, set, replicate, length-set}
use lib.Seq.{get_or-set_same, get_or-set_other}
use Rattle.gray.specs.Numbers.{digit, point_digit}

-- what is left after one more digit
pub rest_next : (p k : ℕ) → p / 3 ^ k / 3 ≡ p / 3 ^ (k + 1)
rest_next p k = div-div-eq-div-mul p (3 ^ k) 3 ∙ ap (λ (x : ℕ). p / x) (sym (pow-suc 3 k) ∙ ap (λ (x : ℕ). 3 ^ x) (sym (add-one k)))

-- a digit of the point, from what is left of the place
pub digit_here : (p k : ℕ) → (p / 3 ^ k % 3 + 3 - p / 3 ^ k / 3 % 3) % 3 ≡ point_digit 3 p k
unfolding point_digit digit
digit_here p k = ap (λ (x : ℕ). (p / 3 ^ k % 3 + 3 - x % 3) % 3) (rest_next p k)

-- d has f from a up to k, and 0 elsewhere
pub record Stored (f : ℕ → ℕ) (a k : ℕ) (d : List ℕ) : Type 0 where
  pub size : length d ≡ 20
  pub here : (j : ℕ) → a ≤ j → j < k → get_or d j 0 ≡ f j
  pub none : (j : ℕ) → (a ≤ j → j < k → ⊥) → get_or d j 0 ≡ 0

pub stored_next : (f : ℕ → ℕ) (a k v : ℕ) (d : List ℕ) → a ≤ k → k < 20 → v ≡ f k → Stored f a k d → Stored f a (k + 1) (set d k v)
stored_next f a k v d g l e s =
    let i : k < length d = omega (arith, s.size) in
    record {
      size = simp length-set s.size;
      here = λ j y m. by_cases (ℕ_discrete j k)
          (λ (z : j ≡ k). rw z (get_or-set_same d k v 0 i ∙ e))
          (λ n. get_or-set_other d k j v 0 n ∙ s.here j y (omega arith));
      none = λ j z. get_or-set_other d k j v 0 (λ (y : j ≡ k). z (omega arith) (omega arith)) ∙ s.none j (λ y m. z y (omega arith));
    }

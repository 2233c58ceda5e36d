-- A multiple by masks: all ones keep a word, zeros drop it, so the three remainders give the three multiples.
use mathlib.Core.Path.{◌≡◌, sym, ap₂, ◌∙◌}
use mathlib.Core.Logic.{by_cases}
use Prim.Native.Nat.{ℕ, ◌+◌, ◌*◌, ◌/◌, ◌%◌, ◌^◌, ◌<◌}
use native.Mathlib.Nat.{mod-eq_of_lt}
use native.Mathlib.Decide.{ℕ_discrete}
use native.Mathlib.Omega.{arith}
use lib.Bits.{bit_and, bit_xor, and_mask, and_zero_r, xor_zero_l, xor_lt}
use Rattle.trits.specs.declared.Vector.{Vector}
use Rattle.trits.specs.Trit.{none}
use Rattle.trits.specs.Words.{negate_of, times_of}
use Rattle.trits.proofs.SumLaw.{times_none, times_once, times_twice}

abbrev ones : ℕ
ones = 18446744073709551615

-- v under two masks: one for both words, one for the high word that goes into the low one
abbrev masked : Vector → ℕ → ℕ → Vector
masked v keep turn = record { high = bit_and v.high keep; low = bit_and (bit_xor (bit_and v.high turn) v.low) keep }

and_ones : (x : ℕ) → x < 2 ^ 64 → bit_and x ones ≡ x
and_ones x h = and_mask x 64 ∙ mod-eq_of_lt h

module _ (v : Vector) (h : v.high < 2 ^ 64) (l : v.low < 2 ^ 64) where
  masked_none : masked v 0 0 ≡ none
  masked_none = simp and_zero_r

  masked_once : masked v ones 0 ≡ v
  masked_once = let p = and_ones v.high h in let q = and_ones v.low l in simp (and_zero_r, xor_zero_l, p, q)

  masked_twice : masked v ones ones ≡ negate_of v
  unfolding negate_of
  masked_twice = let p = and_ones v.high h in let q = and_ones (bit_xor v.high v.low) (xor_lt 64 v.high v.low h l) in simp (p, q)

  by : (t k j : ℕ) → (t % 3 + 1) / 2 ≡ k → t % 3 / 2 ≡ j → masked v ((t % 3 + 1) / 2 * ones) (t % 3 / 2 * ones) ≡ masked v (k * ones) (j * ones)
  by t k j p q = ap₂ (λ (x y : ℕ). masked v (x * ones) (y * ones)) p q

  pub masked_is : (t : ℕ) → masked v ((t % 3 + 1) / 2 * ones) (t % 3 / 2 * ones) ≡ times_of v t
  masked_is t =
      by_cases (ℕ_discrete (t % 3) 0) (λ e. by t 0 0 (omega arith) (omega arith) ∙ masked_none ∙ sym (times_none v t e))
      (λ n. by_cases (ℕ_discrete (t % 3) 1) (λ e. by t 1 0 (omega arith) (omega arith) ∙ masked_once ∙ sym (times_once v t e))
      (λ k.
      let e : t % 3 ≡ 2 = omega arith in
      by t 1 1 (omega arith) (omega arith) ∙ masked_twice ∙ sym (times_twice v t e)))

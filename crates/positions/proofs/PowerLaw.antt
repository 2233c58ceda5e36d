-- Which places are powers of the base, by their positions; and the first positions at a level.
use mathlib.Core.Path.{◌≡◌, refl, sym, ap, ◌∙◌}
use mathlib.Core.Logic.{◌↔◌}
use mathlib.Core.List.{List, [], ◌∷◌}
use Prim.Native.Nat.{ℕ, zero, suc, ◌+◌, ◌-◌, ◌*◌, ◌%◌, ◌^◌, ◌<◌}
use native.Mathlib.Nat.{mul-one, add-zero, mod-eq_of_lt, one-le-pow, eq_of_mul-eq-mul_left}
use native.Mathlib.Omega.{arith}
use lib.ListN.{length, get_or}
use Rattle.positions.specs.Positions.{lowest_of, positions}
use Rattle.positions.specs.Parts.{Splits}
use Rattle.positions.specs.declared.Parts.{Parts}
use Rattle.positions.proofs.LowestLaw.{of_other, of_le, of_times}
use Rattle.positions.proofs.PositionLaw.{positions_none, positions_next, positions_level, positions_one}

-- a number taken apart is a power of 3 exactly if nothing but 1 is left
pub split_power : (p : ℕ) (r : Parts) → Splits p r → (r.rest ≡ 1) ↔ (p ≡ 3 ^ r.position)
split_power p r s = (
  λ e. s.whole ∙ ap (λ (x : ℕ). 3 ^ r.position * x) e ∙ mul-one (3 ^ r.position),
  λ e. eq_of_mul-eq-mul_left (3 ^ r.position) (one-le-pow r.position 3 (omega arith)) r.rest 1 (sym s.whole ∙ e ∙ sym (mul-one (3 ^ r.position))),
)

module _ (q : ℕ) (two : 1 < q) where
  pub power_lowest : (b : ℕ) → lowest_of q (q ^ b) ≡ b
  power_lowest b =
      ap (lowest_of q) (sym (mul-one (q ^ b))) ∙ of_times q two b 1 (omega arith)
      ∙ ap (λ (x : ℕ). b + x) (of_other q two 1 (λ z. let w : 1 % q ≡ 1 = mod-eq_of_lt two in omega arith)) ∙ add-zero b

  -- the positions of a power are one
  pub power_positions : (b : ℕ) → positions q (q ^ b) ≡ b ∷ []
  power_positions b =
      let h : 0 < q ^ b = one-le-pow b q (omega arith) in
      let z : q ^ b - q ^ lowest_of q (q ^ b) ≡ 0 = ap (λ (k : ℕ). q ^ b - q ^ k) (power_lowest b) ∙ omega arith in
      positions_one q two (q ^ b) h z ∙ ap (λ (k : ℕ). k ∷ []) (power_lowest b)

  -- no number above 0 has none
  some : (p : ℕ) → length (positions q p) ≡ 0 → p ≡ 0
  some zero e = refl
  some (suc p) e =
      let l : length (positions q (suc p)) ≡ suc (length (positions q (suc p - q ^ lowest_of q (suc p)))) = ap length (positions_next q two (suc p) (omega arith)) in
      absurd (omega arith)

  -- a number with one position is a power
  pub positions_power : (p b : ℕ) → positions q p ≡ b ∷ [] → p ≡ q ^ b
  positions_power zero b e =
      let l : length (positions q 0) ≡ 1 = ap length e in
      let m : length (positions q 0) ≡ 0 = ap length (positions_none q two) in
      absurd (omega arith)
  positions_power (suc p) b e =
      let n = positions_next q two (suc p) (omega arith) in
      let f : lowest_of q (suc p) ≡ b = ap (λ (t : List ℕ). get_or t 0 0) (sym n ∙ e) in
      let l : suc (length (positions q (suc p - q ^ lowest_of q (suc p)))) ≡ 1 = ap length (sym n ∙ e) in
      let z : suc p - q ^ lowest_of q (suc p) ≡ 0 = some (suc p - q ^ lowest_of q (suc p)) (omega arith) in
      let w = of_le q two (suc p) (omega arith) in
      let s : suc p ≡ q ^ lowest_of q (suc p) = omega arith in
      s ∙ ap (λ (k : ℕ). q ^ k) f

  -- the first two positions at level l: l twice where the digit is 2 or more, else l and the first of what stands above
  pub positions_twice : (l k d : ℕ) → suc (suc d) < q → positions q (q ^ l * (q * k + suc (suc d))) ≡ l ∷ l ∷ positions q (q ^ l * (q * k + d))
  positions_twice l k d h = positions_level q two l k (suc d) h ∙ ap (λ (t : List ℕ). l ∷ t) (positions_level q two l k d (omega arith))

  pub positions_once : (l k : ℕ) → positions q (q ^ l * (q * k + 1)) ≡ l ∷ positions q (q ^ l * (q * k))
  positions_once l k = positions_level q two l k 0 two ∙ ap (λ (x : ℕ). l ∷ positions q (q ^ l * x)) (add-zero (q * k))

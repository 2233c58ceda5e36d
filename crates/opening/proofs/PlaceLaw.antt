-- The place just before an unknown's latest move, as the code finds it, and the digits of its point that are 0.
use mathlib.Core.Path.{◌≡◌, sym, ap, ◌∙◌}
use mathlib.Core.Logic.{by_cases}
use Prim.Native.Nat.{ℕ, zero, suc, ◌+◌, ◌-◌, ◌*◌, ◌/◌, ◌%◌, ◌^◌, ◌≤◌, ◌<◌}
use native.Mathlib.Nat.{zero-add, div-mul-le_self, mul-le-mul_left}
use native.Mathlib.Numerals.{add-one}
use native.Mathlib.Decide.{ℕ_discrete}
use native.Mathlib.Omega.{arith}
use Rattle.gray.specs.Numbers.{point_digit}
use Rattle.positions.specs.Positions.{latest, before, last_of}
use Rattle.gray.proofs.LatestLaw.{before_is, latest_is, last_zero, last_other}
use Rattle.gray.proofs.GrayLaw.{point_next, before_part, before_low, low_is}
use Rattle.gray.proofs.MapLaw.{point_digit_lt}
use Rattle.residues.proofs.ModLaw.{Cong, cof, csym, ◌⨾◌, csmall, cancel}

pub two : 1 < 3
two = omega arith

-- the move of b that is numbered y, and the place before it
pub before_place : (b q : ℕ) → 3 ^ b * (last_of 3 (q / 3 ^ b) + 1) - 1 ≡ latest 3 b q - 1
before_place b q =
    let y = last_of 3 (q / 3 ^ b) in
    let e : 3 ^ b * (y + 1) ≡ suc (before 3 b y) = ap (λ (x : ℕ). 3 ^ b * x) (add-one y) ∙ sym (before_is 3 two b y) in
    ap (λ (x : ℕ). x - 1) e ∙ less (before 3 b y) ∙ sym (latest_is 3 two b q)
  where
    less : (x : ℕ) → suc x - 1 ≡ x
    less x = omega arith

-- it is small
pub last_le : (x : ℕ) → last_of 3 x ≤ x
last_le x = by_cases (ℕ_discrete (x % 3) 0) (λ e. omega (arith, last_zero 3 two x e)) (λ n. omega (arith, last_other 3 two x n))

pub before_small : (w q : ℕ) → 0 < w → w * (last_of 3 (q / w) + 1) ≤ q + w
before_small w q h =
    let l = mul-le-mul_left w (last_le (q / w)) in
    omega (arith, div-mul-le_self q w)

-- just before a move of b the digits of the point below the one before b are 0
pub low_none : (q : ℕ) → 1 < q → (b y k : ℕ) → suc k < b → point_digit q (before q b y) k ≡ 0
low_none q two zero y k h = absurd (omega arith)
low_none q two (suc zero) y k h = absurd (omega arith)
low_none q two (suc (suc b)) y zero h =
    let z : 0 < q = omega arith in
    let x = before q (suc b) y in
    let e : Cong q (point_digit q (before q (suc (suc b)) y) 0 + x) (0 + x) = low_is q two (suc b) y ⨾ csym (before_low q two b y) ⨾ cof (sym (zero-add x)) in
    csmall (point_digit_lt q two (before q (suc (suc b)) y) 0) z (cancel z x e)
low_none q two (suc (suc b)) y (suc k) h =
    point_next q two (before q (suc (suc b)) y) k ∙ ap (λ (x : ℕ). point_digit q x k) (before_part q two (suc b) y) ∙ low_none q two (suc b) y k (omega arith)

pub latest_none : (b q k : ℕ) → k < b - 1 → point_digit 3 (latest 3 b q - 1) k ≡ 0
latest_none b q k h = ap (λ (x : ℕ). point_digit 3 x k) (latest_is 3 two b q) ∙ low_none 3 two b (last_of 3 (q / 3 ^ b)) k (omega arith)

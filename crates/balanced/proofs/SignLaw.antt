-- Small signed numbers: a difference of two of them fits 64 bits, and a number between -h and h is at least 0 when raised by h.
use mathlib.Core.Path.{◌≡◌, refl, sym, ap, ap₂, ◌∙◌, subst}
use mathlib.Core.Bool.{Bool, true, false, cond}
use Prim.Native.Nat.{ℕ, zero, suc, ◌+◌, ◌-◌, ◌<◌, ◌≤◌}
use native.Mathlib.Omega.{arith}
use lib.Dec.{T, ltb}
use lib.IntN.{ℤ, pos, negsuc, neg_ℤ, nat_abs, sub_ℕ, ◌+ℤ◌, ◌-ℤ◌, +ℤ_idl}
use lib.Signed.{mag, lt_z, non_neg}
use borrow.Author.Tests.{ltb-false, lt-ltb, le-ltb}
use mir.Syntax.{w64}
use mir.Val.{SFits, Fits, to_z, of_z}
use mir.ValLaws.{to_z-of_z}

-- a difference of natural numbers, by which is larger
pub sub_le : (a b : ℕ) → b ≤ a → sub_ℕ a b ≡ pos (a - b)
sub_le a b h = rw (le-ltb a b h)

pub sub_lt : (a b : ℕ) → a < b → sub_ℕ a b ≡ negsuc (b - suc a)
sub_lt a b h = rw (lt-ltb a b h)

mag_sub : (a b k : ℕ) → a ≤ k → b ≤ k → mag (sub_ℕ a b) ≤ k
mag_sub a b k h l = go (ltb a b)
  where
    go : (t : Bool) → mag (cond t (negsuc (b - suc a)) (pos (a - b))) ≤ k
    go true = omega arith
    go false = omega arith

pub minus_fits : (a b : ℕ) → a ≤ 4294967296 → b ≤ 4294967296 → SFits w64 (pos a -ℤ pos b)
minus_fits a zero h l = record { sfits = omega arith }
minus_fits a (suc b) h l = record { sfits = omega (arith, mag_sub a (suc b) 4294967296 h l) }

-- y between -h and h, raised by h
pub record Raised (y : ℤ) (h : ℕ) : Type 0 where
  pub number : ℕ
  pub is : y +ℤ pos h ≡ pos number
  pub most : number ≤ h + h

pub raised : (y : ℤ) (h : ℕ) → lt_z y (neg_ℤ (pos h)) ≡ false → lt_z (pos h) y ≡ false → Raised y h
raised (pos a) h l u = let k : a ≤ h = ltb-false h a u in record { number = a + h; is = refl; most = omega arith }
raised (negsuc a) zero l u = absurd (subst T l tt)
raised (negsuc a) (suc h) l u = let k : a ≤ h = ltb-false h a l in record { number = suc h - suc a; is = sub_le (suc h) (suc a) (omega arith); most = omega arith }

-- a number as a local holds it
abbrev pub held : ℤ → ℤ
held z = to_z w64 (of_z w64 z)

module _ (y H : ℤ) (h : ℕ) (fits : SFits w64 y) (small : h ≤ 4294967296) (half : H ≡ pos h) where
  held_half : held H ≡ pos h
  held_half = ap held half ∙ to_z-of_z w64 (pos h) (record { sfits = omega arith })

  pub less_is : pos 0 -ℤ held H ≡ pos 0 -ℤ pos h
  less_is = ap (λ (z : ℤ). pos 0 -ℤ z) held_half

  pub less_fits : SFits w64 (pos 0 -ℤ held H)
  less_fits = subst (SFits w64) (sym less_is) (minus_fits 0 h (omega arith) small)

  -- the two tests of the code
  pub low_test : (b : Bool) → lt_z (held y) (held (pos 0 -ℤ held H)) ≡ b → lt_z y (neg_ℤ (pos h)) ≡ b
  low_test b t =
      let u : held (pos 0 -ℤ held H) ≡ neg_ℤ (pos h) = to_z-of_z w64 (pos 0 -ℤ held H) less_fits ∙ less_is ∙ +ℤ_idl (neg_ℤ (pos h)) in
      sym (ap₂ lt_z (to_z-of_z w64 y fits) u) ∙ t

  pub high_test : (b : Bool) → lt_z (held H) (held y) ≡ b → lt_z (pos h) y ≡ b
  high_test b t = sym (ap₂ lt_z held_half (to_z-of_z w64 y fits)) ∙ t

  -- the sum of the code
  sum_is : held y +ℤ held H ≡ y +ℤ pos h
  sum_is = ap₂ ◌+ℤ◌ (to_z-of_z w64 y fits) held_half

  pub sum_fits : Raised y h → SFits w64 (held y +ℤ held H)
  sum_fits r = subst (SFits w64) (sym (sum_is ∙ r.is)) (record { sfits = omega (arith, r.most) })

  pub sum_held : (r : Raised y h) → held (held y +ℤ held H) ≡ pos r.number
  sum_held r = to_z-of_z w64 (held y +ℤ held H) (sum_fits r) ∙ sum_is ∙ r.is

  pub sum_cast : Raised y h → T (non_neg (held (held y +ℤ held H))) × Fits w64 (nat_abs (held (held y +ℤ held H)))
  sum_cast r = subst (λ (z : ℤ). T (non_neg z) × Fits w64 (nat_abs z)) (sym (sum_held r)) (tt, record { fits = omega (arith, r.most) })

  pub sum_number : Raised y h → nat_abs (held (held y +ℤ held H)) ≡ nat_abs (y +ℤ pos h)
  sum_number r = ap nat_abs (sum_held r ∙ sym r.is)

-- a difference, as a local holds it
pub held_minus : (z : ℤ) (a b : ℕ) → a ≤ 4294967296 → b ≤ 4294967296 → z ≡ pos a -ℤ pos b → held z ≡ pos a -ℤ pos b
held_minus z a b h l e = ap held e ∙ to_z-of_z w64 (pos a -ℤ pos b) (minus_fits a b h l)

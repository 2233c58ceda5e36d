-- Each verdict from the tests that the code makes, and the answer that goes with it.
use Rattle.std.specs.Prelude.{Ok, Err}
use mathlib.Core.Path.{◌≡◌, refl, sym, ap, ap₂, ◌∙◌}
use mathlib.Core.Bool.{true, false}
use Prim.Native.Nat.{ℕ}
use lib.IntN.{ℤ, pos, neg_ℤ}
use lib.Signed.{lt_z}
use Rattle.refusals.specs.declared.Refusal.TheVariants.{Range}
use Rattle.refusals.specs.Refusal.{Verdict, done}
use Rattle.refusals.specs.Limits.{Unknowns}
use Rattle.gray.specs.Answers.{told}
use Rattle.balanced.specs.Balanced.{half_of}
use Rattle.balanced.specs.Answers.{balanced_verdict, balanced_from, balanced_told}
use Rattle.refusals.proofs.RefusalLaw.{unknowns_next}

-- refusal 4, and none
pub ends_low : (n : ℕ) (y : ℤ) → Unknowns n → lt_z y (neg_ℤ (pos (half_of n))) ≡ true → balanced_verdict n y ≡ Err Range
ends_low n y w a = unknowns_next n _ w ∙ rw a

pub ends_high : (n : ℕ) (y : ℤ) → Unknowns n → lt_z y (neg_ℤ (pos (half_of n))) ≡ false → lt_z (pos (half_of n)) y ≡ true → balanced_verdict n y ≡ Err Range
ends_high n y w a b = unknowns_next n _ w ∙ rw (a, b)

pub ends_so : (n : ℕ) (y : ℤ) → Unknowns n → lt_z y (neg_ℤ (pos (half_of n))) ≡ false → lt_z (pos (half_of n)) y ≡ false → balanced_verdict n y ≡ done
ends_so n y w a b = unknowns_next n _ w ∙ rw (a, b)

-- what an answer tells is what its verdict tells
pub balanced_told_lem : (v : Verdict) (y : ℤ) → balanced_told (balanced_from v y) ≡ told v y
balanced_told_lem (Ok _) y = refl
balanced_told_lem (Err r) y = refl

-- both promises of an answer, from its verdict and its value
pub balanced_meets : (v w : Verdict) (x y : ℤ) → w ≡ v → y ≡ x → (balanced_from v y ≡ balanced_from w x) × (balanced_told (balanced_from v y) ≡ told w x)
balanced_meets v w x y e f =
    let s : balanced_from v y ≡ balanced_from w x = ap₂ (λ (u : Verdict) (z : ℤ). balanced_from u z) (sym e) f in
    (s, ap balanced_told s ∙ balanced_told_lem w x)

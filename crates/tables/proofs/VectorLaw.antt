-- Sums, negations and multiples of vectors of given trits, as the operations promise them.
use mathlib.Core.Path.{◌≡◌, sym, ap, ◌∙◌}
use Prim.Native.Nat.{ℕ, ◌+◌, ◌*◌, ◌<◌}
use native.Mathlib.Nat.{mod-eq_of_lt}
use Rattle.residues.proofs.ModLaw.{Cong, cof, ◌⨾◌, cdrop}
use Rattle.trits.specs.declared.Vector.{Vector}
use Rattle.trits.specs.Trit.{trit, Legal, of_trits}
use Rattle.trits.specs.Words.{Added, Negated, Scaled}
use Rattle.trits.proofs.ExtLaw.{trit_of, legal_of, is_of}
use Rattle.trits.proofs.HoldLaw.{holds_is, is_holds, holds_add, holds_negate, holds_times}
use Rattle.trits.proofs.LegalLaw.{trit_lt}

-- a legal vector is that of its own trits
pub of_self : (m : ℕ) (v : Vector) → Legal m v → v ≡ of_trits m (trit v)
of_self m v l = is_of m (trit v) v l (λ e h. sym (mod-eq_of_lt (trit_lt v e)))

pub legal_is : (m : ℕ) (f : ℕ → ℕ) (v : Vector) → v ≡ of_trits m f → Legal m v
legal_is m f v e = rw e (legal_of m f)

pub trit_is : (m : ℕ) (f : ℕ → ℕ) (v : Vector) → v ≡ of_trits m f → (e : ℕ) → e < m → Cong 3 (trit v e) (f e)
trit_is m f v p e h = cof (ap (λ (x : Vector). trit x e) p ∙ trit_of m f e h) ⨾ cdrop (f e)

-- what an operation gives on vectors of given trits
module _ (m : ℕ) where
  pub of_add : (f g : ℕ → ℕ) (a b r : Vector) → a ≡ of_trits m f → b ≡ of_trits m g → Added a b r → r ≡ of_trits m (λ e. f e + g e)
  of_add f g a b r p q s = holds_is (holds_add s (is_holds p) (is_holds q))

  pub of_negate : (f : ℕ → ℕ) (v r : Vector) → v ≡ of_trits m f → Negated v r → r ≡ of_trits m (λ e. 2 * f e)
  of_negate f v r p s = holds_is (holds_negate s (is_holds p))

  pub of_times : (f : ℕ → ℕ) (t : ℕ) (v r : Vector) → v ≡ of_trits m f → Scaled v t r → r ≡ of_trits m (λ e. f e * t)
  of_times f t v r p s = holds_is (holds_times s (is_holds p))

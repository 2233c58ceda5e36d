-- Sums, negations, products and multiples of legal vectors are legal, and are what they should be at each trit.
use mathlib.Core.Path.{◌≡◌, refl, ap, ◌∙◌}
use Prim.Native.Nat.{ℕ, zero, suc, ◌+◌, ◌*◌, ◌%◌, ◌<◌}
use native.Mathlib.Omega.{arith}
use Rattle.residues.proofs.ModLaw.{mul_mod}
use Rattle.trits.specs.declared.Vector.{Vector}
use Rattle.trits.specs.Trit.{trit, Legal, Holds, none}
use Rattle.trits.specs.Words.{add_of, negate_of, product_of, times_in, times_of, Scaled}
use Rattle.trits.proofs.Bits.{bits}
use Rattle.trits.proofs.SliceLaw.{slices}
use Rattle.trits.proofs.LegalLaw.{trit_lt, trit_none, legal_none}

pub meets : (a b : Vector) (m : ℕ) → Legal m a → Legal m b → Holds m (λ e. trit a e + trit b e) (add_of a b)
unfolding add_of
meets a b = slices add_of (λ x y. x + y) refl refl a b (λ e. simp bits) (λ e. simp bits)

pub negated : (v : Vector) (m : ℕ) → Legal m v → Holds m (λ e. 2 * trit v e) (negate_of v)
unfolding negate_of
negated v m l = slices (λ a b. negate_of a) (λ x y. 2 * x) refl refl v v (λ e. refl) (λ e. simp bits) m l l

pub multiplied : (a b : Vector) (m : ℕ) → Legal m a → Legal m b → Holds m (λ e. trit a e * trit b e) (product_of a b)
unfolding product_of
multiplied a b = slices product_of (λ x y. x * y) refl refl a b (λ e. simp bits) (λ e. simp bits)

-- by a remainder
times_in_lem : (k : ℕ) (v : Vector) (m : ℕ) → k < 3 → Legal m v → Holds m (λ e. trit v e * k) (times_in k v)
unfolding times_in
times_in_lem zero v m h l = record { legal = legal_none m; each = λ e h. trit_none e ∙ omega arith }
times_in_lem (suc zero) v m h l = record { legal = l; each = λ e h. omega (arith, trit_lt v e) }
times_in_lem (suc (suc zero)) v m h l = let n = negated v m l in record { legal = n.legal; each = λ e h. n.each e h ∙ omega arith }
times_in_lem (suc (suc (suc k))) v m h l = absurd (omega arith)

pub scaled : (v : Vector) (t m : ℕ) → Legal m v → Holds m (λ e. trit v e * t) (times_of v t)
unfolding times_of
scaled v t m l =
    let small : t % 3 < 3 = omega arith in
    let n = times_in_lem (t % 3) v m small l in
    record { legal = n.legal; each = λ e h. n.each e h ∙ mul_mod (trit v e) t 3 }

-- the three multiples, by the remainder of t
module _ (v : Vector) (t : ℕ) where
  pub times_none : t % 3 ≡ 0 → times_of v t ≡ none
  unfolding times_in times_of
  times_none e = ap (λ (k : ℕ). times_in k v) e

  pub times_once : t % 3 ≡ 1 → times_of v t ≡ v
  unfolding times_in times_of
  times_once e = ap (λ (k : ℕ). times_in k v) e

  pub times_twice : t % 3 ≡ 2 → times_of v t ≡ negate_of v
  unfolding times_in times_of
  times_twice e = ap (λ (k : ℕ). times_in k v) e

pub scales : {v r : Vector} {t : ℕ} → r ≡ times_of v t → Scaled v t r
scales {v} {r} {t} e = record { words = e; trits = λ m l. rw e (scaled v t m l) }

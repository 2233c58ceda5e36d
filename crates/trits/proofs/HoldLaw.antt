-- Vectors that hold given trits: sums, negations and multiples of them, as the operations promise them.
use mathlib.Core.Path.{◌≡◌, sym, ap, ap₂, ◌∙◌}
use Prim.Native.Nat.{ℕ, ◌+◌, ◌*◌, ◌%◌, ◌<◌}
use native.Mathlib.Nat.{add-mod}
use Rattle.residues.proofs.ModLaw.{crefl, cof, ◌⨾◌, cdrop, cmul, mod_mul}
use Rattle.trits.specs.declared.Vector.{Vector}
use Rattle.trits.specs.Trit.{trit, Holds, of_trits}
use Rattle.trits.specs.Words.{Added, Negated, Scaled}
use Rattle.trits.proofs.ExtLaw.{trit_of, legal_of, is_of}

-- a vector holds trits exactly if it is the vector of them
pub holds_is : {m : ℕ} {f : ℕ → ℕ} {v : Vector} → Holds m f v → v ≡ of_trits m f
holds_is {m} {f} {v} h = is_of m f v h.legal h.each

pub is_holds : {m : ℕ} {f : ℕ → ℕ} {v : Vector} → v ≡ of_trits m f → Holds m f v
is_holds {m} {f} {v} p = record { legal = rw p (legal_of m f); each = λ e l. ap (λ (x : Vector). trit x e) p ∙ trit_of m f e l }

pub holds_ext : {m : ℕ} {f g : ℕ → ℕ} {v : Vector} → ((e : ℕ) → e < m → f e % 3 ≡ g e % 3) → Holds m f v → Holds m g v
holds_ext q h = record { legal = h.legal; each = λ e l. h.each e l ∙ q e l }

pub holds_add : {m : ℕ} {f g : ℕ → ℕ} {a b r : Vector} → Added a b r → Holds m f a → Holds m g b → Holds m (λ e. f e + g e) r
holds_add {m} {f} {g} {a} {b} d ha hb =
    holds_ext (λ e l. ap₂ (λ (x y : ℕ). (x + y) % 3) (ha.each e l) (hb.each e l) ∙ sym (add-mod (f e) (g e) 3)) (d.trits m ha.legal hb.legal)

pub holds_negate : {m : ℕ} {f : ℕ → ℕ} {v r : Vector} → Negated v r → Holds m f v → Holds m (λ e. 2 * f e) r
holds_negate {m} {f} d h = holds_ext (λ e l. (cmul (crefl 2) (cof (h.each e l) ⨾ cdrop (f e))).same) (d.trits m h.legal)

pub holds_times : {m : ℕ} {f : ℕ → ℕ} {v r : Vector} {t : ℕ} → Scaled v t r → Holds m f v → Holds m (λ e. f e * t) r
holds_times {m} {f} {v} {r} {t} d h = holds_ext (λ e l. ap (λ (x : ℕ). x * t % 3) (h.each e l) ∙ mod_mul (f e) t 3) (d.trits m h.legal)

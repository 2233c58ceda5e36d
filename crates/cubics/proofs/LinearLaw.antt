-- What is held for a sum is the sum of what is held, and nothing is held for more positions than the degree.
use mathlib.Core.Path.{◌≡◌, refl, ap₂, ◌∙◌}
use mathlib.Core.Bool.{true}
use mathlib.Core.List.{List, [], ◌∷◌}
use Prim.Native.Nat.{ℕ, zero, suc, ◌+◌, ◌-◌, ◌*◌, ◌^◌, ◌<◌}
use native.Mathlib.Nat.{zero-add}
use native.Mathlib.Omega.{arith}
use lib.ListN.{length, take}
use Rattle.residues.proofs.ModLaw.{Cong, crefl, cof, ◌⨾◌, cadd, cmul}
use Rattle.positions.specs.Positions.{positions}
use Rattle.polynomials.specs.Poly.{value_of, table_of}
use Rattle.held.specs.Held.{begins, first_of, latest_of, change, held, entry, along}
use Rattle.cubics.specs.Cubic.{Cubic, low_of, cubes_of, cubic_of}
use Rattle.held.proofs.HeldLaw.{begins_append}
use Rattle.held.proofs.StemLaw.{root}
use Rattle.held.proofs.FlatLaw.{Fun, Flat, Ext, flat_le}
use Rattle.polynomials.proofs.TermsLaw.{flat_value, ext_value}
use Rattle.held.proofs.ConstantLaw.{nowhere, flat_deltas, entry_is}
use Rattle.polynomials.proofs.QuadLaw.{lin_is, quad_is}

pub change_add : (q : ℕ) (v w : ℕ → ℕ) (k p : ℕ) → change q (λ t. v t + w t) k p ≡ change q v k p + change q w k p
unfolding change
change_add q v w zero p = refl
change_add q v w (suc k) p =
    let t = latest_of q (take k (positions q p)) (p - 1) in
    ap₂ (λ (x y : ℕ). x + (q - 1) * y) (change_add q v w k p) (change_add q v w k t)
    ∙ turn (change q v k p) (change q w k p) (change q v k t) (change q w k t) (q - 1)
  where
    turn : (a b c d r : ℕ) → a + b + r * (c + d) ≡ a + r * c + (b + r * d)
    turn a b c d r = omega arith

pub held_add : (q : ℕ) (v w : ℕ → ℕ) (L : List ℕ) (p : ℕ) → held q (λ t. v t + w t) L p ≡ held q v L p + held q w L p
unfolding held
held_add q v w L p = change_add q v w (length L) (latest_of q L p)

pub entry_add : (q : ℕ) (v w : ℕ → ℕ) (L : List ℕ) → entry q (λ t. v t + w t) L ≡ entry q v L + entry q w L
unfolding entry
entry_add q v w L = change_add q v w (length L) (first_of q L)

-- values that are equal modulo q
pub change_like : (q : ℕ) (v w : ℕ → ℕ) → ((t : ℕ) → Cong q (v t) (w t)) → (k p : ℕ) → Cong q (change q v k p) (change q w k p)
unfolding change
change_like q v w e zero p = e p
change_like q v w e (suc k) p = cadd (change_like q v w e k p) (cmul (crefl (q - 1)) (change_like q v w e k (latest_of q (take k (positions q p)) (p - 1))))

pub held_like : (q : ℕ) (v w : ℕ → ℕ) → ((t : ℕ) → Cong q (v t) (w t)) → (L : List ℕ) (p : ℕ) → Cong q (held q v L p) (held q w L p)
unfolding held
held_like q v w e L p = change_like q v w e (length L) (latest_of q L p)

pub entry_like : (q : ℕ) (v w : ℕ → ℕ) → ((t : ℕ) → Cong q (v t) (w t)) → (L : List ℕ) → Cong q (entry q v L) (entry q w L)
unfolding entry
entry_like q v w e L = change_like q v w e (length L) (first_of q L)

module _ (q : ℕ) (two : 1 < q) where
  pos : 0 < q
  pos = omega arith

  -- more positions than the degree, those of some place
  pub entry_none : (F : Fun) → Ext q F → (L : List ℕ) (p : ℕ) → Flat q (length L) F → begins L (positions q p) ≡ true → Cong q (entry q (along q F) L) 0
  entry_none F ext L p f b =
      let g : Flat q (suc (length L)) F = flat_le q pos (length L) (suc (length L)) F (omega arith) f in
      let h : Flat q (length L + 0) F = flat_le q pos (length L) (length L + 0) F (omega arith) f in
      entry_is q two F ext (length L) g L p refl b ⨾ flat_deltas q two L root F 0 h nowhere

  -- ---- the table of a cubic: that of its quadratic part as it is, and that of its cubes
  module _ (f : Cubic) (n : ℕ) where
    part : (L : List ℕ) → entry q (along q (cubic_of f n)) L ≡ entry q (along q (value_of (low_of f) n)) L + entry q (along q (cubes_of f n)) L
    unfolding cubic_of
    part L = entry_add q (along q (value_of (low_of f) n)) (along q (cubes_of f n)) L

    pub cubic_lin : (b : ℕ) → b < n → Cong q (entry q (along q (cubic_of f n)) (b ∷ [])) ((table_of q (low_of f)).lin b + entry q (along q (cubes_of f n)) (b ∷ []))
    cubic_lin b l = cof (part (b ∷ [])) ⨾ cadd (lin_is q two (low_of f) n b l) (crefl _)

    pub cubic_quad : (b c p : ℕ) (ps : List ℕ) → suc p < q ^ n → b < n → positions q (suc p) ≡ b ∷ c ∷ ps
        → Cong q (entry q (along q (cubic_of f n)) (b ∷ c ∷ [])) ((table_of q (low_of f)).quad b c + entry q (along q (cubes_of f n)) (b ∷ c ∷ []))
    cubic_quad b c p ps l m e = cof (part (b ∷ c ∷ [])) ⨾ cadd (quad_is q two (low_of f) n b c (suc p) ps l e) (crefl _)

    pub cubic_cube : (b c d p : ℕ) (ps : List ℕ) → positions q p ≡ b ∷ c ∷ d ∷ ps
        → Cong q (entry q (along q (cubic_of f n)) (b ∷ c ∷ d ∷ [])) (entry q (along q (cubes_of f n)) (b ∷ c ∷ d ∷ []))
    cubic_cube b c d p ps e =
        let g : begins (b ∷ c ∷ d ∷ []) (positions q p) ≡ true = rw e (begins_append (b ∷ c ∷ d ∷ []) ps) in
        cof (part (b ∷ c ∷ d ∷ []))
        ⨾ cadd (entry_none (value_of (low_of f) n) (ext_value q pos (low_of f) n) (b ∷ c ∷ d ∷ []) p (flat_value q pos (low_of f) n) g) (crefl _)
        ⨾ cof (zero-add _)

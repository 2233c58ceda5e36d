-- The entries of pairs and single unknowns of a cubic over F3, in its coefficients. With a = b - 1 (terms with a are 0 at b = 0), p = c - 1, and brackets [b i p].
use mathlib.Core.Path.{◌≡◌, refl, ap, ap₂, ◌∙◌}
use mathlib.Core.List.{List, [], ◌∷◌}
use Prim.Native.Nat.{ℕ, zero, suc, ◌+◌, ◌*◌, ◌<◌}
use native.Mathlib.Nat.{add-zero}
use native.Mathlib.Omega.{arith}
use Rattle.residues.proofs.ModLaw.{Cong, crefl, cof, ◌⨾◌, cadd, cmul, cwhole}
use Rattle.positions.specs.Positions.{positions}
use Rattle.polynomials.proofs.PolyLaw.{slope_self, slope_below}
use Rattle.polynomials.proofs.FormLaw.{half_three}
use Rattle.held.specs.Held.{entry, along}
use Rattle.cubics.specs.Cubic.{Cubic, cubic_of}
use Rattle.cubics.specs.Derived.{row, derived}
use Rattle.cubics.specs.Rows.{under_of, single_of}
use Rattle.cubics.proofs.DerivedLaw.{lin_below, lin_at, lin_above, quad_below}
use Rattle.cubics.proofs.PairLaw.{single_is}
use Rattle.cubics.proofs.BracketLaw.{bracket, bracket_low, bracket_low_same, bracket_same, none_is}
use Rattle.cubics.proofs.ShortLaw.{three_pair, three_same}

module _ (f : Cubic) (free : (i : ℕ) → f.cube i i i ≡ 0) where
  -- ---- the first difference in the direction b
  at_b : (b : ℕ) → (derived f b).lin b ≡ 2 * f.quad b b
  unfolding row
  at_b b =
      lin_at f b ∙ ap (λ (x : ℕ). f.quad b b + x + (f.quad b b + f.cube b b b)) (slope_self (row f b) b)
      ∙ ap (λ (x : ℕ). f.quad b b + 2 * x + (f.quad b b + x)) (free b) ∙ ring (f.quad b b)
    where
      ring : (x : ℕ) → x + 2 * 0 + (x + 0) ≡ 2 * x
      ring x = omega arith

  at_c : (b c : ℕ) → b < c → (derived f b).lin c ≡ f.quad b c + f.cube b b c
  unfolding row
  at_c b c l = lin_above f b c l

  at_a : (b : ℕ) → under_of (derived f b).lin b ≡ under_of (λ a. f.quad a b + f.cube a b b) b
  unfolding under_of row
  at_a zero = refl
  at_a (suc a) = lin_below f (suc a) a (omega arith) ∙ ap (λ (x : ℕ). f.quad a (suc a) + x) (slope_below (row f (suc a)) (suc a) a (omega arith))

  const_is : (b : ℕ) → (derived f b).const ≡ f.lin b + f.quad b b
  unfolding derived row
  const_is b = ap (λ (x : ℕ). f.lin b + (f.quad b b + x)) (free b) ∙ ap (λ (x : ℕ). f.lin b + x) (add-zero (f.quad b b))

  -- its brackets with a
  ab_is : (b : ℕ) → under_of (λ j. bracket f b j b) b ≡ 2 * under_of (λ a. f.cube a b b) b
  unfolding under_of
  ab_is zero = refl
  ab_is (suc a) = bracket_low_same f a (suc a) (omega arith)

  ac_is : (b c : ℕ) → b < c → under_of (λ j. bracket f b j c) b ≡ under_of (λ a. f.cube a b c) b
  unfolding under_of
  ac_is zero c l = refl
  ac_is (suc a) c l = bracket_low f a (suc a) c (omega arith) l

  aa_is : (b : ℕ) → under_of (λ i. under_of (λ j. bracket f b j i) b) b ≡ 2 * under_of (λ a. f.cube a a b) b
  unfolding under_of row
  aa_is zero = refl
  aa_is (suc a) = slope_self (derived f (suc a)) a ∙ ap (λ (x : ℕ). 2 * x) (quad_below f (suc a) a a (omega arith))

  under_both : (u w : ℕ → ℕ) (b : ℕ) → under_of (λ a. u a + w a) b ≡ under_of u b + under_of w b
  unfolding under_of
  under_both u w zero = refl
  under_both u w (suc a) = refl

  module _ (n b : ℕ) where
    two : 1 < 3
    two = omega arith

    -- C_b + C_bb - C_ab - C_abb + C_aab
    pub coef_single : (p : ℕ) (ps : List ℕ) → positions 3 p ≡ b ∷ ps → b < n
        → Cong 3 (entry 3 (along 3 (cubic_of f n)) (b ∷ []))
        (f.lin b + f.quad b b + 2 * under_of (λ a. f.quad a b) b + 2 * under_of (λ a. f.cube a b b) b + under_of (λ a. f.cube a a b) b)
    unfolding single_of
    coef_single p ps e l =
        single_is 3 two f n 2 half_three b p ps e l
        ⨾ cof (ap₂ (λ (x y : ℕ). x + 2 * y + 2 * under_of (λ i. under_of (λ j. bracket f b j i) b) b) (const_is b) (at_a b ∙ under_both (λ a. f.quad a b) (λ a. f.cube a b b) b)
        ∙ ap (λ (x : ℕ). f.lin b + f.quad b b + 2 * (under_of (λ a. f.quad a b) b + under_of (λ a. f.cube a b b) b) + 2 * x) (aa_is b)
        ∙ ring (f.lin b + f.quad b b) (under_of (λ a. f.quad a b) b) (under_of (λ a. f.cube a b b) b) (under_of (λ a. f.cube a a b) b)) ⨾ cwhole _ (under_of (λ a. f.cube a a b) b)
      where
        ring : (c x y z : ℕ) → c + 2 * (x + y) + 2 * (2 * z) ≡ c + 2 * x + 2 * y + z + 3 * z
        ring c x y z = omega arith

    -- - C_bb - C_ab + C_abb
    pub coef_same : (p : ℕ) (ps : List ℕ) → positions 3 p ≡ b ∷ b ∷ ps → b < n
        → Cong 3 (entry 3 (along 3 (cubic_of f n)) (b ∷ b ∷ [])) (2 * f.quad b b + 2 * under_of (λ a. f.quad a b) b + under_of (λ a. f.cube a b b) b)
    coef_same p ps e l =
        three_same f n b p ps e l
        ⨾ cadd (cadd (cof (ap₂ (λ (x y : ℕ). x + 2 * y) (at_b b) (at_a b ∙ under_both (λ a. f.quad a b) (λ a. f.cube a b b) b))) (cmul (crefl 2) (none_is f b))) (cof (ab_is b))
        ⨾ cof (ring (f.quad b b) (under_of (λ a. f.quad a b) b) (under_of (λ a. f.cube a b b) b)) ⨾ cwhole _ (under_of (λ a. f.cube a b b) b)
      where
        ring : (c x y : ℕ) → 2 * c + 2 * (x + y) + 2 * 0 + 2 * y ≡ 2 * c + 2 * x + y + 3 * y
        ring c x y = omega arith

    -- C_bc - C_bb + C_ab - C_abc + C_bbc + C_bcc - [bbp] - [bcp] - [abp], c = p + 1
    pub coef_pair : (c t : ℕ) (ps : List ℕ) → positions 3 t ≡ b ∷ suc c ∷ ps → b < suc c → suc c < n
        → Cong 3 (entry 3 (along 3 (cubic_of f n)) (b ∷ suc c ∷ []))
        (f.quad b (suc c) + 2 * f.quad b b + under_of (λ a. f.quad a b) b + 2 * under_of (λ a. f.cube a b (suc c)) b + f.cube b b (suc c) + f.cube b (suc c) (suc c)
        + 2 * (bracket f b b c + bracket f b (suc c) c + under_of (λ j. bracket f b j c) b))
    unfolding under_of
    coef_pair c t ps e l m =
        three_pair f n b (suc c) t ps e (omega arith) m (λ i. omega arith)
        ⨾ cadd (cadd (cadd (cof (ap₂ (λ (x y : ℕ). x + y) (ap₂ (λ (x y : ℕ). x + y) (at_b b) (at_c b (suc c) l)) (at_a b ∙ under_both (λ a. f.quad a b) (λ a. f.cube a b b) b))) (none_is f b)) (cof (ab_is b)))
        (cmul (crefl 2) (cof (ap₂ (λ (x y : ℕ). x + y + bracket f b b c + bracket f b (suc c) c + under_of (λ j. bracket f b j c) b) (bracket_same f b (suc c) l) (ac_is b (suc c) l))))
        ⨾ cof (ring (f.quad b b) (f.quad b (suc c)) (f.cube b b (suc c)) (under_of (λ a. f.quad a b) b) (under_of (λ a. f.cube a b b) b) (f.cube b (suc c) (suc c)) (under_of (λ a. f.cube a b (suc c)) b) (bracket f b b c) (bracket f b (suc c) c) (under_of (λ j. bracket f b j c) b))
        ⨾ cwhole _ (under_of (λ a. f.cube a b b) b + f.cube b (suc c) (suc c))
      where
        ring : (bb bc bbc ab abb bcc abc x y z : ℕ)
            → 2 * bb + (bc + bbc) + (ab + abb) + 0 + 2 * abb + 2 * (2 * bcc + abc + x + y + z) ≡ bc + 2 * bb + ab + 2 * abc + bbc + bcc + 2 * (x + y + z) + 3 * (abb + bcc)
        ring bb bc bbc ab abb bcc abc x y z = omega arith

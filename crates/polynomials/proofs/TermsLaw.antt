-- A polynomial with terms of at most d unknowns has degree d, in any base; and the value of a polynomial of degree 2 is that sum of terms.
use mathlib.Core.Path.{◌≡◌, ap, ◌∙◌}
use mathlib.Core.List.{List, [], ◌∷◌}
use Prim.Native.Nat.{ℕ, zero, suc, ◌+◌, ◌-◌, ◌*◌, ◌<◌}
use native.Mathlib.Nat.{zero-add}
use native.Mathlib.Omega.{arith}
use Rattle.residues.specs.Sums.{sum}
use Rattle.residues.proofs.ModLaw.{crefl, cof, csym, ◌⨾◌, cadd, cmul}
use Rattle.residues.proofs.SumLaw.{sum_add, sum_ext, sum_scale, sum_cong}
use Rattle.held.proofs.FlatLaw.{Flat, Ext, flat_same, flat_add, flat_le, flat_const, flat_digit, flat_times, flat_sum}
use Rattle.polynomials.specs.Poly.{Poly, value_of}
use Rattle.polynomials.specs.Terms.{terms_of, coefficients_of}

module _ (q : ℕ) (pos : 0 < q) where
  pub ext_terms : (d : ℕ) (f : List ℕ → ℕ) (c n : ℕ) → Ext q (terms_of d f c n)
  unfolding terms_of
  ext_terms zero f c n x y s = crefl (f [])
  ext_terms (suc d) f c n x y s =
      cadd (crefl (f [])) (sum_cong q (n - c) _ _ (λ i l. cmul (s (c + i)) (ext_terms d (λ L. f ((c + i) ∷ L)) (c + i) n x y s)))

  pub flat_terms : (d : ℕ) (f : List ℕ → ℕ) (c n : ℕ) → Flat q (suc d) (terms_of d f c n)
  unfolding terms_of
  flat_terms zero f c n = flat_const q pos (f [])
  flat_terms (suc d) f c n =
      flat_add q pos (suc (suc d)) (λ x. f []) (λ x. sum (n - c) (λ i. x (c + i) * terms_of d (λ L. f ((c + i) ∷ L)) (c + i) n x))
      (flat_le q pos 1 (suc (suc d)) (λ x. f []) (omega arith) (flat_const q pos (f [])))
      (flat_sum q pos (n - c) (suc (suc d)) (λ i x. x (c + i) * terms_of d (λ L. f ((c + i) ∷ L)) (c + i) n x)
      (λ i. flat_times q pos (suc (suc d)) 2 d (λ x. x (c + i)) (terms_of d (λ L. f ((c + i) ∷ L)) (c + i) n) (omega arith)
      (ext_terms d (λ L. f ((c + i) ∷ L)) (c + i) n) (flat_digit q pos (c + i)) (flat_terms d (λ L. f ((c + i) ∷ L)) (c + i) n)))

-- a sum of products with x, and with a row of terms
pub row_is : (n : ℕ) (a : ℕ) (f x : ℕ → ℕ) → a * sum n (λ d. x d * f d) ≡ sum n (λ d. f d * (a * x d))
row_is n a f x = sum_scale n a (λ d. x d * f d) ∙ sum_ext n (λ d. a * (x d * f d)) (λ d. f d * (a * x d)) (λ d l. turn a (x d) (f d))
  where
    turn : (a b c : ℕ) → a * (b * c) ≡ c * (a * b)
    turn a b c = omega arith

-- from 0 on
pub whole_sum : (n : ℕ) (h : ℕ → ℕ) → sum (n - 0) (λ i. h (0 + i)) ≡ sum n h
whole_sum n h = ap (λ (k : ℕ). sum k (λ i. h (0 + i))) (less n) ∙ sum_ext n (λ i. h (0 + i)) h (λ i l. ap h (zero-add i))
  where
    less : (n : ℕ) → n - 0 ≡ n
    less n = omega arith

pub value_terms : (f : Poly) (n : ℕ) (x : ℕ → ℕ) → terms_of 2 (coefficients_of f) 0 n x ≡ value_of f n x
unfolding terms_of coefficients_of value_of
value_terms f n x =
    ap (λ (y : ℕ). f.const + y)
    (whole_sum n (λ i. x i * (f.lin i + sum (n - i) (λ d. x (i + d) * f.quad i (i + d))))
    ∙ sum_ext n (λ i. x i * (f.lin i + sum (n - i) (λ d. x (i + d) * f.quad i (i + d)))) (λ i. f.lin i * x i + sum (n - i) (λ d. f.quad i (i + d) * (x i * x (i + d))))
    (λ i l. part (x i) (f.lin i) (sum (n - i) (λ d. x (i + d) * f.quad i (i + d))) ∙ ap (λ (y : ℕ). f.lin i * x i + y) (row_is (n - i) (x i) (λ d. f.quad i (i + d)) (λ d. x (i + d))))
    ∙ sum_add n (λ i. f.lin i * x i) (λ i. sum (n - i) (λ d. f.quad i (i + d) * (x i * x (i + d)))))
    ∙ left f.const _ _
  where
    part : (a l s : ℕ) → a * (l + s) ≡ l * a + a * s
    part a l s = omega arith

    left : (a b c : ℕ) → a + (b + c) ≡ a + b + c
    left a b c = omega arith

-- so it has degree 2
module _ (q : ℕ) (pos : 0 < q) (f : Poly) (n : ℕ) where
  pub flat_value : Flat q 3 (value_of f n)
  flat_value = flat_same q pos 3 (terms_of 2 (coefficients_of f) 0 n) (value_of f n) (λ x. cof (value_terms f n x)) (flat_terms q pos 2 (coefficients_of f) 0 n)

  pub ext_value : Ext q (value_of f n)
  ext_value x y s = csym (cof (value_terms f n x)) ⨾ ext_terms q pos 2 (coefficients_of f) 0 n x y s ⨾ cof (value_terms f n y)

-- The value of a cubic polynomial is the sum of its terms of at most three unknowns, so it has degree 3, in any base.
use mathlib.Core.Path.{◌≡◌, ap, ap₂, ◌∙◌}
use Prim.Native.Nat.{ℕ, ◌+◌, ◌-◌, ◌*◌, ◌<◌}
use native.Mathlib.Omega.{arith}
use Rattle.residues.specs.Sums.{sum}
use Rattle.residues.proofs.ModLaw.{cof, csym, ◌⨾◌}
use Rattle.residues.proofs.SumLaw.{sum_add, sum_ext}
use Rattle.held.proofs.FlatLaw.{Flat, Ext, flat_same}
use Rattle.polynomials.specs.Poly.{value_of}
use Rattle.polynomials.specs.Terms.{terms_of}
use Rattle.polynomials.proofs.PolyLaw.{value_ext}
use Rattle.polynomials.proofs.TermsLaw.{ext_terms, flat_terms, row_is, whole_sum}
use Rattle.cubics.specs.Cubic.{Cubic, low_of, cubes_of, cubic_of, coefficients_of}

module _ (f : Cubic) (n : ℕ) (x : ℕ → ℕ) where
  -- the terms over xi x(i+d), and those of xi
  abbrev over : ℕ → ℕ → ℕ
  over i d = sum (n - (i + d)) (λ e. x (i + d + e) * f.cube i (i + d) (i + d + e))

  abbrev squares : ℕ → ℕ
  squares i = sum (n - i) (λ d. f.quad i (i + d) * (x i * x (i + d)))

  abbrev cubes : ℕ → ℕ
  cubes i = sum (n - i) (λ d. sum (n - (i + d)) (λ e. f.cube i (i + d) (i + d + e) * (x i * (x (i + d) * x (i + d + e)))))

  cube_row : (i d : ℕ) → over i d * (x i * x (i + d)) ≡ sum (n - (i + d)) (λ e. f.cube i (i + d) (i + d + e) * (x i * (x (i + d) * x (i + d + e))))
  cube_row i d =
      swap (over i d) (x i * x (i + d)) ∙ row_is (n - (i + d)) (x i * x (i + d)) (λ e. f.cube i (i + d) (i + d + e)) (λ e. x (i + d + e))
      ∙ sum_ext (n - (i + d)) (λ e. f.cube i (i + d) (i + d + e) * (x i * x (i + d) * x (i + d + e))) _ (λ e l. ap (λ (y : ℕ). f.cube i (i + d) (i + d + e) * y) (right (x i) (x (i + d)) (x (i + d + e))))
    where
      swap : (a b : ℕ) → a * b ≡ b * a
      swap a b = omega arith

      right : (a b c : ℕ) → a * b * c ≡ a * (b * c)
      right a b c = omega arith

  row_terms : (i : ℕ) → x i * (f.lin i + sum (n - i) (λ d. x (i + d) * (f.quad i (i + d) + over i d))) ≡ f.lin i * x i + squares i + cubes i
  row_terms i =
      part (x i) (f.lin i) (sum (n - i) (λ d. x (i + d) * (f.quad i (i + d) + over i d)))
      ∙ ap (λ (y : ℕ). f.lin i * x i + y)
      (row_is (n - i) (x i) (λ d. f.quad i (i + d) + over i d) (λ d. x (i + d))
      ∙ sum_ext (n - i) (λ d. (f.quad i (i + d) + over i d) * (x i * x (i + d))) (λ d. f.quad i (i + d) * (x i * x (i + d)) + over i d * (x i * x (i + d))) (λ d l. both (f.quad i (i + d)) (over i d) (x i * x (i + d)))
      ∙ sum_add (n - i) (λ d. f.quad i (i + d) * (x i * x (i + d))) (λ d. over i d * (x i * x (i + d)))
      ∙ ap (λ (y : ℕ). squares i + y) (sum_ext (n - i) (λ d. over i d * (x i * x (i + d))) _ (λ d l. cube_row i d)))
      ∙ left (f.lin i * x i) (squares i) (cubes i)
    where
      part : (a l s : ℕ) → a * (l + s) ≡ l * a + a * s
      part a l s = omega arith

      both : (a b c : ℕ) → (a + b) * c ≡ a * c + b * c
      both a b c = omega arith

      left : (a b c : ℕ) → a + (b + c) ≡ a + b + c
      left a b c = omega arith

  pub cubic_terms : terms_of 3 (coefficients_of f) 0 n x ≡ cubic_of f n x
  unfolding terms_of coefficients_of cubic_of cubes_of value_of
  cubic_terms =
      ap (λ (y : ℕ). f.const + y)
      (whole_sum n (λ i. x i * (f.lin i + sum (n - i) (λ d. x (i + d) * (f.quad i (i + d) + over i d))))
      ∙ sum_ext n (λ i. x i * (f.lin i + sum (n - i) (λ d. x (i + d) * (f.quad i (i + d) + over i d)))) (λ i. f.lin i * x i + squares i + cubes i) (λ i l. row_terms i)
      ∙ sum_add n (λ i. f.lin i * x i + squares i) cubes ∙ ap (λ (y : ℕ). y + sum n cubes) (sum_add n (λ i. f.lin i * x i) squares))
      ∙ left f.const (sum n (λ i. f.lin i * x i)) (sum n squares) (sum n cubes)
    where
      left : (a b c d : ℕ) → a + (b + c + d) ≡ a + b + c + d
      left a b c d = omega arith

module _ (q : ℕ) (pos : 0 < q) (f : Cubic) (n : ℕ) where
  pub flat_cubic : Flat q 4 (cubic_of f n)
  flat_cubic = flat_same q pos 4 (terms_of 3 (coefficients_of f) 0 n) (cubic_of f n) (λ x. cof (cubic_terms f n x)) (flat_terms q pos 3 (coefficients_of f) 0 n)

  pub ext_cubic : Ext q (cubic_of f n)
  ext_cubic x y s = csym (cof (cubic_terms f n x)) ⨾ ext_terms q pos 3 (coefficients_of f) 0 n x y s ⨾ cof (cubic_terms f n y)

-- the unknowns from n on do not count
pub cubic_below : (f : Cubic) (n : ℕ) (x y : ℕ → ℕ) → ((k : ℕ) → k < n → x k ≡ y k) → cubic_of f n x ≡ cubic_of f n y
unfolding cubic_of cubes_of
cubic_below f n x y h =
    ap₂ (λ (u v : ℕ). u + v) (value_ext (low_of f) n x y h)
    (sum_ext n _ _ (λ i a. sum_ext (n - i) _ _ (λ d b. sum_ext (n - (i + d)) _ _ (λ e c. ap₂ (λ (u v : ℕ). f.cube i (i + d) (i + d + e) * (u * v)) (h i a) (ap₂ (λ (u v : ℕ). u * v) (h (i + d) (omega arith)) (h (i + d + e) (omega arith)))))))

-- The value of a cubic with the highest unknown apart is its value.
use mathlib.Core.Path.{◌≡◌, refl, sym, ap, ap₂, ◌∙◌}
use Prim.Native.Nat.{ℕ, zero, suc, ◌+◌, ◌-◌, ◌*◌, ◌<◌, ◌≤◌}
use native.Mathlib.Nat.{add-zero}
use native.Mathlib.Omega.{arith}
use Rattle.residues.specs.Sums.{sum}
use Rattle.residues.proofs.SumLaw.{sum_add, sum_ext, sum_scale}
use Rattle.polynomials.specs.Poly.{value_of, eval}
use Rattle.polynomials.proofs.FormLaw.{eval_value}
use Rattle.cubics.specs.Cubic.{Cubic, low_of, cubes_of, cubic_of}
use Rattle.cubics.specs.Derived.{row, eval3}

-- a sum over a triangle whose last line is 0
shrink : (n : ℕ) (S : ℕ → ℕ → ℕ) → ((i : ℕ) → i ≤ n → S i (n - i) ≡ 0) → sum (suc n) (λ i. sum (suc n - i) (S i)) ≡ sum n (λ i. sum (n - i) (S i))
unfolding sum
shrink n S z =
    ap₂ (λ (x y : ℕ). x + y)
    (sum_ext n (λ i. sum (suc n - i) (S i)) (λ i. sum (n - i) (S i)) (λ i l. ap (λ (k : ℕ). sum k (S i)) (next i n l) ∙ ap (λ (y : ℕ). sum (n - i) (S i) + y) (z i (omega arith)) ∙ add-zero _))
    (ap (λ (k : ℕ). sum k (S n)) (one n) ∙ ap (λ (k : ℕ). 0 + S n k) (sym (none n)) ∙ ap (λ (y : ℕ). 0 + y) (z n (omega arith)))
    ∙ add-zero _
  where
    next : (i n : ℕ) → i < n → suc n - i ≡ suc (n - i)
    next i n l = omega arith

    one : (n : ℕ) → suc n - n ≡ 1
    one n = omega arith

    none : (n : ℕ) → n - n ≡ 0
    none n = omega arith

-- a sum over a triangle, by sums
triangle_add : (n : ℕ) (S R : ℕ → ℕ → ℕ) (a : ℕ)
    → sum n (λ i. sum (n - i) (λ d. S i d + a * R i d)) ≡ sum n (λ i. sum (n - i) (S i)) + a * sum n (λ i. sum (n - i) (R i))
triangle_add n S R a =
    sum_ext n (λ i. sum (n - i) (λ d. S i d + a * R i d)) (λ i. sum (n - i) (S i) + a * sum (n - i) (R i))
    (λ i l. sum_add (n - i) (S i) (λ d. a * R i d) ∙ ap (λ (y : ℕ). sum (n - i) (S i) + y) (sym (sum_scale (n - i) a (R i))))
    ∙ sum_add n (λ i. sum (n - i) (S i)) (λ i. a * sum (n - i) (R i)) ∙ ap (λ (y : ℕ). sum n (λ i. sum (n - i) (S i)) + y) (sym (sum_scale n a (λ i. sum (n - i) (R i))))

-- the sum over two triangles of the same numbers
triangle_ext : (n : ℕ) (S R : ℕ → ℕ → ℕ) → ((i d : ℕ) → i < n → d < n - i → S i d ≡ R i d) → sum n (λ i. sum (n - i) (S i)) ≡ sum n (λ i. sum (n - i) (R i))
triangle_ext n S R e = sum_ext n (λ i. sum (n - i) (S i)) (λ i. sum (n - i) (R i)) (λ i l. sum_ext (n - i) (S i) (R i) (λ d m. e i d l m))

module _ (f : Cubic) (x : ℕ → ℕ) where
  -- the terms xi x(i+d) of xn
  pairs : ℕ → ℕ → ℕ → ℕ
  pairs n i d = f.cube i (i + d) n * (x i * x (i + d))

  inner : ℕ → ℕ → ℕ → ℕ
  inner n i d = sum (n - (i + d)) (λ e. f.cube i (i + d) (i + d + e) * (x i * (x (i + d) * x (i + d + e))))

  inner_more : (n i d : ℕ) → i + d ≤ n → inner (suc n) i d ≡ inner n i d + x n * pairs n i d
  unfolding inner pairs sum
  inner_more n i d l =
      ap (λ (k : ℕ). sum k (λ e. f.cube i (i + d) (i + d + e) * (x i * (x (i + d) * x (i + d + e))))) (next n (i + d) l)
      ∙ ap (λ (y : ℕ). inner n i d + y) (ap (λ (k : ℕ). f.cube i (i + d) k * (x i * (x (i + d) * x k))) (end n (i + d) l) ∙ turn (f.cube i (i + d) n) (x i) (x (i + d)) (x n))
    where
      next : (n k : ℕ) → k ≤ n → suc n - k ≡ suc (n - k)
      next n k l = omega arith

      end : (n k : ℕ) → k ≤ n → k + (n - k) ≡ n
      end n k l = omega arith

      turn : (c a b y : ℕ) → c * (a * (b * y)) ≡ y * (c * (a * b))
      turn c a b y = omega arith

  inner_none : (n i : ℕ) → i ≤ n → inner n i (n - i) ≡ 0
  unfolding inner sum
  inner_none n i l = let e : n - (i + (n - i)) ≡ 0 = omega arith in ap (λ (k : ℕ). sum k (λ e. f.cube i (i + (n - i)) (i + (n - i) + e) * (x i * (x (i + (n - i)) * x (i + (n - i) + e))))) e

  cubes_more : (n : ℕ) → cubes_of f (suc n) x ≡ cubes_of f n x + x n * sum (suc n) (λ i. sum (suc n - i) (pairs n i))
  unfolding cubes_of inner
  cubes_more n =
      triangle_ext (suc n) (inner (suc n)) (λ i d. inner n i d + x n * pairs n i d) (λ i d l m. inner_more n i d (omega arith))
      ∙ triangle_add (suc n) (inner n) (pairs n) (x n)
      ∙ ap (λ (y : ℕ). y + x n * sum (suc n) (λ i. sum (suc n - i) (pairs n i))) (shrink n (inner n) (λ i l. inner_none n i l))

  row_value : (n : ℕ) → value_of (row f n) (suc n) x ≡ f.lin n + sum (suc n) (λ i. f.quad i n * x i) + sum (suc n) (λ i. sum (suc n - i) (pairs n i))
  unfolding value_of row pairs
  row_value n = refl

  low_more : (n : ℕ) → value_of (low_of f) n x + x n * (f.lin n + sum (suc n) (λ i. f.quad i n * x i)) ≡ value_of (low_of f) (suc n) x
  unfolding eval
  low_more n = ap (λ (y : ℕ). y + x n * (f.lin n + sum (suc n) (λ i. f.quad i n * x i))) (sym (eval_value (low_of f) n x)) ∙ eval_value (low_of f) (suc n) x

  none_is : cubic_of f 0 x ≡ f.const
  unfolding cubic_of cubes_of value_of sum
  none_is = omega arith

  pub eval3_is : (n : ℕ) → eval3 f n x ≡ cubic_of f n x
  unfolding eval3 cubic_of
  eval3_is zero = sym none_is
  eval3_is (suc n) =
      ap₂ (λ (u w : ℕ). u + x n * w) (eval3_is n) (eval_value (row f n) (suc n) x ∙ row_value n)
      ∙ ring (value_of (low_of f) n x) (cubes_of f n x) (x n) (f.lin n) (sum (suc n) (λ i. f.quad i n * x i)) (sum (suc n) (λ i. sum (suc n - i) (pairs n i)))
      ∙ ap₂ (λ (u w : ℕ). u + w) (low_more n) (sym (cubes_more n))
    where
      ring : (v c x l s r : ℕ) → v + c + x * (l + s + r) ≡ v + x * (l + s) + (c + x * r)
      ring v c x l s r = omega arith

-- The first difference of a polynomial of degree 2, and how it changes from point to point.
use mathlib.Core.Path.{◌≡◌, refl, sym, ap, ap₂, ◌∙◌}
use mathlib.Core.Logic.{by_cases}
use Prim.Native.Nat.{ℕ, zero, suc, ◌+◌, ◌-◌, ◌*◌, ◌<◌, ◌≤◌, min, max}
use native.Mathlib.Nat.{min-eq_left, min-eq_right, max-eq_left, max-eq_right}
use native.Mathlib.Decide.{ℕ_discrete}
use native.Mathlib.Omega.{arith}
use Rattle.residues.specs.Sums.{sum, same}
use Rattle.polynomials.specs.Poly.{Poly, value_of, eval, slope, diff, prev}
use Rattle.residues.proofs.SumLaw.{same_self, same_other, sum_add, sum_ext, sum_none, sum_one, sum_cong}
use Rattle.residues.proofs.ModLaw.{Cong, crefl, cof, csym, ◌⨾◌, cadd, cmul}

-- the slopes
pub slope_self : (f : Poly) (b : ℕ) → slope f b b ≡ 2 * f.quad b b
unfolding slope
slope_self f b = ap₂ (λ (x y : ℕ). x * (1 + y)) (ap₂ f.quad (min-eq_left (omega arith)) (max-eq_left (omega arith))) (same_self b) ∙ omega arith

pub slope_above : (f : Poly) (b i : ℕ) → b < i → slope f b i ≡ f.quad b i
unfolding slope
slope_above f b i h =
    let l : b ≤ i = omega arith in
    ap₂ (λ (x y : ℕ). x * (1 + y)) (ap₂ f.quad (min-eq_left l) (max-eq_right l)) (same_other i b (λ e. omega arith)) ∙ omega arith

pub slope_below : (f : Poly) (b i : ℕ) → i < b → slope f b i ≡ f.quad i b
unfolding slope
slope_below f b i h =
    let l : i ≤ b = omega arith in
    ap₂ (λ (x y : ℕ). x * (1 + y)) (ap₂ f.quad (min-eq_right l) (max-eq_left l)) (same_other i b (λ e. omega arith)) ∙ omega arith

-- the sums of slopes that the walk meets
pub slope_prev : (f : Poly) (n b : ℕ) → b < n → sum n (λ k. slope f b k * same (suc k) b) ≡ prev f b
unfolding prev same
slope_prev f n zero l = sum_ext n (λ k. slope f 0 k * 0) (λ k. slope f 0 k * same k n) (λ i h. ap (λ (x : ℕ). slope f 0 i * x) (sym (same_other i n (λ e. omega arith)))) ∙ sum_none n n (slope f 0) (omega arith)
slope_prev f n (suc b) l = sum_one n b (slope f (suc b)) (omega arith) ∙ slope_below f (suc b) b (omega arith)

module _ (q : ℕ) where
  pub eval_cong : (f : Poly) (n : ℕ) (x y : ℕ → ℕ) → ((k : ℕ) → k < n → Cong q (x k) (y k)) → Cong q (eval f n x) (eval f n y)
  unfolding eval
  eval_cong f zero x y e = crefl _
  eval_cong f (suc n) x y e =
      cadd (eval_cong f n x y (λ k l. e k (omega arith)))
      (cmul (e n (omega arith)) (cadd (crefl (f.lin n)) (sum_cong q (suc n) (λ i. f.quad i n * x i) (λ i. f.quad i n * y i) (λ i l. cmul (crefl _) (e i l)))))

  -- y is x with one more at b
  unfoldable pub Next : ℕ → (ℕ → ℕ) → (ℕ → ℕ) → Type 0
  Next b x y = (k : ℕ) → Cong q (y k) (x k + same k b)

  row : (n b : ℕ) (h x y : ℕ → ℕ) → b < n → Next b x y → Cong q (sum n (λ i. h i * y i)) (sum n (λ i. h i * x i) + h b)
  unfolding Next
  row n b h x y l e =
      sum_cong q n (λ i. h i * y i) (λ i. h i * x i + h i * same i b) (λ i m. cmul (crefl (h i)) (e i) ⨾ cof (mul (h i) (x i) (same i b)))
      ⨾ cof (sum_add n (λ i. h i * x i) (λ i. h i * same i b) ∙ ap (λ (z : ℕ). sum n (λ i. h i * x i) + z) (sum_one n b h l))
    where
      mul : (a b c : ℕ) → a * (b + c) ≡ a * b + a * c
      mul a b c = omega arith

  pub at_other : (b : ℕ) (x y : ℕ → ℕ) → Next b x y → (k : ℕ) → (k ≡ b → ⊥) → Cong q (y k) (x k)
  unfolding Next
  at_other b x y e k n = e k ⨾ cof (ap (λ (z : ℕ). x k + z) (same_other k b n) ∙ omega arith)

  pub at_self : (b : ℕ) (x y : ℕ → ℕ) → Next b x y → Cong q (y b) (x b + 1)
  unfolding Next
  at_self b x y e = e b ⨾ cof (ap (λ (z : ℕ). x b + z) (same_self b))

  diff_top : (f : Poly) (n : ℕ) (x y : ℕ → ℕ) → Next n x y → Cong q (eval f (suc n) y) (eval f (suc n) x + diff f (suc n) n x)
  unfolding eval diff sum
  diff_top f n x y e =
      cadd (eval_cong f n y x (λ k l. at_other n x y e k (λ s. omega arith)))
      (cmul (at_self n x y e) (cadd (crefl (f.lin n)) (row (suc n) n (λ i. f.quad i n) x y (omega arith) e)))
      ⨾ cof (ring (eval f n x) (x n) (f.lin n) (sum n (λ i. f.quad i n * x i)) (f.quad n n) (sum n (λ i. slope f n i * x i)) (slope f n n)
      (sum_ext n (λ i. slope f n i * x i) (λ i. f.quad i n * x i) (λ i l. ap (λ (z : ℕ). z * x i) (slope_below f n i l))) (slope_self f n))
    where
      ring : (E X L S Q T M : ℕ) → T ≡ S → M ≡ 2 * Q → E + (X + 1) * (L + (S + Q * X + Q)) ≡ E + X * (L + (S + Q * X)) + (L + Q + (T + M * X))
      ring E X L S Q T M u v = rw (u, v) (omega arith)

  -- the value one further in the direction b is the value and the difference
  pub diff_is : (f : Poly) (n b : ℕ) (x y : ℕ → ℕ) → b < n → Next b x y → Cong q (eval f n y) (eval f n x + diff f n b x)
  unfolding eval diff sum
  diff_is f zero b x y l e = absurd (omega arith)
  diff_is f (suc n) b x y l e =
      by_cases (ℕ_discrete b n)
      (λ (s : b ≡ n). let d : Next n x y = rw (← s) e in rw s (diff_top f n x y d))
      (λ d.
      cadd (diff_is f n b x y (omega arith) e) (cmul (at_other b x y e n (λ s. d (sym s))) (cadd (crefl (f.lin n)) (row (suc n) b (λ i. f.quad i n) x y (omega arith) e)))
      ⨾ cof (ring (eval f n x) (x n) (f.lin n) (sum n (λ i. f.quad i n * x i)) (f.quad n n) (f.lin b + f.quad b b) (sum n (λ i. slope f b i * x i))
      (f.quad b n) (slope f b n) (slope_above f b n (omega arith))))
    where
      ring : (E X L S Q A T K M : ℕ) → M ≡ K → E + (A + T) + X * (L + (S + Q * X + K)) ≡ E + X * (L + (S + Q * X)) + (A + (T + M * X))
      ring E X L S Q A T K M u = rw u (omega arith)

  -- it is affine: points that differ by u and v have differences that differ by the slopes of u and v
  pub diff_moves : (f : Poly) (n b : ℕ) (x y u v : ℕ → ℕ) → ((k : ℕ) → Cong q (y k + u k) (x k + v k))
      → Cong q (diff f n b y + sum n (λ k. slope f b k * u k)) (diff f n b x + sum n (λ k. slope f b k * v k))
  unfolding diff
  diff_moves f n b x y u v e =
      cof (join (f.lin b + f.quad b b) y u)
      ⨾ cadd (crefl _) (sum_cong q n (λ k. slope f b k * y k + slope f b k * u k) (λ k. slope f b k * x k + slope f b k * v k)
      (λ k l. cof (mul (slope f b k) (y k) (u k)) ⨾ cmul (crefl (slope f b k)) (e k) ⨾ csym (cof (mul (slope f b k) (x k) (v k)))))
      ⨾ csym (cof (join (f.lin b + f.quad b b) x v))
    where
      mul : (a b c : ℕ) → a * b + a * c ≡ a * (b + c)
      mul a b c = omega arith

      join : (a : ℕ) (x u : ℕ → ℕ) → a + sum n (λ i. slope f b i * x i) + sum n (λ k. slope f b k * u k) ≡ a + sum n (λ k. slope f b k * x k + slope f b k * u k)
      join a x u = omega (arith, sum_add n (λ k. slope f b k * x k) (λ k. slope f b k * u k))

  -- one more at c
  pub diff_step : (f : Poly) (n b c : ℕ) (x y : ℕ → ℕ) → c < n → Next c x y → Cong q (diff f n b y) (diff f n b x + slope f b c)
  unfolding diff
  diff_step f n b c x y l e = cadd (crefl (f.lin b + f.quad b b)) (row n c (slope f b) x y l e) ⨾ cof (omega arith)

  -- at 0 the value is the constant
  pub eval_none : (f : Poly) (n : ℕ) → eval f n (λ k. 0) ≡ f.const
  unfolding eval
  eval_none f zero = refl
  eval_none f (suc n) = omega (arith, eval_none f n)

-- the value depends on the n digits alone
pub value_ext : (f : Poly) (n : ℕ) (x y : ℕ → ℕ) → ((k : ℕ) → k < n → x k ≡ y k) → value_of f n x ≡ value_of f n y
unfolding value_of
value_ext f n x y e =
    ap₂ (λ (u v : ℕ). f.const + u + v) (sum_ext n (λ i. f.lin i * x i) (λ i. f.lin i * y i) (λ i h. ap (λ (z : ℕ). f.lin i * z) (e i h)))
    (sum_ext n (λ i. sum (n - i) (λ d. f.quad i (i + d) * (x i * x (i + d)))) (λ i. sum (n - i) (λ d. f.quad i (i + d) * (y i * y (i + d))))
    (λ i h. sum_ext (n - i) (λ d. f.quad i (i + d) * (x i * x (i + d))) (λ d. f.quad i (i + d) * (y i * y (i + d)))
    (λ d l. ap₂ (λ (u v : ℕ). f.quad i (i + d) * (u * v)) (e i h) (e (i + d) (omega arith)))))

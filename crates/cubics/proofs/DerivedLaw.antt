-- The first difference of a polynomial of degree 3 is `derived`.
use mathlib.Core.Path.{◌≡◌, refl, sym, ap, ap₂, ◌∙◌}
use mathlib.Core.Logic.{by_cases}
use Prim.Native.Nat.{ℕ, zero, suc, ◌+◌, ◌*◌, ◌<◌, ◌≤◌}
use native.Mathlib.Decide.{ℕ_discrete}
use native.Mathlib.Omega.{arith}
use Rattle.polynomials.specs.Poly.{eval, slope, diff}
use Rattle.residues.specs.Sums.{sum}
use Rattle.cubics.specs.Cubic.{Cubic}
use Rattle.cubics.specs.Derived.{row, eval3, order, derived}
use Rattle.residues.proofs.ModLaw.{Cong, crefl, cof, ◌⨾◌, cadd, cmul}
use Rattle.polynomials.proofs.PolyLaw.{Next, at_other, at_self, diff_is, eval_cong}
use Rattle.residues.proofs.SumLaw.{sum_ext, sum_add}

pub order_below : (k b : ℕ) → k < b → order k b ≡ 0
unfolding order
order_below zero zero h = absurd (omega arith)
order_below zero (suc b) h = refl
order_below (suc k) zero h = absurd (omega arith)
order_below (suc k) (suc b) h = order_below k b (omega arith)

pub order_at : (b : ℕ) → order b b ≡ 1
unfolding order
order_at zero = refl
order_at (suc b) = order_at b

pub order_above : (k b : ℕ) → b < k → order k b ≡ 2
unfolding order
order_above zero b h = absurd (omega arith)
order_above (suc k) zero h = refl
order_above (suc k) (suc b) h = order_above k b (omega arith)

module _ (f : Cubic) (b : ℕ) where
  pub lin_below : (k : ℕ) → k < b → (derived f b).lin k ≡ (row f b).lin k + slope (row f b) b k
  unfolding derived
  lin_below k h = rw (order_below k b h, derived)

  pub lin_at : (derived f b).lin b ≡ (row f b).lin b + slope (row f b) b b + ((row f b).lin b + (row f b).quad b b)
  unfolding derived
  lin_at = rw (order_at b, derived)

  pub lin_above : (k : ℕ) → b < k → (derived f b).lin k ≡ (row f k).lin b + (row f k).quad b b
  unfolding derived
  lin_above k h = rw (order_above k b h, derived)

  pub quad_below : (i k : ℕ) → k < b → (derived f b).quad i k ≡ (row f b).quad i k
  unfolding derived
  quad_below i k h = rw (order_below k b h, derived)

  pub quad_at : (i : ℕ) → (derived f b).quad i b ≡ (row f b).quad i b + slope (row f b) b i
  unfolding derived
  quad_at i = rw (order_at b, derived)

  pub quad_above : (i k : ℕ) → b < k → (derived f b).quad i k ≡ slope (row f k) b i
  unfolding derived
  quad_above i k h = rw (order_above k b h, derived)

  const_is : (derived f b).const ≡ (row f b).const + ((row f b).lin b + (row f b).quad b b)
  unfolding derived
  const_is = refl

  -- up to b
  low : (m : ℕ) (x : ℕ → ℕ) → m ≤ b
      → eval (derived f b) m x ≡ eval (row f b) m x + ((row f b).lin b + (row f b).quad b b) + sum m (λ i. slope (row f b) b i * x i)
  unfolding eval sum
  low zero x h = const_is ∙ omega arith
  low (suc m) x h =
      ap₂ (λ (u v : ℕ). u + x m * v) (low m x (omega arith))
      (ap₂ (λ (u v : ℕ). u + v) (lin_below m (omega arith))
      (sum_ext (suc m) (λ i. (derived f b).quad i m * x i) (λ i. (row f b).quad i m * x i) (λ i l. ap (λ (z : ℕ). z * x i) (quad_below i m (omega arith)))))
      ∙ ring (eval (row f b) m x) ((row f b).lin b + (row f b).quad b b) (sum m (λ i. slope (row f b) b i * x i)) (x m) ((row f b).lin m) (slope (row f b) b m) (sum m (λ i. (row f b).quad i m * x i) + (row f b).quad m m * x m)
    where
      ring : (E A S X L M R : ℕ) → E + A + S + X * (L + M + R) ≡ E + X * (L + R) + A + (S + M * X)
      ring E A S X L M R = omega arith

  -- at b
  top : (x : ℕ → ℕ) → eval (derived f b) (suc b) x ≡ eval (row f b) (suc b) x + diff (row f b) (suc b) b x + x b * diff (row f b) (suc b) b x
  unfolding eval diff sum
  top x =
      ap₂ (λ (u v : ℕ). u + x b * v) (low b x (omega arith))
      (ap₂ (λ (u v : ℕ). u + v) lin_at
      (sum_ext (suc b) (λ i. (derived f b).quad i b * x i) (λ i. (row f b).quad i b * x i + slope (row f b) b i * x i) (λ i l. ap (λ (z : ℕ). z * x i) (quad_at i) ∙ mul ((row f b).quad i b) (slope (row f b) b i) (x i))
      ∙ sum_add (suc b) (λ i. (row f b).quad i b * x i) (λ i. slope (row f b) b i * x i)))
      ∙ ring (eval (row f b) b x) ((row f b).lin b + (row f b).quad b b) (sum b (λ i. slope (row f b) b i * x i)) (x b) ((row f b).lin b) (slope (row f b) b b) (sum b (λ i. (row f b).quad i b * x i) + (row f b).quad b b * x b)
    where
      mul : (a c x : ℕ) → (a + c) * x ≡ a * x + c * x
      mul a c x = omega arith

      ring : (E A S X L M R : ℕ) → E + A + S + X * (L + M + A + (R + (S + M * X))) ≡ E + X * (L + R) + (A + (S + M * X)) + X * (A + (S + M * X))
      ring E A S X L M R = omega arith

  -- above b
  above : (n : ℕ) (x : ℕ → ℕ) → b < n → eval (derived f b) (suc n) x ≡ eval (derived f b) n x + x n * diff (row f n) (suc n) b x
  unfolding eval diff
  above n x h =
      ap (λ (v : ℕ). eval (derived f b) n x + x n * v) (ap₂ (λ (u v : ℕ). u + v) (lin_above n h)
      (sum_ext (suc n) (λ i. (derived f b).quad i n * x i) (λ i. slope (row f n) b i * x i) (λ i l. ap (λ (z : ℕ). z * x i) (quad_above i n h))))

module _ (q : ℕ) where
  eval3_cong : (f : Cubic) (n b : ℕ) (x y : ℕ → ℕ) → n ≤ b → Next q b x y → Cong q (eval3 f n y) (eval3 f n x)
  unfolding eval3
  eval3_cong f zero b x y l e = crefl _
  eval3_cong f (suc n) b x y l e =
      cadd (eval3_cong f n b x y (omega arith) e)
      (cmul (at_other q b x y e n (λ s. omega arith)) (eval_cong q (row f n) (suc n) y x (λ k h. at_other q b x y e k (λ s. omega arith))))

  -- the value one further in the direction b is the value and the difference
  pub diff3_is : (f : Cubic) (n b : ℕ) (x y : ℕ → ℕ) → b < n → Next q b x y → Cong q (eval3 f n y) (eval3 f n x + eval (derived f b) n x)
  unfolding eval3
  diff3_is f zero b x y l e = absurd (omega arith)
  diff3_is f (suc n) b x y l e =
      by_cases (ℕ_discrete b n)
      (λ (s : b ≡ n). let g : Next q n x y = rw (← s) e in rw s (at_top n g))
      (λ d.
      cadd (diff3_is f n b x y (omega arith) e) (cmul (at_other q b x y e n (λ s. d (sym s))) (diff_is q (row f n) (suc n) b x y (omega arith) e))
      ⨾ cof (ring2 (eval3 f n x) (eval (derived f b) n x) (x n) (eval (row f n) (suc n) x) (diff (row f n) (suc n) b x) (eval (derived f b) (suc n) x) (above f b n x (omega arith))))
    where
      ring2 : (E H X K D T : ℕ) → T ≡ H + X * D → E + H + X * (K + D) ≡ E + X * K + T
      ring2 E H X K D T u = rw u (omega arith)

      at_top : (n : ℕ) → Next q n x y → Cong q (eval3 f n y + y n * eval (row f n) (suc n) y) (eval3 f n x + x n * eval (row f n) (suc n) x + eval (derived f n) (suc n) x)
      at_top n g =
          cadd (eval3_cong f n n x y (omega arith) g) (cmul (at_self q n x y g) (diff_is q (row f n) (suc n) n x y (omega arith) g))
          ⨾ cof (ring (eval3 f n x) (x n) (eval (row f n) (suc n) x) (diff (row f n) (suc n) n x) (eval (derived f n) (suc n) x) (top f n x))
        where
          ring : (E X K D T : ℕ) → T ≡ K + D + X * D → E + (X + 1) * (K + D) ≡ E + X * K + T
          ring E X K D T u = rw u (omega arith)

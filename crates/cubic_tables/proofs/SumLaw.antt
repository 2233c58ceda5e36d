-- The value of a cubic is the sum over its monomials, number by number.
use mathlib.Core.Path.{◌≡◌, refl, sym, ap, ap₂, ◌∙◌}
use mathlib.Core.Logic.{by_cases}
use Prim.Native.Nat.{ℕ, zero, suc, ◌+◌, ◌-◌, ◌*◌, ◌≤◌, ◌<◌}
use native.Mathlib.Decide.{ℕ_discrete}
use native.Mathlib.Omega.{arith}
use Rattle.residues.specs.Sums.{sum}
use Rattle.polynomials.specs.Poly.{value_of}
use Rattle.tables.specs.Monomials.{count_of, row_start, index_of}
use Rattle.tables.proofs.IndexLaw.{count_is, row_ge}
use Rattle.cubics.specs.Cubic.{Cubic, cubes_of, cubic_of}
use Rattle.cubic_tables.specs.Order.{triple_start, cubic_count, cubic_nth, monomials_of}
use Rattle.cubic_tables.proofs.OrderLaw.{row_zero, row_suc, start_zero, start_suc, cubic_count_is, pair_is}
use Rattle.cubic_tables.proofs.NthLaw.{cubic_nth_const, cubic_nth_lin, cubic_nth_quad, cubic_nth_cube, row_shift, index_from}

-- ---- sums
add_up : (a b : ℕ) (h : ℕ → ℕ) → sum (a + b) h ≡ sum a h + sum b (λ k. h (a + k))
unfolding sum
add_up a zero h = let e : a + 0 ≡ a = omega arith in ap (λ (x : ℕ). sum x h) e ∙ none (sum a h)
  where
    none : (x : ℕ) → x ≡ x + 0
    none x = omega arith
add_up a (suc b) h = let e : a + suc b ≡ suc (a + b) = omega arith in ap (λ (x : ℕ). sum x h) e ∙ ap (λ (x : ℕ). x + h (a + b)) (add_up a b h) ∙ left (sum a h) (sum b (λ k. h (a + k))) (h (a + b))
  where
    left : (x y z : ℕ) → x + y + z ≡ x + (y + z)
    left x y z = omega arith

sum_ext : (n : ℕ) (g h : ℕ → ℕ) → ((k : ℕ) → k < n → g k ≡ h k) → sum n g ≡ sum n h
unfolding sum
sum_ext zero g h e = refl
sum_ext (suc n) g h e = ap₂ (λ (x y : ℕ). x + y) (sum_ext n g h (λ k l. e k (omega arith))) (e n (omega arith))

sum_one : (h : ℕ → ℕ) → sum 1 h ≡ h 0
unfolding sum
sum_one h = omega arith

-- by the rows of pairs
by_rows : (n r : ℕ) (h : ℕ → ℕ) → sum (row_start n r) h ≡ sum r (λ i. sum (n - i) (λ d. h (row_start n i + d)))
unfolding sum
by_rows n zero h = ap (λ (x : ℕ). sum x h) (row_zero n)
by_rows n (suc r) h = ap (λ (x : ℕ). sum x h) (row_suc n r) ∙ add_up (row_start n r) (n - r) h ∙ ap (λ (x : ℕ). x + sum (n - r) (λ d. h (row_start n r + d))) (by_rows n r h)

-- by the planes of triples
by_planes : (n r : ℕ) (h : ℕ → ℕ) → sum (triple_start n r) h ≡ sum r (λ b. sum (row_start n n - row_start n b - 1) (λ k. h (triple_start n b + k)))
unfolding sum
by_planes n zero h = ap (λ (x : ℕ). sum x h) (start_zero n)
by_planes n (suc r) h = ap (λ (x : ℕ). sum x h) (start_suc n r) ∙ add_up (triple_start n r) (row_start n n - row_start n r - 1) h
    ∙ ap (λ (x : ℕ). x + sum (row_start n n - row_start n r - 1) (λ k. h (triple_start n r + k))) (by_planes n r h)

-- a row without its first place, which counts as 0
after : (ℕ → ℕ) → ℕ → ℕ
after h zero = 0
after h (suc k) = h k

sum_after : (w : ℕ) (h : ℕ → ℕ) → sum (suc w) (after h) ≡ sum w h
unfolding sum after
sum_after zero h = refl
sum_after (suc w) h = ap (λ (x : ℕ). x + h w) (sum_after w h)

after_some : (h : ℕ → ℕ) (k : ℕ) → 0 < k → after h k ≡ h (k - 1)
unfolding after
after_some h zero l = absurd (omega arith)
after_some h (suc k) l = let e : suc k - 1 ≡ k = omega arith in ap h (sym e)

after_none : (h : ℕ → ℕ) (k : ℕ) → k ≡ 0 → after h k ≡ 0
unfolding after
after_none h k e = rw e

-- one plane, by the pairs from b on
plane_rows : (n b : ℕ) (h : ℕ → ℕ) → b < n → sum (row_start n n - row_start n b - 1) h ≡ sum (n - b) (λ u. sum (n - b - u) (λ v. after h (row_start (n - b) u + v)))
plane_rows n b h l =
    sym (sum_after (row_start n n - row_start n b - 1) h)
    ∙ ap (λ (x : ℕ). sum x (after h)) (is (row_start n n) (row_start n b) (row_start (n - b) (n - b)) (row_shift n b n (omega arith) (omega arith)) (row_ge (n - b) (n - b) (omega arith)))
    ∙ by_rows (n - b) (n - b) (after h)
  where
    is : (x y z : ℕ) → x ≡ y + z → n - b ≤ z → suc (x - y - 1) ≡ z
    is x y z e f = omega arith

module _ (n : ℕ) (f : Cubic) (free : (i : ℕ) → f.cube i i i ≡ 0) (x : ℕ → ℕ) where
  term : ℕ → ℕ
  term k = cubic_nth n f k * cubic_nth n (monomials_of x) k

  cube_term : (b u v : ℕ) → b < n → u < n - b → v < n - b - u
      → after (λ k. term (count_of n + (triple_start n b + k))) (row_start (n - b) u + v) ≡ f.cube b (b + u) (b + u + v) * (x b * (x (b + u) * x (b + u + v)))
  unfolding term monomials_of
  cube_term b u v l m o =
      by_cases (ℕ_discrete (u + v) 0)
      (λ e.
      let p : u ≡ 0 = omega arith in
      let q : v ≡ 0 = omega arith in
      after_none (λ k. term (count_of n + (triple_start n b + k))) (row_start (n - b) u + v) (ap₂ (λ (y z : ℕ). row_start (n - b) y + z) p q ∙ omega (arith, row_zero (n - b)))
      ∙ sym (ap (λ (z : ℕ). z * (x b * (x (b + u) * x (b + u + v)))) (ap₂ (f.cube b) (at b u p) (on b u v p q) ∙ free b) ∙ nil (x b * (x (b + u) * x (b + u + v)))))
      (λ e.
      let i = index_from n b (b + u) (b + u + v) (omega arith) (omega arith) (omega arith) ∙ ap₂ (λ (y z : ℕ). count_of n + (triple_start n b + (row_start (n - b) y + z - 1))) (back b u) (back (b + u) v) in
      after_some (λ k. term (count_of n + (triple_start n b + k))) (row_start (n - b) u + v) (omega (arith, row_ge (n - b) u (omega arith)))
      ∙ ap₂ (λ (y z : ℕ). y * z) (ap (cubic_nth n f) (sym i) ∙ cubic_nth_cube n f b (b + u) (b + u + v) (omega arith) (omega arith) (omega arith) (omega arith))
      (ap (cubic_nth n (monomials_of x)) (sym i) ∙ cubic_nth_cube n (monomials_of x) b (b + u) (b + u + v) (omega arith) (omega arith) (omega arith) (omega arith)))
    where
      at : (b u : ℕ) → u ≡ 0 → b + u ≡ b
      at b u e = omega arith

      on : (b u v : ℕ) → u ≡ 0 → v ≡ 0 → b + u + v ≡ b
      on b u v e f = omega arith

      nil : (y : ℕ) → 0 * y ≡ 0
      nil y = omega arith

      back : (b u : ℕ) → b + u - b ≡ u
      back b u = omega arith

  first_term : term 0 ≡ f.const
  unfolding term monomials_of
  first_term = ap₂ (λ (y z : ℕ). y * z) (cubic_nth_const n f) (cubic_nth_const n (monomials_of x)) ∙ one f.const
    where
      one : (y : ℕ) → y * 1 ≡ y
      one y = omega arith

  lin_terms : sum n (λ k. term (1 + k)) ≡ sum n (λ i. f.lin i * x i)
  unfolding term monomials_of
  lin_terms = sum_ext n _ _ (λ i l. ap₂ (λ (y z : ℕ). y * z) (cubic_nth_lin n f i l) (cubic_nth_lin n (monomials_of x) i l))

  quad_terms : sum (row_start n n) (λ k. term (1 + (n + k))) ≡ sum n (λ i. sum (n - i) (λ d. f.quad i (i + d) * (x i * x (i + d))))
  unfolding term monomials_of
  quad_terms =
      by_rows n n (λ k. term (1 + (n + k)))
      ∙ sum_ext n _ _ (λ i l. sum_ext (n - i) _ _ (λ d m.
      let e : index_of n i (i + d) ≡ 1 + (n + (row_start n i + d)) = pair_is n i (i + d) ∙ back n i d (row_start n i) in
      ap₂ (λ (y z : ℕ). y * z) (ap (cubic_nth n f) (sym e) ∙ cubic_nth_quad n f i (i + d) (omega arith) (omega arith)) (ap (cubic_nth n (monomials_of x)) (sym e) ∙ cubic_nth_quad n (monomials_of x) i (i + d) (omega arith) (omega arith))))
    where
      back : (n i d r : ℕ) → 1 + n + (r + (i + d - i)) ≡ 1 + (n + (r + d))
      back n i d r = omega arith

  cube_terms : sum (triple_start n n) (λ k. term (count_of n + k)) ≡ sum n (λ i. sum (n - i) (λ d. sum (n - (i + d)) (λ e. f.cube i (i + d) (i + d + e) * (x i * (x (i + d) * x (i + d + e))))))
  cube_terms =
      by_planes n n (λ k. term (count_of n + k))
      ∙ sum_ext n _ _ (λ b l. plane_rows n b (λ k. term (count_of n + (triple_start n b + k))) l
      ∙ sum_ext (n - b) _ _ (λ u m. sum_ext (n - b - u) _ _ (λ v o. cube_term b u v l m o)
      ∙ ap (λ (z : ℕ). sum z (λ e. f.cube b (b + u) (b + u + e) * (x b * (x (b + u) * x (b + u + e))))) (less n b u)))
    where
      less : (n b u : ℕ) → n - b - u ≡ n - (b + u)
      less n b u = omega arith

  in_terms : cubic_of f n x ≡ sum (cubic_count n) term
  unfolding cubic_of value_of cubes_of
  in_terms =
      sym (ap (λ (k : ℕ). sum k term) (cubic_count_is n) ∙ add_up (count_of n) (triple_start n n) term
      ∙ ap₂ (λ (y z : ℕ). y + z) (ap (λ (k : ℕ). sum k term) (count_is n ∙ left n (row_start n n)) ∙ add_up 1 (n + row_start n n) term
      ∙ ap₂ (λ (y z : ℕ). y + z) (sum_one term ∙ first_term) (add_up n (row_start n n) (λ k. term (1 + k)) ∙ ap₂ (λ (y z : ℕ). y + z) lin_terms quad_terms) ∙ right f.const _ _) cube_terms)
    where
      left : (n r : ℕ) → 1 + n + r ≡ 1 + (n + r)
      left n r = omega arith

      right : (x y z : ℕ) → x + (y + z) ≡ x + y + z
      right x y z = omega arith

  -- the value: number by number, the coefficient times the monomial
  pub in_order : cubic_of f n x ≡ sum (cubic_count n) (λ k. cubic_nth n f k * cubic_nth n (monomials_of x) k)
  unfolding term
  in_order = in_terms

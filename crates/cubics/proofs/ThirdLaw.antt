-- A cubic has degree 3, its first difference is `derived`, and its third differences are the polar form of that.
use mathlib.Core.Path.{◌≡◌, refl, sym, ap, ap₂, ◌∙◌}
use mathlib.Core.Logic.{by_cases}
use Prim.Native.Nat.{ℕ, zero, suc, ◌+◌, ◌-◌, ◌*◌, ◌<◌, ◌≤◌}
use native.Mathlib.Nat.{add-zero, zero-add}
use native.Mathlib.Decide.{ℕ_discrete}
use native.Mathlib.Omega.{arith}
use Rattle.residues.specs.Sums.{sum, same}
use Rattle.residues.proofs.ModLaw.{Cong, crefl, cof, csym, ◌⨾◌, cadd, cmul, cancel, cminus}
use Rattle.residues.proofs.SumLaw.{same_self, same_other, sum_one, sum_none}
use Rattle.polynomials.specs.Poly.{Poly, eval, slope}
use Rattle.polynomials.proofs.PolyLaw.{Next, eval_cong, eval_none, slope_self, slope_above, slope_below}
use Rattle.cubics.specs.Cubic.{Cubic}
use Rattle.cubics.specs.Derived.{eval3, derived, bil}
use Rattle.held.proofs.FlatLaw.{plus, delta}
use Rattle.cubics.proofs.DerivedLaw.{diff3_is}
use Rattle.cubics.proofs.PolarLaw.{polar}

-- the polar form at two unknowns
bil_none : (h : Poly) (n i j : ℕ) → n ≤ i → bil h n (λ k. same k i) (λ k. same k j) ≡ 0
unfolding bil
bil_none h zero i j l = refl
bil_none h (suc n) i j l =
    let z : same n i ≡ 0 = same_other n i (λ e. omega arith) in
    ring (bil h n (λ k. same k i) (λ k. same k j)) (same n i) (sum (suc n) (λ k. h.quad k n * same k j)) (same n j) (sum (suc n) (λ k. h.quad k n * same k i))
    (bil_none h n i j (omega arith)) z (sum_none (suc n) i (λ k. h.quad k n) l)
  where
    ring : (B x s y t : ℕ) → B ≡ 0 → x ≡ 0 → t ≡ 0 → B + x * s + y * t ≡ 0
    ring B x s y t u v w = rw (u, v, w) (omega arith)

pub bil_turn : (h : Poly) (n : ℕ) (x y : ℕ → ℕ) → bil h n x y ≡ bil h n y x
unfolding bil
bil_turn h zero x y = refl
bil_turn h (suc n) x y = omega (arith, bil_turn h n x y)

pub bil_unit : (h : Poly) (n i j : ℕ) → i < n → j < n → bil h n (λ k. same k i) (λ k. same k j) ≡ slope h i j
unfolding bil
bil_unit h zero i j l m = absurd (omega arith)
bil_unit h (suc n) i j l m =
    let s : sum (suc n) (λ k. h.quad k n * same k j) ≡ h.quad j n = sum_one (suc n) j (λ k. h.quad k n) m in
    let t : sum (suc n) (λ k. h.quad k n * same k i) ≡ h.quad i n = sum_one (suc n) i (λ k. h.quad k n) l in
    by_cases (ℕ_discrete i n)
    (λ e. by_cases (ℕ_discrete j n)
    (λ d. ring (same n i) (same n j) s t (bil_none h n i j (omega arith)) (ap (same n) e ∙ same_self n) (ap (same n) d ∙ same_self n)
    ∙ ap₂ (λ (u v : ℕ). 0 + 1 * h.quad u n + 1 * h.quad v n) d e ∙ (double (h.quad n n) ∙ sym (slope_self h n)) ∙ ap₂ (slope h) (sym e) (sym d))
    (λ d. let o : j < n = omega arith in
    ring (same n i) (same n j) s t (bil_none h n i j (omega arith)) (ap (same n) e ∙ same_self n) (same_other n j (λ z. d (sym z)))
    ∙ one (h.quad j n) (h.quad i n) ∙ sym (slope_below h n j o) ∙ ap (λ (u : ℕ). slope h u j) (sym e)))
    (λ e. by_cases (ℕ_discrete j n)
    (λ d. let o : i < n = omega arith in
    ring (same n i) (same n j) s t (bil_turn h n (λ k. same k i) (λ k. same k j) ∙ bil_none h n j i (omega arith)) (same_other n i (λ z. e (sym z))) (ap (same n) d ∙ same_self n)
    ∙ two (h.quad j n) (h.quad i n) ∙ sym (slope_above h i n o) ∙ ap (slope h i) (sym d))
    (λ d. ring (same n i) (same n j) s t (bil_unit h n i j (omega arith) (omega arith)) (same_other n i (λ z. e (sym z))) (same_other n j (λ z. d (sym z)))
    ∙ none (slope h i j) (h.quad j n) (h.quad i n)))
  where
    ring : {B S T Q R b x' y' : ℕ} (x y : ℕ) → S ≡ Q → T ≡ R → B ≡ b → x ≡ x' → y ≡ y' → B + x * S + y * T ≡ b + x' * Q + y' * R
    ring x y s t u v w = rw (s, t, u, v, w)

    double : (a : ℕ) → 0 + 1 * a + 1 * a ≡ 2 * a
    double a = omega arith

    one : (a b : ℕ) → 0 + 1 * a + 0 * b ≡ a
    one a b = omega arith

    two : (a b : ℕ) → 0 + 0 * a + 1 * b ≡ b
    two a b = omega arith

    none : (c a b : ℕ) → c + 0 * a + 0 * b ≡ c
    none c a b = omega arith

module _ (q : ℕ) (pos : 0 < q) where
  -- the first difference
  pub first_is : (f : Cubic) (n b : ℕ) (x : ℕ → ℕ) → b < n → Cong q (delta q (λ k. same k b) (eval3 f n) x) (eval (derived f b) n x)
  unfolding Next
  first_is f n b x l =
      cadd (diff3_is q f n b x (plus x (λ k. same k b)) l (λ k. crefl (x k + same k b))) (crefl ((q - 1) * eval3 f n x))
      ⨾ cof (turn (eval3 f n x) (eval (derived f b) n x) ((q - 1) * eval3 f n x)) ⨾ cadd (crefl (eval (derived f b) n x)) (cminus q pos (eval3 f n x)) ⨾ cof (add-zero _)
    where
      turn : (a b c : ℕ) → a + b + c ≡ b + (a + c)
      turn a b c = omega arith

  -- the second difference of a polynomial of degree 2 is its polar form
  pub second_is : (h : Poly) (n : ℕ) (u v : ℕ → ℕ) → Cong q (delta q v (delta q u (eval h n)) (λ k. 0)) (bil h n v u)
  second_is h n u v =
      let H = eval h n in
      let a = at (plus (plus (λ k. 0) v) u) (λ k. v k + u k) (λ k. cof (ap (λ (x : ℕ). x + u k) (zero-add (v k)))) in
      let b = at (plus (λ k. 0) v) v (λ k. cof (zero-add (v k))) in
      let c = at (plus (λ k. 0) u) u (λ k. cof (zero-add (u k))) in
      cancel pos h.const
      (cadd (cadd (cadd a (cmul (crefl (q - 1)) b)) (cmul (crefl (q - 1)) (cadd c (cof (ap (λ (x : ℕ). (q - 1) * x) (eval_none q h n)))))) (crefl h.const)
      ⨾ cof (r1 (H (λ k. v k + u k)) (H v) (H u) h.const (q - 1))
      ⨾ cadd (cof (polar h n v u)) (crefl ((q - 1) * H v + (q - 1) * H u + (q - 1) * ((q - 1) * h.const)))
      ⨾ cof (r2 (H v) (H u) (bil h n v u) ((q - 1) * H v) ((q - 1) * H u) ((q - 1) * ((q - 1) * h.const)))
      ⨾ cadd (cadd (cadd (crefl (bil h n v u)) (twice h.const)) (cminus q pos (H v))) (cminus q pos (H u)) ⨾ cof (r3 (bil h n v u) h.const))
    where
      at : (x y : ℕ → ℕ) → ((k : ℕ) → Cong q (x k) (y k)) → Cong q (eval h n x) (eval h n y)
      at x y s = eval_cong q h n x y (λ k l. s k)

      r1 : (a b c k r : ℕ) → a + r * b + r * (c + r * k) + k ≡ a + k + (r * b + r * c + r * (r * k))
      r1 a b c k r = omega arith

      r2 : (b c w rb rc rk : ℕ) → b + c + w + (rb + rc + rk) ≡ w + rk + (b + rb) + (c + rc)
      r2 b c w rb rc rk = omega arith

      r3 : (w k : ℕ) → w + k + 0 + 0 ≡ w + k
      r3 w k = omega arith

      -- minus minus k
      twice : (k : ℕ) → Cong q ((q - 1) * ((q - 1) * k)) k
      twice k = cancel pos ((q - 1) * k) (cof (swap ((q - 1) * ((q - 1) * k)) ((q - 1) * k)) ⨾ cminus q pos ((q - 1) * k) ⨾ csym (cminus q pos k))
        where
          swap : (a b : ℕ) → a + b ≡ b + a
          swap a b = omega arith

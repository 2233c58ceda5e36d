-- The polar form of a polynomial of degree 2.
use mathlib.Core.Path.{◌≡◌, refl, sym, ap, ap₂, ◌∙◌}
use Prim.Native.Nat.{ℕ, zero, suc, ◌+◌, ◌*◌}
use native.Mathlib.Omega.{arith}
use Rattle.polynomials.specs.Poly.{Poly, eval}
use Rattle.residues.specs.Sums.{sum}
use Rattle.cubics.specs.Derived.{bil}
use Rattle.residues.proofs.SumLaw.{sum_ext, sum_both, sum_scale}

pub polar : (h : Poly) (n : ℕ) (x w : ℕ → ℕ) → eval h n (λ k. x k + w k) + h.const ≡ eval h n x + eval h n w + bil h n x w
unfolding eval bil
polar h zero x w = omega arith
polar h (suc n) x w =
    ap (λ (s : ℕ). eval h n (λ k. x k + w k) + (x n + w n) * (h.lin n + s) + h.const) (sum_both (suc n) (λ i. h.quad i n) x w)
    ∙ ring (eval h n (λ k. x k + w k)) h.const (eval h n x) (eval h n w) (bil h n x w) (x n) (w n) (h.lin n) (sum (suc n) (λ i. h.quad i n * x i)) (sum (suc n) (λ i. h.quad i n * w i)) (polar h n x w)
  where
    ring : (E c F G B X W L R S : ℕ) → E + c ≡ F + G + B → E + (X + W) * (L + (R + S)) + c ≡ F + X * (L + R) + (G + W * (L + S)) + (B + X * S + W * R)
    ring E c F G B X W L R S e = omega arith

pub bil_add : (h : Poly) (n : ℕ) (x y w : ℕ → ℕ) → bil h n (λ k. x k + y k) w ≡ bil h n x w + bil h n y w
unfolding bil
bil_add h zero x y w = refl
bil_add h (suc n) x y w =
    ap₂ (λ (u s : ℕ). u + (x n + y n) * sum (suc n) (λ i. h.quad i n * w i) + w n * s) (bil_add h n x y w) (sum_both (suc n) (λ i. h.quad i n) x y)
    ∙ ring (bil h n x w) (bil h n y w) (x n) (y n) (w n) (sum (suc n) (λ i. h.quad i n * w i)) (sum (suc n) (λ i. h.quad i n * x i)) (sum (suc n) (λ i. h.quad i n * y i))
  where
    ring : (B C X Y W S P R : ℕ) → B + C + (X + Y) * S + W * (P + R) ≡ B + X * S + W * P + (C + Y * S + W * R)
    ring B C X Y W S P R = omega arith

pub bil_scale : (h : Poly) (n a : ℕ) (x w : ℕ → ℕ) → bil h n (λ k. a * x k) w ≡ a * bil h n x w
unfolding bil
bil_scale h zero a x w = omega arith
bil_scale h (suc n) a x w =
    ap₂ (λ (u s : ℕ). u + a * x n * sum (suc n) (λ i. h.quad i n * w i) + w n * s) (bil_scale h n a x w)
    (sum_ext (suc n) (λ i. h.quad i n * (a * x i)) (λ i. a * (h.quad i n * x i)) (λ i l. turn (h.quad i n) a (x i)) ∙ sym (sum_scale (suc n) a (λ i. h.quad i n * x i)))
    ∙ ring (bil h n x w) a (x n) (sum (suc n) (λ i. h.quad i n * w i)) (w n) (sum (suc n) (λ i. h.quad i n * x i))
  where
    turn : (c a x : ℕ) → c * (a * x) ≡ a * (c * x)
    turn c a x = omega arith

    ring : (B a X S W R : ℕ) → a * B + a * X * S + W * (a * R) ≡ a * (B + X * S + W * R)
    ring B a X S W R = omega arith

pub bil_less : (h : Poly) (n r : ℕ) (x y w : ℕ → ℕ) → bil h n (λ k. x k + r * y k) w ≡ bil h n x w + r * bil h n y w
bil_less h n r x y w = bil_add h n x (λ k. r * y k) w ∙ ap (λ (z : ℕ). bil h n x w + z) (bil_scale h n r y w)

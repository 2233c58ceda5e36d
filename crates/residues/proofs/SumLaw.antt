-- Laws of finite sums and of the number that tells two indices apart.
use mathlib.Core.Path.{◌≡◌, refl, sym, ap, ap₂, ◌∙◌}
use mathlib.Core.Logic.{by_cases}
use Prim.Native.Nat.{ℕ, zero, suc, ◌+◌, ◌*◌, ◌<◌, ◌≤◌}
use native.Mathlib.Nat.{mul-zero}
use native.Mathlib.Decide.{ℕ_discrete}
use native.Mathlib.Omega.{arith}
use Rattle.residues.specs.Sums.{sum, same}
use Rattle.residues.proofs.ModLaw.{Cong, crefl, cadd}

pub same_self : (a : ℕ) → same a a ≡ 1
unfolding same
same_self zero = refl
same_self (suc a) = same_self a

pub same_other : (a b : ℕ) → (a ≡ b → ⊥) → same a b ≡ 0
unfolding same
same_other zero zero n = absurd (n refl)
same_other zero (suc b) n = refl
same_other (suc a) zero n = refl
same_other (suc a) (suc b) n = same_other a b (λ e. n (ap suc e))

pub sum_add : (n : ℕ) (h k : ℕ → ℕ) → sum n (λ i. h i + k i) ≡ sum n h + sum n k
unfolding sum
sum_add zero h k = refl
sum_add (suc n) h k = omega (arith, sum_add n h k)

pub sum_ext : (n : ℕ) (h k : ℕ → ℕ) → ((i : ℕ) → i < n → h i ≡ k i) → sum n h ≡ sum n k
unfolding sum
sum_ext zero h k e = refl
sum_ext (suc n) h k e = ap₂ (λ (x y : ℕ). x + y) (sum_ext n h k (λ i l. e i (omega arith))) (e n (omega arith))

-- a sum of which one summand stays
pub sum_none : (n c : ℕ) (h : ℕ → ℕ) → n ≤ c → sum n (λ i. h i * same i c) ≡ 0
unfolding sum
sum_none zero c h l = refl
sum_none (suc n) c h l =
    let s : same n c ≡ 0 = same_other n c (λ e. omega arith) in
    ap₂ (λ (x y : ℕ). x + h n * y) (sum_none n c h (omega arith)) s ∙ omega arith

pub sum_one : (n c : ℕ) (h : ℕ → ℕ) → c < n → sum n (λ i. h i * same i c) ≡ h c
unfolding sum
sum_one zero c h l = absurd (omega arith)
sum_one (suc n) c h l =
    by_cases (ℕ_discrete n c)
    (λ e. ap₂ (λ (x y : ℕ). x + h n * y) (sum_none n c h (omega arith)) (ap (λ (x : ℕ). same n x) (sym e) ∙ same_self n) ∙ last (h n) ∙ ap h e)
    (λ d. ap₂ (λ (x y : ℕ). x + h n * y) (sum_one n c h (omega arith)) (same_other n c d) ∙ none (h c) (h n))
  where
    last : (x : ℕ) → 0 + x * 1 ≡ x
    last x = omega arith

    none : (x y : ℕ) → x + y * 0 ≡ x
    none x y = omega arith

pub sum_zero : (n : ℕ) (h : ℕ → ℕ) → sum n (λ k. h k * 0) ≡ 0
unfolding sum
sum_zero zero h = refl
sum_zero (suc n) h = omega (arith, sum_zero n h)

pub sum_both : (n : ℕ) (h u v : ℕ → ℕ) → sum n (λ k. h k * (u k + v k)) ≡ sum n (λ k. h k * u k) + sum n (λ k. h k * v k)
sum_both n h u v = sum_ext n (λ k. h k * (u k + v k)) (λ k. h k * u k + h k * v k) (λ i l. omega arith) ∙ sum_add n (λ k. h k * u k) (λ k. h k * v k)

pub sum_twice : (n : ℕ) (h u : ℕ → ℕ) → sum n (λ k. h k * (2 * u k)) ≡ 2 * sum n (λ k. h k * u k)
unfolding sum
sum_twice zero h u = refl
sum_twice (suc n) h u = omega (arith, sum_twice n h u)

pub sum_scale : (n a : ℕ) (h : ℕ → ℕ) → a * sum n h ≡ sum n (λ i. a * h i)
unfolding sum
sum_scale zero a h = mul-zero a
sum_scale (suc n) a h = omega (arith, sum_scale n a h)

pub sum_cong : (q n : ℕ) (h k : ℕ → ℕ) → ((i : ℕ) → i < n → Cong q (h i) (k i)) → Cong q (sum n h) (sum n k)
unfolding sum
sum_cong q zero h k e = crefl 0
sum_cong q (suc n) h k e = cadd (sum_cong q n h k (λ i l. e i (omega arith))) (e n (omega arith))

-- A call cut into pieces: after k places of it, what is left of budget and room makes up the rest.
use mathlib.Core.Path.{◌≡◌, refl, sym, ap, ap₂, ◌∙◌}
use mathlib.Core.Logic.{⊎_elim, ◌⊎◌}
use mathlib.Core.List.{[]}
use Prim.Native.Nat.{ℕ, ◌+◌, ◌-◌, ◌≤◌}
use native.Mathlib.Nat.{add-zero}
use native.Mathlib.Omega.{arith}
use lib.ListN.{length, length-append}
use Rattle.walks.specs.Calls.{Trail, zeros_in, points_in, report_of, report_in}
use Rattle.walks.proofs.CallLaw.{zeros_add, points_none, points_full, points_le, zeros_room}
use Rattle.walks.proofs.JoinLaw.{join}

pub zeros_none : (T : Trail) (p : ℕ) → zeros_in T p 0 ≡ []
unfolding zeros_in
zeros_none T p = refl

pub found_add : (T : Trail) (p k j : ℕ) → length (zeros_in T p (k + j)) ≡ length (zeros_in T p k) + length (zeros_in T (p + k) j)
found_add T p k j = ap length (zeros_add T p k j) ∙ length-append (zeros_in T p k) (zeros_in T (p + k) j)

-- a call on T from place p with budget b and room for c zeros
module _ (T : Trail) (b c p : ℕ) where
  -- the zeros among its first k places
  abbrev pub found_by : ℕ → ℕ
  found_by k = length (zeros_in T p k)

  -- after k places it goes on as a call from there with what is left
  pub record Cut (k : ℕ) : Type 0 where
    pub most : k ≤ b
    pub fits : found_by k ≤ c
    pub rest : points_in T b c p ≡ k + points_in T (b - k) (c - found_by k) (p + k)

  pub cut_none : Cut 0
  cut_none =
      let z : found_by 0 ≡ 0 = ap length (zeros_none T p) in
      let e : c ≡ c - found_by 0 = omega (arith, z) in
      let i : b ≡ b - 0 = omega arith in
      let j : p ≡ p + 0 = omega arith in
      let s : points_in T b c p ≡ points_in T (b - 0) (c - found_by 0) (p + 0) =
      ap₂ (λ (x y : ℕ). points_in T x y p) i e ∙ ap (points_in T (b - 0) (c - found_by 0)) j
      in
      record { most = omega arith; fits = omega (arith, z); rest = omega (arith, s) }

  -- a piece more: a call from there with all of the budget, and room for d
  pub cut_more : (k d : ℕ) → Cut k → d ≤ c - found_by k → Cut (k + points_in T (b - k) d (p + k))
  cut_more k d h l =
      let j = points_in T (b - k) d (p + k) in
      let g = length (zeros_in T (p + k) j) in
      let f = found_add T p k j in
      let z : b - k ≡ b - k + 0 = sym (add-zero (b - k)) in
      let e : c - found_by k ≡ d + (c - found_by k - d) = omega (arith, l) in
      let x : b - k + 0 - j ≡ b - (k + j) = omega arith in
      let y : d + (c - found_by k - d) - g ≡ c - found_by (k + j) = omega (arith, l, f) in
      let q : p + k + j ≡ p + (k + j) = omega arith in
      let s : points_in T (b - k) (c - found_by k) (p + k) ≡ j + points_in T (b - (k + j)) (c - found_by (k + j)) (p + (k + j)) =
      ap₂ (λ (u v : ℕ). points_in T u v (p + k)) z e ∙ join T (b - k) d 0 (c - found_by k - d) (p + k)
      ∙ ap₂ (λ (u v : ℕ). j + points_in T u v (p + k + j)) x y ∙ ap (λ (u : ℕ). j + points_in T (b - (k + j)) (c - found_by (k + j)) u) q
      in
      record {
        most = omega (arith, h.most, points_le T (b - k) d (p + k));
        fits = omega (arith, h.fits, l, f, zeros_room T (b - k) d (p + k));
        rest = omega (arith, h.rest, s);
      }

  -- nothing is left to do: the places, the budget or the room are used up
  abbrev pub Over : ℕ → Type 0
  Over k = (p + k ≡ T.end) ⊎ (b - k ≡ 0) ⊎ (c - found_by k ≡ 0)

  spent_none : (x y : ℕ) → points_in T 0 x y ≡ 0
  unfolding points_in
  spent_none x y = refl

  pub cut_over : (k : ℕ) → Cut k → Over k → points_in T b c p ≡ k
  cut_over k h o =
      let z : points_in T (b - k) (c - found_by k) (p + k) ≡ 0 =
      ⊎_elim (λ e. points_none T (b - k) (c - found_by k) (p + k) e)
      (⊎_elim (λ e. ap (λ (x : ℕ). points_in T x (c - found_by k) (p + k)) e ∙ spent_none (c - found_by k) (p + k))
      (λ e. ap (λ (x : ℕ). points_in T (b - k) x (p + k)) e ∙ points_full T (b - k) (p + k))) o
      in
      omega (arith, h.rest, z)

  pub report_over : (k : ℕ) → Cut k → Over k → report_in T c p k ≡ report_of T b c p
  unfolding report_of
  report_over k h o = sym (ap (report_in T c p) (cut_over k h o))

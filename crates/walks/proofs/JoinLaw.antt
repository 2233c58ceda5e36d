-- A call cut in two, and two ranges of places one after the other: zeros follow each other and additions add up.
use mathlib.Core.Path.{◌≡◌, refl, sym, ap, ap₂, subst, ◌∙◌}
use mathlib.Core.Logic.{inl, inr, ⊎_elim, by_cases}
use mathlib.Core.List.{◌++◌}
use Prim.Native.Nat.{ℕ, zero, suc, ◌+◌, ◌-◌, ◌≤◌, ◌<◌}
use native.Mathlib.Nat.{add-zero}
use native.Mathlib.Decide.{dec_lt}
use native.Mathlib.Omega.{arith}
use lib.ListN.{length, length-append}
use Rattle.walks.specs.Calls.{Trail, listed, zeros_in, cost_in, points_in, FirstStop, until}
use Rattle.walks.proofs.CallLaw.{zeros_add, cost_add, first_stop, points_only, stop_room}

sum_over : (p j k : ℕ) → p + j + k ≡ p + (j + k)
sum_over p j k = omega arith

module _ (T : Trail) where
  -- ---- a call cut in two
  joined : (p k x : ℕ) → length (zeros_in T p (k + x)) ≡ length (zeros_in T p k) + length (zeros_in T (p + k) x)
  joined p k x = ap length (zeros_add T p k x) ∙ length-append (zeros_in T p k) (zeros_in T (p + k) x)

  goes_on : (b c e d p k i : ℕ) → FirstStop T b c p k → FirstStop T (b + e - k) (c + d - length (zeros_in T p k)) (p + k) i
      → (j : ℕ) → j < k + i → (p + j ≡ T.end → ⊥) × (length (zeros_in T p j) < c + d)
  goes_on b c e d p k i s t j l =
      by_cases (dec_lt j k)
      (λ m. let g = s.goes j m in (g.0, omega (arith, g.1)))
      (λ n.
      let h : j ≡ k + (j - k) = omega arith in
      let g = t.goes (j - k) (omega arith) in
      let m : p + k + (j - k) ≡ p + j = omega arith in (
        λ z. g.0 (m ∙ z),
        omega (arith, g.1, ap (λ (x : ℕ). length (zeros_in T p x)) h, joined p k (j - k)),
      ))

  stop_on : (b c e d p k i : ℕ) → FirstStop T b c p k → FirstStop T (b + e - k) (c + d - length (zeros_in T p k)) (p + k) i → FirstStop T (b + e) (c + d) p (k + i)
  stop_on b c e d p k i s t =
      let m = s.most in
      record {
        most = omega (arith, m, t.most);
        goes = goes_on b c e d p k i s t;
        here = ⊎_elim (λ z. inl (sym (sum_over p k i) ∙ z))
            (⊎_elim (λ z. inr (inl (omega (arith, z, joined p k i, stop_room T b c p k s)))) (λ z. inr (inr (omega (arith, z, m))))) t.here;
      }

  -- after a call that stopped, for whatever reason, a call with the rest of the budget and of the room stops where one call with all of both does
  pub join : (b c e d p : ℕ)
      → points_in T (b + e) (c + d) p
      ≡ points_in T b c p + points_in T (b + e - points_in T b c p) (c + d - length (zeros_in T p (points_in T b c p))) (p + points_in T b c p)
  join b c e d p =
      let k = points_in T b c p in
      let n = b + e - k in
      let r = c + d - length (zeros_in T p k) in
      sym (points_only T (b + e) (c + d) p (k + points_in T n r (p + k)) (stop_on b c e d p k (points_in T n r (p + k)) (first_stop T b c p) (first_stop T n r (p + k))))

  -- a call that filled its list goes on with the rest of the budget
  pub join_full : (b c d p : ℕ) → length (zeros_in T p (points_in T b c p)) ≡ c
      → points_in T b (c + d) p ≡ points_in T b c p + points_in T (b - points_in T b c p) d (p + points_in T b c p)
  join_full b c d p e =
      let k = points_in T b c p in
      let n : b + 0 - k ≡ b - k = omega arith in
      let r : c + d - length (zeros_in T p k) ≡ d = omega arith in
      ap (λ (x : ℕ). points_in T x (c + d) p) (sym (add-zero b)) ∙ join b c 0 d p
      ∙ ap₂ (λ (x y : ℕ). k + points_in T x y (p + k)) n r

  -- one that did not is the same with more room
  pub join_other : (b c d p : ℕ) → (length (zeros_in T p (points_in T b c p)) ≡ c → ⊥) → points_in T b (c + d) p ≡ points_in T b c p
  join_other b c d p f =
      let s = first_stop T b c p in
      sym (points_only T b (c + d) p (points_in T b c p) record {
        most = s.most;
        goes = λ j l. ((s.goes j l).0, let g = (s.goes j l).1 in omega (arith, g));
        here = ⊎_elim (λ z. inl z) (⊎_elim (λ z. absurd (f z)) (λ z. inr (inr z))) s.here;
      })

  -- one that spent its budget goes on with the rest of the room
  pub join_spent : (b c e p : ℕ) → points_in T b c p ≡ b
      → points_in T (b + e) c p ≡ b + points_in T e (c - length (zeros_in T p b)) (p + b)
  join_spent b c e p h =
      let j : points_in T (b + e) (c + 0) p ≡ b + points_in T (b + e - b) (c + 0 - length (zeros_in T p b)) (p + b) =
      subst (λ (k : ℕ). points_in T (b + e) (c + 0) p ≡ k + points_in T (b + e - k) (c + 0 - length (zeros_in T p k)) (p + k)) h (join b c e 0 p)
      in
      let n : b + e - b ≡ e = omega arith in
      let r : c + 0 - length (zeros_in T p b) ≡ c - length (zeros_in T p b) = omega arith in
      ap (λ (x : ℕ). points_in T (b + e) x p) (sym (add-zero c)) ∙ j ∙ ap₂ (λ (x y : ℕ). b + points_in T x y (p + b)) n r

  -- ---- two ranges, one after the other
  pub zeros_split : (p m e : ℕ) → p ≤ m → m ≤ e → zeros_in T p (e - p) ≡ zeros_in T p (m - p) ++ zeros_in T m (e - m)
  zeros_split p m e h l =
      let n : e - p ≡ m - p + (e - m) = omega arith in
      let x : p + (m - p) ≡ m = omega arith in
      ap (zeros_in T p) n ∙ zeros_add T p (m - p) (e - m) ∙ ap (λ (i : ℕ). zeros_in T p (m - p) ++ zeros_in T i (e - m)) x

  pub cost_split : (p m e : ℕ) → p ≤ m → m ≤ e → cost_in T p (e - p) ≡ cost_in T p (m - p) + cost_in T m (e - m)
  cost_split p m e h l =
      let n : e - p ≡ m - p + (e - m) = omega arith in
      let x : p + (m - p) ≡ m = omega arith in
      ap (cost_in T p) n ∙ cost_add T p (m - p) (e - m) ∙ ap (λ (i : ℕ). cost_in T p (m - p) + cost_in T i (e - m)) x

  -- zeros and additions do not ask for the end
  pub zeros_until : (e p k : ℕ) → zeros_in (until T e) p k ≡ zeros_in T p k
  unfolding zeros_in
  zeros_until e p zero = refl
  zeros_until e p (suc k) = ap (listed (T.zero_at p) (T.entry p)) (zeros_until e (suc p) k)

  pub cost_until : (e p k : ℕ) → cost_in (until T e) p k ≡ cost_in T p k
  unfolding cost_in
  cost_until e p zero = refl
  cost_until e p (suc k) = ap (λ (n : ℕ). T.cost p + n) (cost_until e (suc p) k)

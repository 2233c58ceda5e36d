-- A run of steps that halts where a call has to stop goes as many places as the call examines.
use mathlib.Core.Path.{◌≡◌, refl, ap, ◌∙◌}
use mathlib.Core.Bool.{Bool, true, false, ◌||◌}
use mathlib.Core.Logic.{⊎_elim}
use Prim.Native.Nat.{ℕ, ◌+◌, ◌-◌, ◌≤◌, ◌<◌}
use native.Mathlib.Omega.{arith}
use lib.Dec.{eqb}
use lib.ListN.{length}
use borrow.Author.Tests.{eq-eqb, ne_eqb}
use Rattle.walks.specs.Walk.{Walk, iterate, run_of}
use Rattle.walks.specs.Calls.{Trail, zeros_in, points_in}
use Rattle.walks.proofs.RunLaw.{run_none, run_halt, run_many}
use Rattle.walks.proofs.CallLaw.{first_stop}

module _ (T : Trail) (q : ℕ) {S : Type 0} (W : Walk S) (halt : S → Bool) (b c p : ℕ) (s : S) where
  -- the run halts exactly where the end is reached or the list is full
  abbrev pub HaltsWith : Type 0
  HaltsWith = (j : ℕ) → j ≤ points_in T b c p → halt (iterate q W j s) ≡ (eqb (p + j) T.end || eqb (length (zeros_in T p j)) c)

  stays : HaltsWith → (j : ℕ) → j < points_in T b c p → halt (iterate q W j s) ≡ false
  stays f j l =
      let g = (first_stop T b c p).goes j l in
      let m = g.1 in
      f j (omega arith) ∙ rw (ne_eqb (p + j) T.end g.0, ne_eqb (length (zeros_in T p j)) c (λ e. omega (arith, m, e)))

  or_true : (t u : Bool) → u ≡ true → (t || u) ≡ true
  or_true true u e = refl
  or_true false u e = e

  pub run_points : HaltsWith → run_of q W halt b s ≡ iterate q W (points_in T b c p) s
  run_points f =
      let k = points_in T b c p in
      let w = first_stop T b c p in
      let m = w.most in
      let h = f k (omega arith) in
      run_many q W halt k b s m (stays f)
      ∙ ⊎_elim (λ e. run_halt q W halt (b - k) (iterate q W k s) (h ∙ rw (eq-eqb (p + k) T.end e)))
      (⊎_elim (λ e. run_halt q W halt (b - k) (iterate q W k s) (h ∙ or_true (eqb (p + k) T.end) (eqb (length (zeros_in T p k)) c) (eq-eqb (length (zeros_in T p k)) c e)))
      (λ e. let z : b - k ≡ 0 = omega arith in ap (λ (n : ℕ). run_of q W halt n (iterate q W k s)) z ∙ run_none q W halt (iterate q W k s)))
      w.here

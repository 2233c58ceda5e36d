-- Steps at which a run does not halt may be taken in one.
use mathlib.Core.Path.{◌≡◌, refl, ap, ◌∙◌}
use mathlib.Core.Bool.{Bool, true, false}
use Prim.Native.Nat.{ℕ, zero, suc, ◌+◌, ◌-◌, ◌≤◌, ◌<◌}
use native.Mathlib.Omega.{arith}
use Rattle.walks.specs.Walk.{Walk, step_of, iterate, run_of}

module _ (q : ℕ) {S : Type 0} (W : Walk S) (halt : S → Bool) where
  pub run_none : (s : S) → run_of q W halt 0 s ≡ s
  unfolding run_of
  run_none s = refl

  pub run_halt : (n : ℕ) (s : S) → halt s ≡ true → run_of q W halt n s ≡ s
  unfolding run_of
  run_halt zero s e = refl
  run_halt (suc n) s e = rw (e, run_of)

  pub run_go : (n : ℕ) (s : S) → halt s ≡ false → run_of q W halt (suc n) s ≡ run_of q W halt n (step_of q W s)
  unfolding run_of
  run_go n s e = rw (e, run_of)

  -- one step, where n are left
  pub run_one : (n : ℕ) (s : S) → 0 < n → halt s ≡ false → run_of q W halt n s ≡ run_of q W halt (n - 1) (step_of q W s)
  run_one zero s h e = absurd (omega arith)
  run_one (suc n) s h e = run_go n s e ∙ ap (λ (k : ℕ). run_of q W halt k (step_of q W s)) (omega arith)

  pub run_skip : (k n : ℕ) (s : S) → ((i : ℕ) → i < k → halt (iterate q W i s) ≡ false) → run_of q W halt (k + n) s ≡ run_of q W halt n (iterate q W k s)
  unfolding iterate
  run_skip zero n s f = ap (λ (k : ℕ). run_of q W halt k s) (omega arith)
  run_skip (suc k) n s f =
      ap (λ (j : ℕ). run_of q W halt j s) (next k n) ∙ run_go (k + n) s (f 0 (omega arith))
      ∙ run_skip k n (step_of q W s) (λ i h. f (suc i) (omega arith))
    where
      next : (k n : ℕ) → suc k + n ≡ suc (k + n)
      next k n = omega arith

  -- k steps, where n are left
  pub run_many : (k n : ℕ) (s : S) → k ≤ n → ((i : ℕ) → i < k → halt (iterate q W i s) ≡ false) → run_of q W halt n s ≡ run_of q W halt (n - k) (iterate q W k s)
  run_many k n s h f = ap (λ (j : ℕ). run_of q W halt j s) (omega arith) ∙ run_skip k (n - k) s f

  -- a run is a number of steps, fewer than asked only where it halts
  pub record Steps (n : ℕ) (s : S) : Type 0 where
    pub count : ℕ
    pub most : count ≤ n
    pub same : run_of q W halt n s ≡ iterate q W count s
    pub halts : count < n → halt (iterate q W count s) ≡ true

  steps_more : (n : ℕ) (s : S) (b : Bool) → halt s ≡ b → Steps n (step_of q W s) → Steps (suc n) s
  unfolding iterate
  steps_more n s true e r = record { count = 0; most = omega arith; same = run_halt (suc n) s e; halts = λ h. e }
  steps_more n s false e r = record { count = suc r.count; most = omega arith; same = run_go n s e ∙ r.same; halts = λ h. r.halts (omega arith) }

  pub run_steps : (n : ℕ) (s : S) → Steps n s
  unfolding iterate
  run_steps zero s = record { count = 0; most = omega arith; same = run_none s; halts = λ h. absurd (omega arith) }
  run_steps (suc n) s = steps_more n s (halt s) refl (run_steps n (step_of q W s))

-- How far k places of a walk go, and that they may be taken at once where there is room. Over any walk that keeps counts.
use mathlib.Core.Path.{◌≡◌, refl, sym, ap, ◌∙◌}
use mathlib.Core.Bool.{Bool, true, false, true≢false, not, ◌&&◌, ◌||◌}
use mathlib.Core.Logic.{by_cases}
use Prim.Native.Nat.{ℕ, zero, suc, ◌+◌, ◌-◌, ◌*◌, ◌≤◌, ◌<◌}
use native.Mathlib.Decide.{ℕ_discrete}
use native.Mathlib.Omega.{arith}
use lib.Dec.{eqb}
use lib.ListN.{length}
use borrow.Author.Tests.{eq-eqb, ne_eqb}
use Rattle.walks.specs.Walk.{Walk, step_of, iterate, run_of}
use Rattle.walks.proofs.RunLaw.{run_none, run_halt, run_go, run_many, run_steps}
use Rattle.walks.proofs.FollowLaw.{Counts}

module _ (q : ℕ) {S : Type 0} (W : Walk S) (C : Counts S) (d : ℕ) where
  -- k places on: each finds at most one zero and takes at most d additions
  pub record Near (s r : S) (k : ℕ) : Type 0 where
    pub place : W.place r ≡ W.place s + k
    pub found : C.found r ≤ C.found s + k
    pub additions : C.additions r ≤ C.additions s + d * k
    pub list : length (C.list r) ≡ length (C.list s)

  -- at the end of the walk, or with the list used up
  abbrev pub halt : ℕ → S → Bool
  halt e s = eqb (W.place s) e || eqb (C.found s) (length (C.list s))

  abbrev pub search : ℕ → ℕ → S → S
  search e = run_of q W (halt e)

  -- whether to go on, as a loop over single places asks it
  abbrev pub going : ℕ → ℕ → S → Bool
  going e k s = not (eqb k 0) && not (eqb (W.place s) e) && not (eqb (C.found s) (length (C.list s)))

  pub goes : (e : ℕ) (s : S) → (W.place s ≡ e → ⊥) → (C.found s ≡ length (C.list s) → ⊥) → halt e s ≡ false
  goes e s f g = rw (ne_eqb _ _ f, ne_eqb _ _ g)

  pub ended : (e k : ℕ) (s : S) → W.place s ≡ e → search e k s ≡ s
  ended e k s h = run_halt q W (halt e) k s (rw (eq-eqb _ _ h))

  pub full : (e k : ℕ) (s : S) → C.found s ≡ length (C.list s) → search e k s ≡ s
  full e k s h = run_halt q W (halt e) k s (rw (eq-eqb _ _ h) (either (eqb (W.place s) e)))
    where
      either : (b : Bool) → (b || true) ≡ true
      either true = refl
      either false = refl

  pub spent : (e k : ℕ) (s : S) → k ≡ 0 → search e k s ≡ s
  spent e k s h = rw h (run_none q W (halt e) s)

  pub going_true : (e k : ℕ) (s : S) → going e k s ≡ true → (0 < k) × (W.place s ≡ e → ⊥) × (C.found s ≡ length (C.list s) → ⊥)
  going_true e k s h =
      by_cases (ℕ_discrete k 0) (λ a. absurd (true≢false (sym h ∙ rw (eq-eqb _ _ a))))
      (λ a. by_cases (ℕ_discrete (W.place s) e) (λ b. absurd (true≢false (sym h ∙ rw (ne_eqb _ _ a, eq-eqb _ _ b))))
      (λ b. by_cases (ℕ_discrete (C.found s) (length (C.list s))) (λ f. absurd (true≢false (sym h ∙ rw (ne_eqb _ _ a, ne_eqb _ _ b, eq-eqb _ _ f))))
      (λ f. (omega arith, b, f))))

  pub going_false : (e k : ℕ) (s : S) → going e k s ≡ false → search e k s ≡ s
  going_false e k s h =
      by_cases (ℕ_discrete k 0) (λ a. spent e k s a)
      (λ a. by_cases (ℕ_discrete (W.place s) e) (λ b. ended e k s b)
      (λ b. by_cases (ℕ_discrete (C.found s) (length (C.list s))) (λ f. full e k s f)
      (λ f. absurd (true≢false (rw (ne_eqb _ _ a, ne_eqb _ _ b, ne_eqb _ _ f) at h)))))

  module _ (near : (s : S) → Near s (step_of q W s) 1) where
    pub iterate_near : (k : ℕ) (s : S) → Near s (iterate q W k s) k
    unfolding iterate
    iterate_near zero s = record { place = omega arith; found = omega arith; additions = omega arith; list = refl }
    iterate_near (suc k) s =
        let m = near s in
        let r = iterate_near k (step_of q W s) in
        record {
          place = omega (arith, m.place, r.place);
          found = omega (arith, m.found, r.found);
          additions = omega (arith, m.additions, r.additions);
          list = r.list ∙ m.list;
        }

    -- k places at once, where there is room for them
    pub leap : (e k j : ℕ) (s : S) → k ≤ j → W.place s + k ≤ e → C.found s + k ≤ length (C.list s) → search e j s ≡ search e (j - k) (iterate q W k s)
    leap e k j s h p l =
        run_many q W (halt e) k j s h
        (λ i hi.
        let m = iterate_near i s in
        goes e (iterate q W i s) (λ z. omega (arith, m.place)) (λ z. omega (arith, m.found, m.list)))

    -- a run goes no place back, and no more than it may
    pub run_place : (e j : ℕ) (s : S) → (W.place s ≤ W.place (search e j s)) × (W.place (search e j s) ≤ W.place s + j)
    run_place e j s =
        let r = run_steps q W (halt e) j s in
        let m = iterate_near r.count s in
        rw r.same (omega (arith, m.place, r.most), omega (arith, m.place, r.most))

    -- and it goes one place at least, where it need not halt
    pub run_some : (e j : ℕ) (s : S) → 0 < j → (W.place s ≡ e → ⊥) → (C.found s ≡ length (C.list s) → ⊥) → W.place s < W.place (search e j s)
    run_some e zero s h f g = absurd (omega arith)
    run_some e (suc j) s h f g =
        let m = near s in
        let p = run_place e j (step_of q W s) in
        rw (run_go q W (halt e) j s (goes e s f g)) (omega (arith, m.place, p))

    stay : (e k : ℕ) (s r : S) → r ≡ s → search e (k - (W.place r - W.place s)) r ≡ search e k s
    stay e k s r h = rw h (ap (λ (j : ℕ). search e j s) (omega arith))

    -- a run of j places, and then of what is left of k, is a run of k
    pub resume : (e j k : ℕ) (s : S) → j ≤ k → search e (k - (W.place (search e j s) - W.place s)) (search e j s) ≡ search e k s
    resume e zero k s h = stay e k s _ (run_none q W (halt e) s)
    resume e (suc j) zero s h = absurd (omega arith)
    resume e (suc j) (suc k) s h = more (halt e s) refl (resume e j k (step_of q W s) (omega arith))
      where
        more : (b : Bool) → halt e s ≡ b
            → search e (k - (W.place (search e j (step_of q W s)) - W.place (step_of q W s))) (search e j (step_of q W s)) ≡ search e k (step_of q W s)
            → search e (suc k - (W.place (search e (suc j) s) - W.place s)) (search e (suc j) s) ≡ search e (suc k) s
        more true b ih = stay e (suc k) s _ (run_halt q W (halt e) (suc j) s b)
        more false b ih =
            let w = near s in
            let p = run_place e j (step_of q W s) in
            rw (run_go q W (halt e) j s b, run_go q W (halt e) k s b)
            (ap (λ (x : ℕ). search e x (search e j (step_of q W s))) (omega (arith, w.place, p)) ∙ ih)

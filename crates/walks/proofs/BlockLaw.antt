-- A block of q ^ l places is as many steps.
use mathlib.Core.Path.{◌≡◌, ap, ◌∙◌}
use mathlib.Core.List.{List}
use Prim.Native.Nat.{ℕ, zero, suc, ◌+◌, ◌-◌, ◌*◌, ◌^◌, ◌<◌}
use native.Mathlib.Nat.{mul-one, mul-suc, pow-zero, pow-suc}
use native.Mathlib.Omega.{arith}
use Rattle.positions.specs.Positions.{positions, reps}
use Rattle.walks.specs.Walk.{Walk, Lawful, step_of, iterate, turns, block}
use Rattle.positions.proofs.PositionLaw.{positions_reps}

module _ (q : ℕ) (two : 1 < q) {S : Type 0} (W : Walk S) (law : Lawful S W) where
  pub step_place : (s : S) → W.place (step_of q W s) ≡ suc (W.place s)
  unfolding step_of
  step_place s = law.noted _ ∙ ap suc (law.moved (positions q (W.place s)) s)

  pub iterate_place : (n : ℕ) (s : S) → W.place (iterate q W n s) ≡ W.place s + n
  unfolding iterate
  iterate_place zero s = omega arith
  iterate_place (suc n) s = omega (arith, iterate_place n (step_of q W s), step_place s)

  pub iterate_add : (a b : ℕ) (s : S) → iterate q W (a + b) s ≡ iterate q W b (iterate q W a s)
  unfolding iterate
  iterate_add zero b s = ap (λ (n : ℕ). iterate q W n s) (none b)
    where
      none : (x : ℕ) → 0 + x ≡ x
      none x = omega arith
  iterate_add (suc a) b s = ap (λ (n : ℕ). iterate q W n s) (next a b) ∙ iterate_add a b (step_of q W s)
    where
      next : (a b : ℕ) → suc a + b ≡ suc (a + b)
      next a b = omega arith

  -- the blocks of a level that are done, from what a block of it is
  turns_is : (l k : ℕ)
      → ((k : ℕ) (s : S) → W.place s ≡ q ^ l * k → iterate q W (q ^ l) s ≡ block q W l (positions q (q ^ l * k)) (W.move (positions q (q ^ l * k)) s))
      → (s : S) → W.place s ≡ q ^ l * (q * k) → (d : ℕ) → d < q
      → iterate q W (q ^ l * suc d) s ≡ turns W (block q W l) l d (positions q (q ^ l * (q * k))) (W.move (positions q (q ^ l * (q * k))) s)
  unfolding turns
  turns_is l k ih s e zero h = ap (λ (n : ℕ). iterate q W n s) (mul-one (q ^ l)) ∙ ih (q * k) s e
  turns_is l k ih s e (suc d) h =
      let r = turns_is l k ih s e d (omega arith) in
      let t = iterate q W (q ^ l * suc d) s in
      let p : W.place t ≡ q ^ l * (q * k + suc d) = iterate_place (q ^ l * suc d) s ∙ ap (λ (n : ℕ). n + q ^ l * suc d) e ∙ omega arith in
      ap (λ (n : ℕ). iterate q W n s) (mul-suc (q ^ l) (suc d)) ∙ iterate_add (q ^ l * suc d) (q ^ l) s ∙ ih (q * k + suc d) t p
      ∙ ap (λ (ps : List ℕ). block q W l ps (W.move ps t)) (positions_reps q two l k (suc d) h)
      ∙ ap (λ (u : S). block q W l (reps (suc d) l (positions q (q ^ l * (q * k)))) (W.move (reps (suc d) l (positions q (q ^ l * (q * k)))) u)) r

  pub block_is : (l k : ℕ) (s : S) → W.place s ≡ q ^ l * k
      → iterate q W (q ^ l) s ≡ block q W l (positions q (q ^ l * k)) (W.move (positions q (q ^ l * k)) s)
  unfolding block iterate step_of
  block_is zero k s e = rw (← e) (rw (pow-zero q))
  block_is (suc l) k s e =
      let w : q ^ suc l * k ≡ q ^ l * (q * k) = rw pow-suc (omega arith) in
      let n : q ^ suc l ≡ q ^ l * suc (q - 1) = pow-suc q l ∙ ap (λ (x : ℕ). q ^ l * x) (omega arith) in
      ap (λ (x : ℕ). iterate q W x s) n ∙ turns_is l k (block_is l) s (e ∙ w) (q - 1) (omega arith) ∙ rw (← w)

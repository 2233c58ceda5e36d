-- The laws of `positions`, over the base.
use mathlib.Core.Path.{◌≡◌, refl, ap, ◌∙◌}
use mathlib.Core.List.{List, [], ◌∷◌}
use Prim.Native.Nat.{ℕ, zero, suc, ◌+◌, ◌-◌, ◌*◌, ◌^◌, ◌≤◌, ◌<◌}
use native.Mathlib.Nat.{one-le-pow, mul-le-mul_left}
use native.Mathlib.Omega.{arith}
use Rattle.positions.specs.Positions.{lowest_of, positions_in, positions, reps}
use Rattle.positions.proofs.LowestLaw.{of_level}

module _ (q : ℕ) (two : 1 < q) where
  enough : (k j p : ℕ) → p ≤ k → p ≤ j → positions_in q k p ≡ positions_in q j p
  unfolding positions_in
  enough zero zero p hk hj = refl
  enough zero (suc j) zero hk hj = refl
  enough zero (suc j) (suc p) hk hj = absurd (omega arith)
  enough (suc k) zero zero hk hj = refl
  enough (suc k) zero (suc p) hk hj = absurd (omega arith)
  enough (suc k) (suc j) zero hk hj = refl
  enough (suc k) (suc j) (suc p) hk hj =
      let z : 0 < q = omega arith in
      let w = one-le-pow (lowest_of q (suc p)) q z in
      ap (λ (t : List ℕ). lowest_of q (suc p) ∷ t) (enough k j (suc p - q ^ lowest_of q (suc p)) (omega arith) (omega arith))

  pub positions_none : positions q 0 ≡ []
  unfolding positions positions_in
  positions_none = refl

  pub positions_next : (p : ℕ) → 0 < p → positions q p ≡ lowest_of q p ∷ positions q (p - q ^ lowest_of q p)
  unfolding positions positions_in
  positions_next zero h = absurd (omega arith)
  positions_next (suc p) h =
      let z : 0 < q = omega arith in
      let w = one-le-pow (lowest_of q (suc p)) q z in
      ap (λ (t : List ℕ). lowest_of q (suc p) ∷ t)
      (enough p (suc p - q ^ lowest_of q (suc p)) (suc p - q ^ lowest_of q (suc p)) (omega arith) (omega arith))

  -- one more at the digit of level l: one more l in front
  pub positions_level : (l k d : ℕ) → suc d < q → positions q (q ^ l * (q * k + suc d)) ≡ l ∷ positions q (q ^ l * (q * k + d))
  positions_level l k d h =
      let z : 0 < q = omega arith in
      let e = of_level q two l k d h in
      let m : 0 < q ^ l * (q * k + suc d) = omega (arith, one-le-pow l q z, mul-le-mul_left (q ^ l) (more (q * k) d)) in
      let r : q ^ l * (q * k + suc d) - q ^ l ≡ q ^ l * (q * k + d) = less (q ^ l) (q * k) d in
      positions_next (q ^ l * (q * k + suc d)) m ∙ rw e (rw r)
    where
      more : (x d : ℕ) → 1 ≤ x + suc d
      more x d = omega arith

      less : (w x d : ℕ) → w * (x + suc d) - w ≡ w * (x + d)
      less w x d = omega arith

  pub positions_reps : (l k d : ℕ) → d < q → positions q (q ^ l * (q * k + d)) ≡ reps d l (positions q (q ^ l * (q * k)))
  unfolding reps
  positions_reps l k zero h = ap (λ (n : ℕ). positions q (q ^ l * n)) (none (q * k))
    where
      none : (x : ℕ) → x + 0 ≡ x
      none x = omega arith
  positions_reps l k (suc d) h = positions_level l k d h ∙ ap (λ (t : List ℕ). l ∷ t) (positions_reps l k d (omega arith))

  -- the positions of a power, and of any other number above 0
  pub positions_one : (p : ℕ) → 0 < p → p - q ^ lowest_of q p ≡ 0 → positions q p ≡ lowest_of q p ∷ []
  positions_one p h e = positions_next p h ∙ ap (λ (n : ℕ). lowest_of q p ∷ positions q n) e ∙ ap (λ (t : List ℕ). lowest_of q p ∷ t) positions_none

  pub positions_two : (p : ℕ) → 0 < p → 0 < p - q ^ lowest_of q p
      → positions q p ≡ lowest_of q p ∷ lowest_of q (p - q ^ lowest_of q p) ∷ positions q (p - q ^ lowest_of q p - q ^ lowest_of q (p - q ^ lowest_of q p))
  positions_two p h e = positions_next p h ∙ ap (λ (t : List ℕ). lowest_of q p ∷ t) (positions_next (p - q ^ lowest_of q p) e)

-- Slot b of any function of points: the function after adding 1 to b, minus the function, at the point just before the latest move of b.
use mathlib.Core.Path.{◌≡◌, sym, ap, ◌∙◌}
use mathlib.Core.Logic.{by_cases}
use mathlib.Core.List.{[], ◌∷◌}
use Prim.Native.Nat.{ℕ, zero, suc, ◌+◌, ◌-◌, ◌*◌, ◌%◌, ◌<◌}
use native.Mathlib.Nat.{one-le-pow}
use native.Mathlib.Decide.{ℕ_discrete}
use native.Mathlib.Omega.{arith}
use Rattle.residues.specs.Sums.{same}
use Rattle.residues.proofs.ModLaw.{Cong, crefl, cof, csym, ◌⨾◌, cdrop, cadd}
use Rattle.positions.specs.Positions.{lowest_of, latest}
use Rattle.gray.specs.Numbers.{point_digit}
use Rattle.gray.proofs.GrayLaw.{gray_step}
use Rattle.gray.proofs.LatestLaw.{latest_start, latest_self, latest_other, latest_move}
use Rattle.held.specs.Held.{change, held, along}
use Rattle.held.proofs.FlatLaw.{Fun, Ext}
use Rattle.held.proofs.ValuesLaw.{latest_all, latest_one}
use Rattle.polynomials.specs.Poly.{bumped, change_by}

-- a latest move is above place 0
pub latest_above : (q : ℕ) (two : 1 < q) (b p : ℕ) → 0 < latest q b p
latest_above q two b zero = rw (latest_start q two b) (one-le-pow b q (omega arith))
latest_above q two b (suc p) =
    by_cases (ℕ_discrete b (lowest_of q (suc p)))
    (λ e. rw (latest_self q two b p (sym e)) (omega arith))
    (λ d. rw (latest_other q two b p d) (latest_above q two b p))

module _ (q : ℕ) (two : 1 < q) (F : Fun) (ext : Ext q F) where
  -- a move adds 1 to its first position
  bump_at : (b p k : ℕ) → lowest_of q (suc p) ≡ b → Cong q (point_digit q (suc p) k) (bumped q b (point_digit q p) k)
  unfolding bumped
  bump_at b p k e = gray_step q two k p ⨾ cof (ap (λ (x : ℕ). point_digit q p k + same k x) e) ⨾ csym (cdrop _)

  change_one : (b P : ℕ) → 0 < P → lowest_of q P ≡ b → change q (along q F) 1 P % q ≡ change_by q F b (point_digit q (P - 1))
  unfolding change change_by
  change_one b zero h e = absurd (omega arith)
  change_one b (suc p) h e =
      let m : suc p - 1 ≡ p = omega arith in
      (cof (ap (λ (x : ℕ). F (point_digit q (suc p)) + (q - 1) * F (point_digit q x)) (latest_all q two (suc p - 1)))
      ⨾ cadd (ext (point_digit q (suc p)) (bumped q b (point_digit q p)) (λ k. bump_at b p k e)) (crefl _)
      ⨾ cof (ap (λ (x : ℕ). F (bumped q b (point_digit q x)) + (q - 1) * F (point_digit q (suc p - 1))) (sym m))).same

  pub slot_by : (b p : ℕ) → held q (along q F) (b ∷ []) p % q ≡ change_by q F b (point_digit q (latest q b p - 1))
  unfolding held
  slot_by b p = ap (λ (P : ℕ). change q (along q F) 1 P % q) (latest_one q two b p) ∙ change_one b (latest q b p) (latest_above q two b p) (latest_move q two b p)

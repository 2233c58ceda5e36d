-- Slots and second slots at any place, in plain values: what opening has to work out. For values of any kind.
use mathlib.Core.Path.{◌≡◌, refl, sym, ap, ap₂, ◌∙◌}
use mathlib.Core.Bool.{Bool, true, ◌&&◌}
use mathlib.Core.Logic.{by_cases}
use mathlib.Core.List.{List, [], ◌∷◌}
use Prim.Native.Nat.{ℕ, zero, suc, ◌+◌, ◌-◌, ◌*◌, ◌/◌, ◌^◌, ◌<◌}
use native.Mathlib.Nat.{add-zero, zero-add, mul-zero}
use native.Mathlib.Decide.{ℕ_discrete}
use native.Mathlib.Omega.{arith}
use lib.Dec.{eqb}
use lib.ListN.{take}
use borrow.Author.Tests.{eq-eqb, ne_eqb}
use Rattle.positions.specs.Positions.{lowest_of, positions, latest}
use Rattle.positions.proofs.PositionLaw.{positions_next}
use Rattle.gray.proofs.LatestLaw as one
use Rattle.held.specs.Held.{begins, first_of, latest_of, change}
use Rattle.held.proofs.HeldLaw.{begins_append, latest_self, latest_other}
use Rattle.held.proofs.StemLaw.{Stem, root, grow, stem_of, place_at, grow_self, grow_other, grow_at, one_run}
use Rattle.held.proofs.NumberLaw.{fit_of, latest_number}

-- ---- the stems
one_base : (q b : ℕ) → (grow q root b).base ≡ 0
one_base q b =
    by_cases (ℕ_discrete b 0)
    (λ (e : b ≡ 0). ap (λ (x : ℕ). (grow q root x).base) e ∙ ap (λ (t : Stem). t.base) (grow_self q root))
    (λ e. ap (λ (t : Stem). t.base) (grow_other q root b e) ∙ ap (λ (x : ℕ). 0 + x) (mul-zero (q ^ 0)))

one_stem : (q b : ℕ) → place_at q (grow q root b) ≡ (λ (y : ℕ). 0 + q ^ b * (1 + y))
one_stem q b = ap₂ (λ (a r : ℕ). λ (y : ℕ). (grow q root b).base + q ^ a * (r + y)) (grow_at q root b) (one_run q b) ∙ ap (λ (x : ℕ). λ (y : ℕ). x + q ^ b * (1 + y)) (one_base q b)

module _ (q : ℕ) (two : 1 < q) where
  -- ---- no position, and one
  pub latest_all : (p : ℕ) → latest_of q [] p ≡ p
  unfolding latest_of begins first_of
  latest_all zero = refl
  latest_all (suc p) = refl

  begins_one : (b p : ℕ) → begins (b ∷ []) (positions q (suc p)) ≡ (eqb b (lowest_of q (suc p)) && true)
  unfolding begins
  begins_one b p = let h : 0 < suc p = omega arith in rw (positions_next q two (suc p) h)

  pub latest_one : (b p : ℕ) → latest_of q (b ∷ []) p ≡ latest q b p
  unfolding latest_of first_of
  latest_one b zero = add-zero (q ^ b) ∙ sym (one.latest_start q two b)
  latest_one b (suc p) =
      by_cases (ℕ_discrete b (lowest_of q (suc p)))
      (λ e. latest_self q two (b ∷ []) p (begins_one b p ∙ ap (λ (t : Bool). t && true) (eq-eqb b (lowest_of q (suc p)) e)) ∙ sym (one.latest_self q two b p (sym e)))
      (λ n. latest_other q two (b ∷ []) p (begins_one b p ∙ ap (λ (t : Bool). t && true) (ne_eqb b (lowest_of q (suc p)) n)) ∙ latest_one b p ∙ sym (one.latest_other q two b p n))

  -- ---- the latest place with the first positions b, b
  pub latest_same : (b t p : ℕ) (ps : List ℕ) → positions q t ≡ b ∷ b ∷ ps
      → latest_of q (b ∷ b ∷ []) p ≡ q ^ b * (2 + fit_of q 2 ((p - first_of q (b ∷ b ∷ [])) / q ^ b))
  unfolding stem_of
  latest_same b t p ps e =
      let g : begins (b ∷ b ∷ []) (positions q t) ≡ true = rw e (begins_append (b ∷ b ∷ []) ps) in
      let s : Stem = grow q root b in
      let m : grow q s b ≡ record { base = 0; at = b; run = 2 }
      = ap (grow q s) (sym (grow_at q root b)) ∙ grow_self q s ∙ ap₂ (λ (x r : ℕ). record { base = x; at = s.at; run = suc r }) (one_base q b) (one_run q b)
      ∙ ap (λ (a : ℕ). record { base = 0; at = a; run = 2 }) (grow_at q root b) in
      latest_number q two (b ∷ b ∷ []) t p g
      ∙ ap (λ (u : Stem). place_at q u (fit_of q u.run ((p - first_of q (b ∷ b ∷ [])) / q ^ u.at))) m ∙ zero-add _

  -- ---- b, c, where c is another
  pub latest_apart : (b c t p : ℕ) (ps : List ℕ) → positions q t ≡ b ∷ c ∷ ps → (c ≡ b → ⊥)
      → latest_of q (b ∷ c ∷ []) p ≡ q ^ b + q ^ c * (1 + fit_of q 1 ((p - first_of q (b ∷ c ∷ [])) / q ^ c))
  unfolding stem_of
  latest_apart b c t p ps e n =
      let g : begins (b ∷ c ∷ []) (positions q t) ≡ true = rw e (begins_append (b ∷ c ∷ []) ps) in
      let s : Stem = grow q root b in
      let base : s.base + q ^ s.at * s.run ≡ q ^ b
      = ap₂ (λ (x r : ℕ). x + q ^ s.at * r) (one_base q b) (one_run q b) ∙ ap (λ (a : ℕ). 0 + q ^ a * 1) (grow_at q root b) ∙ one (q ^ b) in
      let m : grow q s c ≡ record { base = q ^ b; at = c; run = 1 }
      = grow_other q s c (λ i. n (i ∙ grow_at q root b)) ∙ ap (λ (x : ℕ). record { base = x; at = c; run = 1 }) base in
      latest_number q two (b ∷ c ∷ []) t p g
      ∙ ap (λ (u : Stem). place_at q u (fit_of q u.run ((p - first_of q (b ∷ c ∷ [])) / q ^ u.at))) m
    where
      one : (w : ℕ) → 0 + w * 1 ≡ w
      one w = omega arith

  module _ (v : ℕ → ℕ) where
    -- ---- the first change, and the second
    pub change_one : (p : ℕ) → change q v 1 p ≡ v p + (q - 1) * v (p - 1)
    unfolding change
    change_one p = ap (λ (x : ℕ). v p + (q - 1) * v x) (latest_all (p - 1))

    pub change_two : (b p : ℕ) (ps : List ℕ) → positions q p ≡ b ∷ ps
        → change q v 2 p ≡ v p + (q - 1) * v (p - 1) + (q - 1) * (v (latest q b (p - 1)) + (q - 1) * v (latest q b (p - 1) - 1))
    unfolding change
    change_two b p ps e =
        let t : latest_of q (take 1 (positions q p)) (p - 1) ≡ latest q b (p - 1) = ap (λ (l : List ℕ). latest_of q (take 1 l) (p - 1)) e ∙ latest_one b (p - 1) in
        ap₂ (λ (x y : ℕ). x + (q - 1) * y) (change_one p) (ap (change q v 1) t ∙ change_one (latest q b (p - 1)))

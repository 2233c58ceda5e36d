-- The point of a place, from its positions: one more at each, and one less before it.
use mathlib.Core.Path.{◌≡◌, sym, ap, ap₂, ◌∙◌}
use mathlib.Core.List.{List, [], ◌∷◌}
use Prim.Native.Nat.{ℕ, zero, suc, ◌+◌, ◌*◌, ◌/◌, ◌%◌, ◌^◌, ◌<◌}
use native.Mathlib.Nat.{add-zero, div-eq_of_lt, mod-lt, one-le-pow}
use native.Mathlib.Omega.{arith}
use Rattle.residues.specs.Sums.{same}
use Rattle.residues.proofs.ModLaw.{Cong, crefl, cof, ◌⨾◌, cadd}
use Rattle.gray.specs.Numbers.{point_digit}
use Rattle.positions.specs.Positions.{positions}
use Rattle.gray.proofs.GrayLaw.{point_low, point_next}
use Rattle.positions.proofs.PositionLaw.{positions_none}
use Rattle.held.proofs.StemLaw.{Stem, split, positions_at}
use Rattle.held.proofs.ApartLaw.{near}

-- h at each
unfoldable pub all_of : (ℕ → ℕ) → List ℕ → ℕ
all_of h [] = 0
all_of h (b ∷ L) = h b + all_of h L

module _ (q : ℕ) (two : 1 < q) where
  pos : 0 < q
  pos = omega arith

  none_part : 0 / q ≡ 0
  none_part = div-eq_of_lt pos

  -- place 0 is the point 0
  pub point_none : (k : ℕ) → Cong q (point_digit q 0 k) 0
  point_none zero = cof (sym (add-zero _) ∙ ap (λ (x : ℕ). point_digit q 0 0 + x) (sym none_part)) ⨾ point_low q two 0
  point_none (suc k) = cof (point_next q two 0 k ∙ ap (λ (x : ℕ). point_digit q x k) none_part) ⨾ point_none k

  more : (b z k : ℕ) → (suc z % q ≡ 0 → ⊥) → Cong q (point_digit q (q ^ b * suc z) k + same (suc k) b) (point_digit q (q ^ b * z) k + same k b)
  more b z k n =
      let s : Stem = record { base = 0; at = b; run = 0 } in
      let w : 0 < q ^ b = one-le-pow b q pos in
      let r : suc z % q + 0 < q = omega (arith, mod-lt (suc z) pos) in
      cof (ap (λ (x : ℕ). point_digit q x k + same (suc k) b) (sym (none (q ^ b) (suc z)))) ⨾ near q two s w z k r n ⨾ cof (ap (λ (x : ℕ). point_digit q x k + same k b) (none (q ^ b) z))
    where
      none : (w y : ℕ) → 0 + w * (0 + y) ≡ w * y
      none w y = omega arith

  pub point_is : (L : List ℕ) (p : ℕ) → positions q p ≡ L → (k : ℕ) → Cong q (point_digit q p k + all_of (same (suc k)) L) (all_of (same k) L)
  unfolding all_of
  point_is [] zero e k = cof (add-zero _) ⨾ point_none k
  point_is [] (suc p) e k =
      let h : 0 < suc p = omega arith in
      let s = split q two (suc p) h in
      let t : positions q (suc p) ≡ s.low ∷ positions q (q ^ s.low * s.over) = ap (positions q) s.is ∙ positions_at q two s.low s.over s.digit in
      absurd (let z : ◌≡◌ {A = ℕ} 0 1 = cc in omega arith)
  point_is (b ∷ L) zero e k = absurd (let z : ◌≡◌ {A = ℕ} 0 1 = cc (positions_none q two) in omega arith)
  point_is (b ∷ L) (suc p) e k =
      let h : 0 < suc p = omega arith in
      let s = split q two (suc p) h in
      let t : positions q (suc p) ≡ s.low ∷ positions q (q ^ s.low * s.over) = ap (positions q) s.is ∙ positions_at q two s.low s.over s.digit in
      let i : s.low ≡ b = cc in
      let r : positions q (q ^ s.low * s.over) ≡ L = cc in
      let m : Cong q (point_digit q (q ^ s.low * suc s.over) k + same (suc k) s.low) (point_digit q (q ^ s.low * s.over) k + same k s.low) = more s.low s.over k s.digit in
      cof (ap₂ (λ (x y : ℕ). point_digit q x k + (same (suc k) y + all_of (same (suc k)) L)) s.is (sym i) ∙ left _ _ _)
      ⨾ cadd m (crefl (all_of (same (suc k)) L)) ⨾ cof (turn _ _ _) ⨾ cadd (crefl (same k s.low)) (point_is L (q ^ s.low * s.over) r k)
      ⨾ cof (ap (λ (y : ℕ). same k y + all_of (same k) L) i)
    where
      left : (a b c : ℕ) → a + (b + c) ≡ a + b + c
      left a b c = omega arith

      turn : (a b c : ℕ) → a + b + c ≡ b + (a + c)
      turn a b c = omega arith

-- The record at a place, from the coefficients that the code works with: they are the system's modulo 3.
use mathlib.Core.Path.{◌≡◌, sym, ap, ◌∙◌}
use mathlib.Core.Logic.{by_cases}
use mathlib.Core.List.{List}
use Prim.Native.Nat.{ℕ, ◌+◌, ◌-◌, ◌*◌, ◌%◌, ◌<◌, min, max}
use native.Mathlib.Nat.{mod-mod}
use native.Mathlib.Decide.{dec_lt}
use native.Mathlib.Omega.{arith}
use lib.ListN.{get_or}
use Rattle.residues.specs.Sums.{same}
use Rattle.residues.proofs.ModLaw.{Cong, crefl, cadd, cmul}
use Rattle.residues.proofs.SumLaw.{sum_cong}
use Rattle.trits.specs.declared.Vector.{Vector}
use Rattle.trits.specs.Trit.{Holds, of_trits, none}
use Rattle.trits.proofs.ExtLaw.{of_ext}
use Rattle.positions.specs.Positions.{latest}
use Rattle.gray.specs.Numbers.{point_digit}
use Rattle.polynomials.specs.Poly.{Poly, value_of, change_by, slope, diff}
use Rattle.polynomials.proofs.FormLaw.{diff_change}
use Rattle.tables.specs.Words.{poly_at, coefficients_of}
use Rattle.tables.proofs.AgreeLaw.{Agree}
use Rattle.tables.proofs.RoundLaw.{coefficients_hold, coefficients_table}
use Rattle.given.specs.Given.{Given, quadratic, behind, values_of}
use Rattle.given.proofs.ValuesLaw.{values_at_lem, value_agree}
use Rattle.given.specs.Slots.{value_at, slot_at, slots_at}
use Rattle.given.proofs.SlotLaw.{slot_used, slot_none, slots_are}
use Rattle.opening.specs.Parts.{Slots}
use Rattle.opening.proofs.PlaceLaw.{two}
use Rattle.trits.proofs.HoldLaw.{holds_is}

-- ---- polynomials that agree modulo q have the same changes
module _ (q n : ℕ) (f g : Poly) (a : Agree q n f g) (x : ℕ → ℕ) where
  slope_agree : (b i : ℕ) → b < n → i < n → Cong q (slope f b i) (slope g b i)
  unfolding slope
  slope_agree b i hb hi = cmul (a.quad (min b i) (max b i) (omega arith) (omega arith)) (crefl (1 + same i b))

  pub diff_agree : (b : ℕ) → b < n → Cong q (diff f n b x) (diff g n b x)
  unfolding diff
  diff_agree b h =
      cadd (cadd (a.lin b h) (a.quad b b (omega arith) h))
      (sum_cong q n (λ i. slope f b i * x i) (λ i. slope g b i * x i) (λ i l. cmul (slope_agree b i h l) (crefl (x i))))

-- ---- a table of degree 2, from its coefficients
module _ (n m : ℕ) (t : List ℕ) where
  abbrev C : List ℕ
  C = coefficients_of n m t

  abbrev g : Given
  g = quadratic n m t

  agrees : (e : ℕ) → e < m → Agree 3 n (poly_at n C e) (behind n t e)
  agrees e h = coefficients_hold n m t e h

  -- the value, from the coefficients at the digits of the point
  pub value_here : (p : ℕ) (x : ℕ → ℕ) → ((k : ℕ) → k < n → x k ≡ point_digit 3 p k)
      → of_trits m (λ e. value_of (poly_at n C e) n x) ≡ value_at g p
  unfolding value_at values_of
  value_here p x h =
      of_ext m (λ e. value_of (poly_at n C e) n x) (λ e. values_of g e (point_digit 3 p))
      (λ e l. (value_agree 3 n (poly_at n C e) (behind n t e) (agrees e l) x).same
      ∙ ap (λ (y : ℕ). y % 3) (values_at_lem g e x (point_digit 3 p) h))

  -- one slot
  pub slot_is : (q b : ℕ) (v : Vector) → b < n → Holds m (λ e. diff (poly_at n C e) n b (point_digit 3 (latest 3 b q - 1))) v → v ≡ slot_at g q b
  unfolding values_of
  slot_is q b v h d =
      let x = point_digit 3 (latest 3 b q - 1) in
      holds_is d
      ∙ of_ext m (λ e. diff (poly_at n C e) n b x) (λ e. change_by 3 (values_of g e) b x)
      (λ e l. (diff_agree 3 n (poly_at n C e) (behind n t e) (agrees e l) x b h).same ∙ sym (mod-mod (diff (behind n t e) n b x) 3)
      ∙ ap (λ (y : ℕ). y % 3) (diff_change 3 two (behind n t e) n b x h))
      ∙ sym (slot_used g q b h)

  -- all slots
  pub slots_of : (q : ℕ) (s : List Vector) → Slots n C q s → s ≡ slots_at g q 0 20
  slots_of q s w =
      slots_are g q s w.long
      (λ i l.
      by_cases (dec_lt i n)
      (λ h. slot_is q i (get_or s i none) h (w.used m (coefficients_table n m t) i h))
      (λ h. w.unused i (omega arith) ∙ sym (slot_none g q i (omega arith))))

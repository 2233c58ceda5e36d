-- Value, slots and second slots of a cubic table, from what its parts say.
use mathlib.Core.Path.{◌≡◌, sym, ap, ◌∙◌}
use mathlib.Core.Logic.{by_cases}
use mathlib.Core.List.{List, [], ◌∷◌}
use Prim.Native.Nat.{ℕ, ◌-◌, ◌%◌}
use native.Mathlib.Nat.{mod-mod}
use native.Mathlib.Decide.{dec_lt}
use native.Mathlib.Omega.{arith}
use Rattle.trits.specs.declared.Vector.{Vector}
use Rattle.trits.specs.Trit.{of_trits}
use Rattle.trits.proofs.ExtLaw.{of_ext}
use Rattle.trits.proofs.HoldLaw.{holds_is}
use Rattle.positions.specs.Positions.{latest}
use Rattle.gray.specs.Numbers.{point_digit}
use Rattle.held.specs.Held.{held, along}
use Rattle.polynomials.specs.Poly.{change_by}
use Rattle.polynomials.proofs.ChangeLaw.{slot_by}
use Rattle.cubics.specs.Cubic.{cubic_of}
use Rattle.cubic_tables.specs.Words.{CubicTable}
use Rattle.cubic_slots.specs.Slots.{CubicSlots}
use Rattle.seconds.specs.Seconds.{Seconds}
use Rattle.given.specs.Given.{Given, cubic, cubic_behind, values_of}
use Rattle.given.specs.Slots.{value_at, slots_at, seconds_at}
use Rattle.given.proofs.ValuesLaw.{ext_values}
use Rattle.given.proofs.SlotLaw.{slot_used, slot_none, slots_are, second_used, second_none, seconds_are}
use Rattle.cubic_opening.specs.declared.Stood.{Stood}
use Rattle.cubic_opening.specs.Parts.{At}

module _ (n m : ℕ) (t : List ℕ) (table : CubicTable n m t) (q : ℕ) where
  abbrev g : Given
  g = cubic n m t

  -- slot b is the change just before the latest move of b
  slot_here : (b e : ℕ) → held 3 (along 3 (values_of g e)) (b ∷ []) q % 3 ≡ change_by 3 (values_of g e) b (point_digit 3 (latest 3 b q - 1)) % 3
  slot_here b e =
      sym (mod-mod (held 3 (along 3 (values_of g e)) (b ∷ []) q) 3)
      ∙ ap (λ (x : ℕ). x % 3) (slot_by 3 (omega arith) (values_of g e) (ext_values 3 (omega arith) g e) b q)

  slots_here : (s : List Vector) → CubicSlots n t q s → s ≡ slots_at g q 0 20
  unfolding values_of
  slots_here s w =
      slots_are g q s w.long
      (λ b l. by_cases (dec_lt b n)
      (λ h. holds_is (w.used m table b h)
      ∙ of_ext m (λ e. held 3 (along 3 (values_of g e)) (b ∷ []) q) (λ e. change_by 3 (values_of g e) b (point_digit 3 (latest 3 b q - 1))) (λ e i. slot_here b e)
      ∙ sym (slot_used g q b h))
      (λ h. w.unused b (omega arith) ∙ sym (slot_none g q b (omega arith))))

  seconds_here : (s : List ℕ) → Seconds n t q s → s ≡ seconds_at g q 0 20
  unfolding values_of
  seconds_here s w =
      seconds_are g q s w.long
      (λ b c o l. by_cases (dec_lt c n)
      (λ h. holds_is (w.used m table b c o h) ∙ sym (second_used n m t q b c h))
      (λ h. w.unused b c o (omega arith) l ∙ sym (second_none n m t q b c (omega arith))))

  -- all of it, from what the calls say
  pub stood : (r : Stood) → r.value ≡ of_trits m (λ e. cubic_of (cubic_behind n t e) n (point_digit 3 q)) → CubicSlots n t q r.slots → Seconds n t q r.seconds → At g q r
  unfolding value_at values_of
  stood r v s u = record { value = v; slots = slots_here r.slots s; seconds = seconds_here r.seconds u }

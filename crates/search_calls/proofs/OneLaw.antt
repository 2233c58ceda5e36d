-- With one unknown a table is the same in both degrees: its system is, and its records are where the second slot (0, 0) is zero.
use mathlib.Core.Path.{◌≡◌, refl, sym, ap, ◌∙◌}
use mathlib.Core.List.{List, [], ◌∷◌}
use Prim.Native.Nat.{ℕ, zero, suc, ◌+◌, ◌-◌, ◌*◌, ◌≤◌}
use native.Mathlib.Omega.{arith}
use lib.Dec.{ltb}
use lib.ListN.{length, take}
use Rattle.refusals.specs.Choice.{pick}
use Rattle.residues.specs.Sums.{sum, same}
use Rattle.trits.specs.Trit.{of_trits, none}
use Rattle.positions.specs.Positions.{positions, latest}
use Rattle.gray.specs.Numbers.{point_digit}
use Rattle.held.specs.Held.{along, latest_of, first_of, change, entry}
use Rattle.polynomials.specs.Poly.{Poly, value_of, change_by, back_of}
use Rattle.cubics.specs.Cubic.{Cubic, low_of, cubes_of, cubic_of}
use Rattle.cubics.specs.Whole.{cubes_from, cubes_back, low_table, back_cubic}
use Rattle.tables.specs.Words.{poly_at}
use Rattle.cubic_tables.specs.Words.{cubic_at}
use Rattle.given.specs.Given.{quadratic, cubic, behind, cubic_behind, values_of}
use Rattle.given.specs.Slots.{value_at, slot_at, slots_at, second_at, seconds_at}
use Rattle.given.proofs.SlotLaw.{slots_length, slots_at_lem, slots_are, second_none, second_two, seconds_long, seconds_at_lem, seconds_are}
use Rattle.opening.specs.Opened.{opened_at}

-- there is no term of degree 3
cubes_none : (t : Cubic) (x : ℕ → ℕ) → cubes_of (cubes_back t) 1 x ≡ 0
unfolding cubes_of cubes_from sum same
cubes_none t x = omega arith

change_none : (v : ℕ → ℕ) → ((p : ℕ) → v p ≡ 0) → (k p : ℕ) → change 3 v k p ≡ 0
unfolding change
change_none v z zero p = z p
change_none v z (suc k) p =
    let a = change_none v z k p in
    let b = change_none v z k (latest_of 3 (take k (positions 3 p)) (p - 1)) in
    omega (arith, a, b)

entry_none : (t : Cubic) (L : List ℕ) → entry 3 (along 3 (cubes_of (cubes_back t) 1)) L ≡ 0
unfolding entry
entry_none t L = change_none (along 3 (cubes_of (cubes_back t) 1)) (λ p. cubes_none t (point_digit 3 p)) (length L) (first_of 3 L)

low_table_lem : (t : Cubic) → low_table 1 t ≡ low_of t
low_table_lem t i = record {
  const = t.const;
  lin = λ b. plain (t.lin b) (entry 3 (along 3 (cubes_of (cubes_back t) 1)) (b ∷ [])) (entry_none t (b ∷ [])) i;
  quad = λ b c. plain (t.quad b c) (entry 3 (along 3 (cubes_of (cubes_back t) 1)) (b ∷ c ∷ [])) (entry_none t (b ∷ c ∷ [])) i;
}
  where
    plain : (x y : ℕ) → y ≡ 0 → x + 2 * y ≡ x
    plain x y e = omega (arith, e)

back_none : (t : Cubic) (x : ℕ → ℕ) → cubes_of (back_cubic 1 t) 1 x ≡ 0
unfolding back_cubic cubes_of cubes_from sum same
back_none t x = omega arith

back_low : (t : Cubic) → low_of (back_cubic 1 t) ≡ back_of 3 2 (low_table 1 t)
unfolding back_cubic
back_low t = refl

low_at : (t : List ℕ) (e : ℕ) → low_of (cubic_at 1 t e) ≡ poly_at 1 t e
unfolding cubic_at poly_at
low_at t e = refl

-- so the system is the same
value_one : (t : List ℕ) (e : ℕ) (x : ℕ → ℕ) → cubic_of (cubic_behind 1 t e) 1 x ≡ value_of (behind 1 t e) 1 x
unfolding cubic_of
value_one t e x =
    let c = cubic_at 1 t e in
    let low : low_of (back_cubic 1 c) ≡ back_of 3 2 (poly_at 1 t e) = back_low c ∙ ap (back_of 3 2) (low_table_lem c ∙ low_at t e) in
    ap (λ (f : Poly). value_of f 1 x + cubes_of (back_cubic 1 c) 1 x) low ∙ plain (value_of (back_of 3 2 (poly_at 1 t e)) 1 x) (cubes_of (back_cubic 1 c) 1 x) (back_none c x)
  where
    plain : (x y : ℕ) → y ≡ 0 → x + y ≡ x
    plain x y e = omega (arith, e)

module _ (m : ℕ) (t : List ℕ) where
  pub values_one : values_of (cubic 1 m t) ≡ values_of (quadratic 1 m t)
  unfolding values_of
  values_one i e x = value_one t e x i

  value_same : (q : ℕ) → value_at (cubic 1 m t) q ≡ value_at (quadratic 1 m t) q
  unfolding value_at
  value_same q = ap (λ (F : ℕ → (ℕ → ℕ) → ℕ). of_trits m (λ e. F e (point_digit 3 q))) values_one

  slot_same : (q b : ℕ) → slot_at (cubic 1 m t) q b ≡ slot_at (quadratic 1 m t) q b
  unfolding slot_at
  slot_same q b = ap (λ (F : ℕ → (ℕ → ℕ) → ℕ). pick (ltb b 1) (of_trits m (λ e. change_by 3 (F e) b (point_digit 3 (latest 3 b q - 1)))) none) values_one

  slots_same : (q : ℕ) → slots_at (cubic 1 m t) q 0 20 ≡ slots_at (quadratic 1 m t) q 0 20
  slots_same q =
      slots_are (quadratic 1 m t) q (slots_at (cubic 1 m t) q 0 20) (slots_length (cubic 1 m t) q 0 20)
      (λ b h. slots_at_lem (cubic 1 m t) q 20 b h ∙ slot_same q b)

  seconds_same : (q : ℕ) → second_at (cubic 1 m t) q 0 0 ≡ none → seconds_at (cubic 1 m t) q 0 20 ≡ seconds_at (quadratic 1 m t) q 0 20
  seconds_same q z =
      seconds_are (quadratic 1 m t) q (seconds_at (cubic 1 m t) q 0 20) (seconds_long (cubic 1 m t) q)
      (λ b c h l. seconds_at_lem (cubic 1 m t) q b c h l ∙ each b c h ∙ sym (second_two 1 m t q b c))
    where
      each : (b c : ℕ) → b ≤ c → second_at (cubic 1 m t) q b c ≡ none
      each b zero h = let e : b ≡ 0 = omega arith in rw (e) z
      each b (suc c) h = second_none 1 m t q b (suc c) (omega arith)

  -- and the record, where its second slot is zero
  pub record_one : (p : ℕ) → second_at (cubic 1 m t) (p - 1) 0 0 ≡ none → opened_at (cubic 1 m t) p ≡ opened_at (quadratic 1 m t) p
  unfolding opened_at
  record_one p z i =
      record { n = 1; m = m; place = record { 0 = p }; value = value_same (p - 1) i; slots = slots_same (p - 1) i; seconds = seconds_same (p - 1) z i }

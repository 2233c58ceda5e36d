-- What the entries of a table of differences are: document 01's formulas, and changes of the system from place to place.
use mathlib.Core.Path.{◌≡◌, sym, ap, ◌∙◌}
use mathlib.Core.List.{List}
use mathlib.Core.Logic.{by_cases}
use Prim.Native.Nat.{ℕ, suc, ◌+◌, ◌-◌, ◌*◌, ◌%◌, ◌^◌, ◌≤◌, ◌<◌}
use native.Mathlib.Nat.{mod-lt, one-le-pow, mod-eq_of_lt, mod-mod, mod-add-mod}
use native.Mathlib.Decide.{ℕ_discrete}
use native.Mathlib.Omega.{arith}
use Rattle.residues.proofs.ModLaw.{csmall}
use Rattle.trits.specs.Trit.{trit}
use Rattle.positions.specs.Positions.{lowest_of, latest}
use Rattle.gray.specs.Numbers.{point_digit}
use Rattle.positions.proofs.PositionLaw.{positions_two}
use Rattle.positions.proofs.LowestLaw.{of_lt}
use Rattle.polynomials.specs.Poly.{Poly, prev, change_of, diff, table_of}
use Rattle.polynomials.proofs.TableLaw.{same_is, other_is, table_lin}
use Rattle.polynomials.proofs.FormLaw.{three_same, three_other, diff_change}
use Rattle.polynomials.proofs.QuadLaw.{first_lin, slot_step}
use Rattle.tables.specs.Monomials.{index_of}
use Rattle.tables.specs.Words.{entry, poly_at, differences_of}
use Rattle.tables.specs.Differences.{Formulas}
use Rattle.trits.proofs.LegalLaw.{trit_lt}
use Rattle.tables.proofs.RoundLaw.{differences_hold}

two : 1 < 3
two = omega arith

table_const : (f : Poly) → (table_of 3 f).const % 3 ≡ f.const % 3
unfolding table_of
table_const f = mod-mod f.const 3

-- the four formulas
pub formulas : (f : Poly) → Formulas f (table_of 3 f)
unfolding prev
formulas f =
    record {
      constant = table_const f;
      single_first = omega (arith, (table_lin 3 two f 0).same);
      single = λ i. (table_lin 3 two f (suc i)).same;
      square_first = omega (arith, (three_same f 0).same);
      square = λ i. omega (arith, (three_same f (suc i)).same);
      product_first = λ j h. omega (arith, (three_other f 0 j (λ e. omega arith)).same);
      product = λ i j h. (three_other f (suc i) j (λ e. omega arith)).same;
    }

quad_small : (f : Poly) (i j : ℕ) → (table_of 3 f).quad i j < 3
quad_small f i j =
    by_cases (ℕ_discrete i j)
    (λ e. let m = mod-lt (2 * f.quad i i + (3 - 1) * prev f i) (omega arith) in rw (← e) (rw (same_is 3 two f i) m))
    (λ d. let m = mod-lt (f.quad i j + 2 * f.quad i i + 2 * ((3 - 1) * prev f i)) (omega arith) in rw (other_is 3 two f i j d) m)

module _ (n m : ℕ) (c : List ℕ) (e : ℕ) (l : e < m) where
  -- the entries of the words are the table's
  pub lin_holds : (i : ℕ) → i < n → trit (entry (differences_of n m c) (1 + i)) e ≡ (table_of 3 (poly_at n c e)).lin i
  unfolding poly_at table_of
  lin_holds i h = csmall (trit_lt (entry (differences_of n m c) (1 + i)) e) (mod-lt _ (omega arith)) ((differences_hold n m c e l).lin i h)

  lin_small : (i : ℕ) → (table_of 3 (poly_at n c e)).lin i < 3
  unfolding table_of
  lin_small i = mod-lt _ (omega arith)

  pub quad_holds : (i j : ℕ) → i ≤ j → j < n → trit (entry (differences_of n m c) (index_of n i j)) e ≡ (table_of 3 (poly_at n c e)).quad i j
  unfolding poly_at
  quad_holds i j h k =
      csmall (trit_lt (entry (differences_of n m c) (index_of n i j)) e) (quad_small (poly_at n c e) i j) ((differences_hold n m c e l).quad i j h k)

  -- the entry of xi: the change of unknown i at the point of place 3^i - 1, just before its first move
  pub single_means : (i : ℕ) → i < n → trit (entry (differences_of n m c) (1 + i)) e ≡ change_of 3 (poly_at n c e) n i (point_digit 3 (3 ^ i - 1))
  single_means i h =
      let w : suc (3 ^ i - 1) ≡ 3 ^ i = omega (arith, one-le-pow i 3 (omega arith)) in
      lin_holds i h ∙ sym (mod-eq_of_lt (lin_small i)) ∙ sym (first_lin 3 two (poly_at n c e) n i (3 ^ i - 1) h w).same
      ∙ diff_change 3 two (poly_at n c e) n i (point_digit 3 (3 ^ i - 1)) h

  -- the entry of xb xc: what the change of unknown b grows by, from its move before place p + 1 to place p + 1, whose first positions are b and c
  pub product_means : (p : ℕ) → suc p < 3 ^ n → 0 < suc p - 3 ^ lowest_of 3 (suc p)
      → let b = lowest_of 3 (suc p) in
      change_of 3 (poly_at n c e) n b (point_digit 3 (latest 3 b (suc p) - 1))
      ≡ (change_of 3 (poly_at n c e) n b (point_digit 3 (latest 3 b p - 1)) + (table_of 3 (poly_at n c e)).quad b (lowest_of 3 (suc p - 3 ^ b))) % 3
  product_means p h z =
      let f = poly_at n c e in
      let b = lowest_of 3 (suc p) in
      let k : b < n = of_lt 3 two n (suc p) (omega arith) h in
      sym (diff_change 3 two f n b (point_digit 3 (latest 3 b (suc p) - 1)) k) ∙ (slot_step 3 two f n b (lowest_of 3 (suc p - 3 ^ b)) p _ h (positions_two 3 two (suc p) (omega arith) z)).same
      ∙ sym (mod-add-mod (diff f n b (point_digit 3 (latest 3 b p - 1))) 3 ((table_of 3 f).quad b (lowest_of 3 (suc p - 3 ^ b))))
      ∙ ap (λ (x : ℕ). (x + (table_of 3 f).quad b (lowest_of 3 (suc p - 3 ^ b))) % 3) (diff_change 3 two f n b (point_digit 3 (latest 3 b p - 1)) k)

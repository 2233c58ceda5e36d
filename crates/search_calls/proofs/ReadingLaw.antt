-- The degree in which a call is read, by the tests that the code asks, and how many words its table then has.
use mathlib.Core.Path.{◌≡◌, sym, ap, ap₂, ◌∙◌}
use mathlib.Core.Bool.{Bool, true, false, not, ◌&&◌}
use mathlib.Core.List.{List}
use mathlib.Core.Logic.{by_cases}
use Prim.Native.Nat.{ℕ, ◌-◌, ◌*◌, ◌/◌, ◌≤◌}
use native.Mathlib.Decide.{ℕ_discrete}
use native.Mathlib.Omega.{arith}
use lib.Dec.{eqb}
use lib.ListN.{get_or, replicate}
use borrow.Author.Tests.{eq-eqb, ne_eqb}
use Rattle.refusals.specs.Choice.{pick}
use Rattle.tables.specs.Monomials.{count_of}
use Rattle.tables.proofs.IndexLaw.{count_le}
use Rattle.cubic_tables.proofs.OrderLaw.{cubic_count_le}
use Rattle.given.specs.declared.Degree.{Degree}
use Rattle.given.specs.declared.Degree.TheVariants.{Two, Three}
use Rattle.given.specs.Given.{Given, depth_of, count_in, table_with, degree_told}
use Rattle.given.specs.Slots.{seconds_at}
use Rattle.given.proofs.SlotLaw.{seconds_two}
use Rattle.opening.specs.Opened.{opened_at}
use Rattle.search_calls.specs.Call.{bytes_told, reading_by, reading_of}

module _ (n words high low : ℕ) where
  pub reading_told : (n ≡ 1 → ⊥) → degree_told n words ≡ reading_by n words high low
  reading_told f = sym (ap (λ (z : Bool). pick (z && not (eqb high 0 && eqb low 0)) Three (degree_told n words)) (ne_eqb n 1 f))

  pub reading_high : n ≡ 1 → (high ≡ 0 → ⊥) → Three ≡ reading_by n words high low
  reading_high e f = sym (ap₂ (λ (z y : Bool). pick (z && not (y && eqb low 0)) Three (degree_told n words)) (eq-eqb n 1 e) (ne_eqb high 0 f))

  pub reading_low : n ≡ 1 → high ≡ 0 → (low ≡ 0 → ⊥) → Three ≡ reading_by n words high low
  reading_low e h f =
      sym (ap₂ (λ (z y : Bool). pick (z && not (y && eqb low 0)) Three (degree_told n words)) (eq-eqb n 1 e) (eq-eqb high 0 h)
      ∙ ap (λ (x : Bool). pick (not x) Three (degree_told n words)) (ne_eqb low 0 f))

  pub reading_two : n ≡ 1 → high ≡ 0 → low ≡ 0 → Two ≡ reading_by n words high low
  reading_two e h l = sym (ap (λ (x : ℕ). reading_by x words high low) e ∙ ap₂ (reading_by 1 words) h l)

-- what is read in degree 2 is told so
told_two : (z : Bool) (d : Degree) → pick z Three d ≡ Two → d ≡ Two
told_two true d e = absurd (omega (arith, ap depth_of e))
told_two false d e = e

count_in_lem : (d : Degree) (n : ℕ) → n ≤ 20 → count_in d n ≤ 1751
count_in_lem Two n h = omega (arith, count_le n h)
count_in_lem Three n h = cubic_count_le n h

-- a table of the right number of bytes fits the room of its degree
module _ (n a : ℕ) (h : n ≤ 20) (e : a ≡ bytes_told n a) where
  pub two_fits : (high low : ℕ) → reading_by n (a / 8) high low ≡ Two → a / 8 ≤ 462
  two_fits high low r =
      let d : degree_told n (a / 8) ≡ Two = told_two (eqb n 1 && not (eqb high 0 && eqb low 0)) (degree_told n (a / 8)) r in
      let c : a ≡ 16 * count_of n = e ∙ ap (λ (x : Degree). 16 * count_in x n) d in
      omega (arith, c, count_le n h)

  pub three_fits : a / 8 ≤ 3502
  three_fits = omega (arith, e, count_in_lem (degree_told n (a / 8)) n h)

-- a record that was opened in the degree told is read in it
pub reading_opened : (g : Given) (words p : ℕ) → g.degree ≡ degree_told g.n words → reading_of g.n words (opened_at g p) ≡ g.degree
unfolding opened_at
reading_opened g words p told =
    let s = seconds_at g (p - 1) 0 20 in
    by_cases (ℕ_discrete g.n 1) one (λ f. sym (reading_told g.n words (get_or s 0 0) (get_or s 1 0) f) ∙ sym told)
  where
    one : g.n ≡ 1 → reading_of g.n words (opened_at g p) ≡ g.degree
    one e =
        let d : g.degree ≡ Two = told ∙ ap (λ (x : ℕ). degree_told x words) e in
        let s : (opened_at g p).seconds ≡ replicate 420 0 = ap (λ (x : Degree). seconds_at (table_with x g.n g.m g.words) (p - 1) 0 20) d
        ∙ sym (seconds_two g.n g.m g.words (p - 1)) in
        let l = seconds_at g (p - 1) 0 20 in
        sym (reading_two g.n words (get_or l 0 0) (get_or l 1 0) e (ap (λ (l : List ℕ). get_or l 0 0) s) (ap (λ (l : List ℕ). get_or l 1 0) s)) ∙ sym d

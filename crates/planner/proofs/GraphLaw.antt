-- The zeros of a graph's walk are its layouts: the table's system is the edges' modulo 3, and its common zeros are where the ends of every edge differ.
use mathlib.Core.Path.{◌≡◌, refl, sym, ap, ◌∙◌}
use mathlib.Core.Bool.{Bool, true, false, not}
use mathlib.Core.List.{List, [], ◌∷◌}
use Prim.Native.Nat.{ℕ, zero, suc, ◌-◌, ◌%◌, ◌<◌}
use native.Mathlib.Nat.{mod-lt}
use native.Mathlib.Omega.{arith}
use lib.Dec.{eqb}
use lib.ListN.{length, get_or}
use borrow.Author.Tests.{ne_eqb, eqb-false, not-true}
use Rattle.trits.proofs.Bits.{and_left, and_right}
use Rattle.gray.specs.Numbers.{point_digit, point_of}
use Rattle.polynomials.specs.Poly.{value_of, table_of}
use Rattle.polynomials.proofs.FormLaw.{half_three}
use Rattle.tables.specs.Words.{poly_at, words_of, differences_of}
use Rattle.tables.proofs.AgreeLaw.{Agree, agree_trans, back_agree, back_of_table}
use Rattle.tables.proofs.RoundLaw.{words_agree, differences_hold}
use Rattle.graphs.specs.Edges.{Ends}
use Rattle.graphs.specs.Reading.{graph, outcome_of}
use Rattle.graphs.specs.Drawn.{no_ends}
use Rattle.equations.specs.Equations.{system_of}
use Rattle.reader.proofs.ColourLaw.{colours}
use Rattle.walks.specs.Calls.{listed, zeros_in}
use Rattle.held.proofs.StandLaw.{zeros_all, all_zeros}
use Rattle.given.specs.Given.{Given, quadratic, behind, values_of}
use Rattle.given.proofs.ValuesLaw.{value_agree}
use Rattle.outcomes.specs.Search.{trail_behind}
use Rattle.planner.specs.Output.{differ_at, layouts_in}

two : 1 < 3
two = omega arith

same_bool : (a b : Bool) → (a ≡ true → b ≡ true) → (b ≡ true → a ≡ true) → a ≡ b
same_bool true b f g = sym (f refl)
same_bool false true f g = g refl
same_bool false false f g = refl

-- ---- the test of the edges, and the statement of it
differ_all : (es : List Ends) (p : ℕ) → differ_at es p ≡ true → (e : ℕ) → e < length es
    → point_digit 3 p ((get_or es e no_ends).one - 1) ≡ point_digit 3 p ((get_or es e no_ends).other - 1) → ⊥
unfolding differ_at
differ_all [] p h e l = absurd (omega arith)
differ_all (x ∷ es) p h zero l =
    eqb-false _ _ (not-true _ (and_left (not (eqb (point_digit 3 p (x.one - 1)) (point_digit 3 p (x.other - 1)))) (differ_at es p) h))
differ_all (x ∷ es) p h (suc e) l =
    differ_all es p (and_right (not (eqb (point_digit 3 p (x.one - 1)) (point_digit 3 p (x.other - 1)))) (differ_at es p) h) e (omega arith)

all_differ : (es : List Ends) (p : ℕ)
    → ((e : ℕ) → e < length es → point_digit 3 p ((get_or es e no_ends).one - 1) ≡ point_digit 3 p ((get_or es e no_ends).other - 1) → ⊥)
    → differ_at es p ≡ true
unfolding differ_at
all_differ [] p h = refl
all_differ (x ∷ es) p h = rw (ne_eqb _ _ (h 0 (omega arith)), all_differ es p (λ e l. h (suc e) (omega arith)))

digit_lt : (p i : ℕ) → point_digit 3 p i < 3
unfolding point_digit
digit_lt p i = mod-lt _ (omega arith)

module _ (text : List ℕ) (v : ℕ) (es : List Ends) (r : outcome_of text 462 ≡ graph v es) where
  abbrev words : List ℕ
  words = words_of v (length es) (system_of es)

  abbrev table : List ℕ
  table = differences_of v (length es) words

  abbrev g : Given
  g = quadratic v (length es) table

  -- equation e of the system behind the table is that of edge e, modulo 3
  agrees : (e : ℕ) → e < length es → Agree 3 v (behind v table e) (system_of es e)
  agrees e h =
      agree_trans (back_agree 3 two v (poly_at v table e) (table_of 3 (poly_at v words e)) (differences_hold v (length es) words e h) 2 half_three)
      (agree_trans (back_of_table 3 two 2 half_three v (poly_at v words e)) (words_agree v (length es) (system_of es) e h))

  same_value : (e p : ℕ) → e < length es → values_of g e (point_digit 3 p) % 3 ≡ value_of (system_of es e) v (point_digit 3 p) % 3
  unfolding values_of
  same_value e p h = (value_agree 3 v (behind v table e) (system_of es e) (agrees e h) (point_digit 3 p)).same

  -- a place is a zero of the walk exactly if the ends of every edge differ there
  pub zero_differs : (p : ℕ) → (trail_behind g).zero_at p ≡ differ_at es p
  unfolding trail_behind
  zero_differs p =
      let c = colours text 462 v es r (point_digit 3 p) (digit_lt p) in
      same_bool _ _
      (λ z. all_differ es p (c.0 (λ e h. sym (same_value e p h) ∙ zeros_all 3 (length es) (λ k. values_of g k (point_digit 3 p)) z e h)))
      (λ d. all_zeros 3 (length es) (λ k. values_of g k (point_digit 3 p)) (λ e h. same_value e p h ∙ c.1 (differ_all es p d) e h))

  entry_is : (p : ℕ) → (trail_behind g).entry p ≡ point_of 3 v p
  unfolding trail_behind
  entry_is p = refl

  -- and what the walk lists are the layouts
  pub zeros_layouts : (p k : ℕ) → zeros_in (trail_behind g) p k ≡ layouts_in v es p k
  unfolding zeros_in layouts_in
  zeros_layouts p zero = refl
  zeros_layouts p (suc k) =
      ap (listed ((trail_behind g).zero_at p) ((trail_behind g).entry p)) (zeros_layouts (suc p) k)
      ∙ ap (λ (b : Bool). listed b ((trail_behind g).entry p) (layouts_in v es (suc p) k)) (zero_differs p)
      ∙ ap (λ (x : ℕ). listed (differ_at es p) x (layouts_in v es (suc p) k)) (entry_is p)

-- The edges in order are those of the set; so what was tidied is tidied to the same text.
use mathlib.Core.Path.{◌≡◌, refl, sym, ap, ap₂, ◌∙◌}
use mathlib.Core.Bool.{Bool, true, false, ◌&&◌, ◌||◌}
use mathlib.Core.List.{List}
use mathlib.Core.Logic.{⊎_elim, by_cases}
use Prim.Native.Nat.{ℕ, zero, suc, ◌+◌, ◌/◌, ◌%◌, ◌≤◌, ◌<◌}
use native.Mathlib.Decide.{dec_lt, ℕ_discrete}
use native.Mathlib.Omega.{arith}
use lib.Dec.{ltb}
use borrow.Author.Tests.{lt-ltb, le-ltb}
use Rattle.lines.proofs.ReturnLaw.{other_true}
use Rattle.graphs.specs.Edges.{Ends, meets, has_edge}
use Rattle.graphs.specs.Reading.{vertices_most}
use Rattle.graphs.specs.Scans.{cell_of, cells}
use Rattle.graphs.proofs.EdgeLaw.{meets_self, meets_ends}
use Rattle.tidying.specs.Tidy.{graph_text, keep, cell_has, tidy_from, tidy_of, tidy_text}
use Rattle.tidying.proofs.TidyLaw.{tidy_more}

and_none : (b : Bool) → (b && false) ≡ false
and_none true = refl
and_none false = refl

and_true : (b : Bool) → (b && true) ≡ b
and_true true = refl
and_true false = refl

or_none : (b : Bool) → (b || false) ≡ b
or_none true = refl
or_none false = refl

abbrev cell_ends : ℕ → Ends
cell_ends c = record { one = c / 21; other = c % 21 }

keep_has : (q : Bool) (x : Ends) (es : List Ends) (i j : ℕ) → has_edge (keep q x es) i j ≡ ((q && meets x i j) || has_edge es i j)
unfolding has_edge
keep_has true x es i j = refl
keep_has false x es i j = refl

module _ (h : ℕ → ℕ → Bool) (i j : ℕ) (up : i < j) (most : j ≤ vertices_most) where
  -- another cell has another edge
  other : (c : ℕ) → (c ≡ cell_of i j → ⊥) → (cell_has h c && meets (cell_ends c) i j) ≡ false
  other c d =
      by_cases (dec_lt (c / 21) (c % 21))
      (λ l.
      ap (λ (q : Bool). cell_has h c && q)
      (other_true (meets (cell_ends c) i j) (λ m.
      ⊎_elim (λ e. let p : c / 21 ≡ i = e.0 in let q : c % 21 ≡ j = e.1 in d (omega arith)) (λ e. let p : c / 21 ≡ j = e.0 in let q : c % 21 ≡ i = e.1 in omega arith) (meets_ends (cell_ends c) i j m)))
      ∙ and_none (cell_has h c))
      (λ n.
      let l : c % 21 ≤ c / 21 = omega arith in
      ap (λ (q : Bool). (q && h (c / 21) (c % 21)) && meets (cell_ends c) i j) (le-ltb (c / 21) (c % 21) l))

  -- its own has it where the set has it
  here : (c : ℕ) → c ≡ cell_of i j → (cell_has h c && meets (cell_ends c) i j) ≡ h i j
  here c e =
      let p : c / 21 ≡ i = omega arith in
      let q : c % 21 ≡ j = omega arith in
      ap₂ (λ (a b : ℕ). (ltb a b && h a b) && meets (record { one = a; other = b }) i j) p q
      ∙ ap₂ (λ (s t : Bool). (s && h i j) && t) (lt-ltb i j up) (meets_self i j)
      ∙ and_true (h i j)

  step : (c k : ℕ) → has_edge (tidy_from h c (suc k)) i j ≡ ((cell_has h c && meets (cell_ends c) i j) || has_edge (tidy_from h (suc c) k) i j)
  step c k = ap (λ (es : List Ends). has_edge es i j) (tidy_more h c k) ∙ keep_has (cell_has h c) (cell_ends c) (tidy_from h (suc c) k) i j

  past : (c k : ℕ) → cell_of i j < c → has_edge (tidy_from h c k) i j ≡ false
  unfolding tidy_from has_edge
  past c zero l = refl
  past c (suc k) l = step c k ∙ ap₂ (λ (s t : Bool). s || t) (other c (λ e. omega arith)) (past (suc c) k (omega arith))

  within : (c k : ℕ) → c ≤ cell_of i j → cell_of i j < c + k → has_edge (tidy_from h c k) i j ≡ h i j
  within c zero l m = absurd (omega arith)
  within c (suc k) l m =
      step c k
      ∙ by_cases (ℕ_discrete c (cell_of i j))
      (λ e. ap₂ (λ (s t : Bool). s || t) (here c e) (past (suc c) k (omega arith)) ∙ or_none (h i j))
      (λ d. let n : ¬ (c ≡ cell_of i j) = d in ap₂ (λ (s t : Bool). s || t) (other c d) (within (suc c) k (omega arith) (omega arith)))

  -- the edges in order have an edge exactly where the set has one
  pub tidy_has : has_edge (tidy_of h) i j ≡ h i j
  tidy_has = within 0 cells (omega arith) (omega arith)

-- only the cells with the smaller vertex first are asked
tidy_upper : (f h : ℕ → ℕ → Bool) → ((i j : ℕ) → i < j → j ≤ vertices_most → f i j ≡ h i j) → (c k : ℕ) → c + k ≤ cells → tidy_from f c k ≡ tidy_from h c k
unfolding tidy_from
tidy_upper f h e c zero l = refl
tidy_upper f h e c (suc k) l = ap₂ (λ (q : Bool) (es : List Ends). keep q (cell_ends c) es) same (tidy_upper f h e (suc c) k (omega arith))
  where
    same : cell_has f c ≡ cell_has h c
    same =
        by_cases (dec_lt (c / 21) (c % 21)) (λ u. ap (λ (q : Bool). ltb (c / 21) (c % 21) && q) (e (c / 21) (c % 21) u (omega arith)))
        (λ n.
        let u : c % 21 ≤ c / 21 = omega arith in
        ap (λ (q : Bool). q && f (c / 21) (c % 21)) (le-ltb (c / 21) (c % 21) u) ∙ sym (ap (λ (q : Bool). q && h (c / 21) (c % 21)) (le-ltb (c / 21) (c % 21) u)))

-- the text of a set that was put in order is the same text: tidying again changes no byte
pub tidy_again : (v : ℕ) (es : List Ends) → tidy_text v (tidy_of (has_edge es)) ≡ tidy_text v es
tidy_again v es =
    ap (graph_text v) (tidy_upper (has_edge (tidy_of (has_edge es))) (has_edge es) (λ i j u m. tidy_has (has_edge es) i j u m) 0 cells (omega arith))

-- Reading the lines of the cells: each edge is new when its turn comes, since its cell comes after all before it.
use mathlib.Core.Path.{◌≡◌, refl, sym, ap, ap₂, ◌∙◌}
use mathlib.Core.Bool.{Bool, true, false, ◌&&◌, ◌||◌}
use mathlib.Core.List.{List, [], ◌∷◌, ◌++◌, append_assoc, append-nil}
use mathlib.Core.Logic.{⊎_elim}
use Prim.Native.Nat.{ℕ, zero, suc, ◌+◌, ◌*◌, ◌/◌, ◌%◌, ◌≤◌, ◌<◌}
use native.Mathlib.Omega.{arith}
use lib.Dec.{ltb}
use lib.ListN.{length, length-append}
use borrow.Author.Tests.{ltb-true, le-ltb, lt-leb, ne_eqb}
use Rattle.refusals.specs.Refusal.{Verdict, done}
use Rattle.lines.specs.Lines.{lines_of}
use Rattle.lines.proofs.SplitLaw.{lines_none}
use Rattle.lines.proofs.ReturnLaw.{other_true}
use Rattle.shapes.specs.declared.Shape.{Shape}
use Rattle.shapes.specs.declared.Shape.TheVariants.{Edge}
use Rattle.shapes.specs.Shapes.{edge_front, shape_of}
use Rattle.graphs.specs.Edges.{Ends, meets, has_edge, take_once}
use Rattle.graphs.specs.Reading.{vertices_most, edges_most, declared, on, edge_fault, carry, take_line, graph, read_lines}
use Rattle.graphs.specs.Scans.{cell_of, cells}
use Rattle.graphs.specs.Drawn.{Edged}
use Rattle.graphs.proofs.EdgeLaw.{meets_ends, has_add, once_new, full_room}
use Rattle.graphs.proofs.ReadLaw.{read_none, read_go, end_same, later_edge}
use Rattle.tidying.specs.Tidy.{edge_line, edges_text, keep, cell_has, tidy_from}
use Rattle.tidying.proofs.TidyLaw.{tidy_more}
use Rattle.tallies.specs.Tallies.{sum_lines}
use Rattle.tallies.proofs.TallyLaw.{sum_none, sum_cons}
use Rattle.reread.proofs.ShapeLaw.{body_of, edge_cut, edge_shape, edge_short}

abbrev cell_ends : ℕ → Ends
cell_ends c = record { one = c / 21; other = c % 21 }

text_cons : (x : Ends) (es : List Ends) → edges_text (x ∷ es) ≡ edge_line x.one x.other ++ edges_text es
unfolding edges_text
text_cons x es = refl

text_none : edges_text [] ≡ []
unfolding edges_text
text_none = refl

cells_none : (h : ℕ → ℕ → Bool) (c : ℕ) → tidy_from h c 0 ≡ []
unfolding tidy_from
cells_none h c = refl

and_first : (a b : Bool) → (a && b) ≡ true → a ≡ true
and_first true b e = refl
and_first false b e = e

and_second : (a b : Bool) → (a && b) ≡ true → b ≡ true
and_second true b e = e
and_second false b e = absurd (let z : ◌≡◌ {A = ℕ} 0 1 = cc in omega arith)

-- a cell that has no edge gives no line, and one that has an edge gives its line
module _ (h : ℕ → ℕ → Bool) (c k : ℕ) where
  cells_off : cell_has h c ≡ false → tidy_from h c (suc k) ≡ tidy_from h (suc c) k
  cells_off e = tidy_more h c k ∙ ap (λ (q : Bool). keep q (cell_ends c) (tidy_from h (suc c) k)) e

  cells_on : cell_has h c ≡ true → tidy_from h c (suc k) ≡ cell_ends c ∷ tidy_from h (suc c) k
  cells_on e = tidy_more h c k ∙ ap (λ (q : Bool). keep q (cell_ends c) (tidy_from h (suc c) k)) e

  module _ (l : c < cells) where
    one_small : c / 21 < 100
    one_small = omega arith

    other_small : c % 21 < 100
    other_small = omega arith

    cells_line : cell_has h c ≡ true → lines_of (edges_text (tidy_from h c (suc k))) ≡ body_of edge_front (c / 21) (c % 21) ∷ lines_of (edges_text (tidy_from h (suc c) k))
    cells_line e =
        ap (λ (es : List Ends). lines_of (edges_text es)) (cells_on e)
        ∙ ap lines_of (text_cons (cell_ends c) (tidy_from h (suc c) k))
        ∙ edge_cut (c / 21) (c % 21) one_small other_small (edges_text (tidy_from h (suc c) k))

    cell_shape : shape_of (body_of edge_front (c / 21) (c % 21)) ≡ Edge (c / 21) (c % 21)
    cell_shape = edge_shape (c / 21) (c % 21) one_small other_small

-- ---- counting them
module _ (h : ℕ → ℕ → Bool) (f : Shape → ℕ) (w : ℕ) (each : (a b : ℕ) → a < b → f (Edge a b) ≡ w) where
  pub cells_sum : (c k : ℕ) → c + k ≤ cells → sum_lines f (lines_of (edges_text (tidy_from h c k))) ≡ w * length (tidy_from h c k)
  cells_sum c zero l =
      ap (λ (es : List Ends). sum_lines f (lines_of (edges_text es))) (cells_none h c) ∙ ap (λ (t : List ℕ). sum_lines f (lines_of t)) text_none ∙ sum_none f
      ∙ sym (ap (λ (es : List Ends). w * length es) (cells_none h c) ∙ times w)
    where
      times : (n : ℕ) → n * 0 ≡ 0
      times n = omega arith
  cells_sum c (suc k) l = by_test (cell_has h c) refl (cells_sum (suc c) k (omega arith))
    where
      next : (n s : ℕ) → n + n * s ≡ n * suc s
      next n s = omega arith

      by_test : (q : Bool) → cell_has h c ≡ q → sum_lines f (lines_of (edges_text (tidy_from h (suc c) k))) ≡ w * length (tidy_from h (suc c) k)
          → sum_lines f (lines_of (edges_text (tidy_from h c (suc k)))) ≡ w * length (tidy_from h c (suc k))
      by_test false e r =
          ap (λ (es : List Ends). sum_lines f (lines_of (edges_text es))) (cells_off h c k e) ∙ r ∙ sym (ap (λ (es : List Ends). w * length es) (cells_off h c k e))
      by_test true e r =
          ap (sum_lines f) (cells_line h c k (omega arith) e)
          ∙ sum_cons f (body_of edge_front (c / 21) (c % 21)) (lines_of (edges_text (tidy_from h (suc c) k)))
          ∙ ap₂ (λ (a b : ℕ). a + b) (ap f (cell_shape h c k (omega arith)) ∙ each (c / 21) (c % 21) (ltb-true _ _ (and_first (ltb (c / 21) (c % 21)) (h (c / 21) (c % 21)) e))) r
          ∙ next w (length (tidy_from h (suc c) k))
          ∙ sym (ap (λ (es : List Ends). w * length es) (cells_on h c k e))

-- ---- how long they are
module _ (h : ℕ → ℕ → Bool) where
  pub cells_short : (c k : ℕ) → c + k ≤ cells → length (edges_text (tidy_from h c k)) ≤ 8 * length (tidy_from h c k)
  cells_short c zero l = rw (cells_none h c, text_none) (omega arith)
  cells_short c (suc k) l = by_test (cell_has h c) refl (cells_short (suc c) k (omega arith))
    where
      sum : (a b n w : ℕ) → w ≡ a + b → a ≤ 8 → b ≤ 8 * n → w ≤ 8 * suc n
      sum a b n w p q r = omega arith

      by_test : (q : Bool) → cell_has h c ≡ q → length (edges_text (tidy_from h (suc c) k)) ≤ 8 * length (tidy_from h (suc c) k)
          → length (edges_text (tidy_from h c (suc k))) ≤ 8 * length (tidy_from h c (suc k))
      by_test false e r = rw (cells_off h c k e) r
      by_test true e r =
          rw (cells_on h c k e)
          (sum (length (edge_line (c / 21) (c % 21))) (length (edges_text (tidy_from h (suc c) k))) (length (tidy_from h (suc c) k)) _
          (ap length (text_cons (cell_ends c) (tidy_from h (suc c) k)) ∙ length-append (edge_line (c / 21) (c % 21)) (edges_text (tidy_from h (suc c) k)))
          (edge_short (c / 21) (c % 21) (omega arith) (omega arith)) r)

-- ---- reading them
-- an e line that is taken: it fits, is new, and there is room
taken : (v e j : ℕ) (es : List Ends) (a b : ℕ) → Edged v (record { one = a; other = b }) → j < e → has_edge es a b ≡ false → length es < edges_most
    → take_line (declared v e j es) (Edge a b) ≡ on (declared v e (j + 1) (es ++ (record { one = a; other = b } ∷ [])))
taken v e j es a b g l n m =
    sym (later_edge v e j es a b (fits g.one_least g.one_most g.other_least g.other_most g.apart))
    ∙ ap (λ (f : Verdict). carry f (declared v e (j + 1) (take_once es a b))) (full_room es a b m)
    ∙ ap (λ (xs : List Ends). on (declared v e (j + 1) xs)) (once_new es a b n)
  where
    fits : 1 ≤ a → a ≤ v → 1 ≤ b → b ≤ v → (a ≡ b → ⊥) → edge_fault v e j a b ≡ done
    fits p q r s d = rw (lt-leb e j l, le-ltb a 1 p, le-ltb v a q, le-ltb b 1 r, le-ltb v b s, ne_eqb a b d)

module _ (h : ℕ → ℕ → Bool) (v e : ℕ) (edged : (a b : ℕ) → h a b ≡ true → Edged v (record { one = a; other = b })) (few : e ≤ edges_most) where
  -- none of the edges so far has a cell from c on
  abbrev Before : ℕ → List Ends → Type 0
  Before c es = (i j : ℕ) → i < j → j ≤ vertices_most → c ≤ cell_of i j → has_edge es i j ≡ false

  before_next : (c : ℕ) (es : List Ends) → Before c es → Before (suc c) (es ++ (cell_ends c ∷ []))
  before_next c es g i j l m n =
      has_add es (cell_ends c) i j
      ∙ ap₂ (λ (a b : Bool). a || b) (g i j l m (omega arith))
      (other_true (meets (cell_ends c) i j) (λ q.
      ⊎_elim (λ p. let x : c / 21 ≡ i = p.0 in let y : c % 21 ≡ j = p.1 in omega arith) (λ p. let x : c / 21 ≡ j = p.0 in let y : c % 21 ≡ i = p.1 in omega arith) (meets_ends (cell_ends c) i j q)))

  pub read_cells : (c k n j : ℕ) (es : List Ends) → c + k ≤ cells → j ≡ length es → Before c es → length es + length (tidy_from h c k) ≡ e
      → read_lines n (declared v e j es) (lines_of (edges_text (tidy_from h c k))) ≡ graph v (es ++ tidy_from h c k)
  read_cells c zero n j es l q g s =
      let z : j ≡ e = omega (arith, ap (λ (xs : List Ends). length xs) (cells_none h c)) in
      ap (λ (xs : List Ends). read_lines n (declared v e j es) (lines_of (edges_text xs))) (cells_none h c)
      ∙ ap (λ (t : List ℕ). read_lines n (declared v e j es) (lines_of t)) text_none
      ∙ ap (read_lines n (declared v e j es)) lines_none
      ∙ read_none n (declared v e j es)
      ∙ sym (end_same v e j es z)
      ∙ ap (graph v) (sym (append-nil es) ∙ ap (λ (xs : List Ends). es ++ xs) (sym (cells_none h c)))
  read_cells c (suc k) n j es l q g s =
      by_test (cell_has h c) refl
      (λ u. read_cells (suc c) k n j es (omega arith) q (λ a b x y z. g a b x y (omega arith)) u)
      (λ p r u. read_cells (suc c) k (n + 1) (j + 1) (es ++ (cell_ends c ∷ [])) (omega arith) p r u)
    where
      sum : (a b m : ℕ) → a + suc b ≡ m → a + 1 + b ≡ m
      sum a b m z = omega arith

      room : (a b m : ℕ) → a + suc b ≡ m → a < m
      room a b m z = omega arith

      by_test : (t : Bool) → cell_has h c ≡ t
          → (length es + length (tidy_from h (suc c) k) ≡ e → read_lines n (declared v e j es) (lines_of (edges_text (tidy_from h (suc c) k))) ≡ graph v (es ++ tidy_from h (suc c) k))
          → (j + 1 ≡ length (es ++ (cell_ends c ∷ [])) → Before (suc c) (es ++ (cell_ends c ∷ [])) → length (es ++ (cell_ends c ∷ [])) + length (tidy_from h (suc c) k) ≡ e
          → read_lines (n + 1) (declared v e (j + 1) (es ++ (cell_ends c ∷ []))) (lines_of (edges_text (tidy_from h (suc c) k))) ≡ graph v ((es ++ (cell_ends c ∷ [])) ++ tidy_from h (suc c) k))
          → read_lines n (declared v e j es) (lines_of (edges_text (tidy_from h c (suc k)))) ≡ graph v (es ++ tidy_from h c (suc k))
      by_test false t off next =
          let p = cells_off h c k t in
          ap (λ (xs : List Ends). read_lines n (declared v e j es) (lines_of (edges_text xs))) p
          ∙ off (sym (ap (λ (xs : List Ends). length es + length xs) p) ∙ s)
          ∙ ap (λ (xs : List Ends). graph v (es ++ xs)) (sym p)
      by_test true t off next =
          let i = c / 21 in
          let m = c % 21 in
          let x = cell_ends c in
          let rest = tidy_from h (suc c) k in
          let p = cells_on h c k t in
          let u : length es + suc (length rest) ≡ e = sym (ap (λ (xs : List Ends). length es + length xs) p) ∙ s in
          let a = length-append es (x ∷ []) in
          let up : i < m = ltb-true i m (and_first (ltb i m) (h i m) t) in
          let d : Edged v (record { one = i; other = m }) = edged i m (and_second (ltb i m) (h i m) t) in
          let new : has_edge es i m ≡ false = g i m up (omega arith) (omega arith) in
          let few2 : length es < edges_most = omega (arith, room (length es) (length rest) e u) in
          let jl : j < e = omega (arith, room (length es) (length rest) e u) in
          ap (read_lines n (declared v e j es)) (cells_line h c k (omega arith) t)
          ∙ read_go n (declared v e j es) (declared v e (j + 1) (es ++ (x ∷ []))) (body_of edge_front i m) (lines_of (edges_text rest))
          (ap (take_line (declared v e j es)) (cell_shape h c k (omega arith)) ∙ taken v e j es i m d jl new few2)
          ∙ next (omega (arith, a)) (before_next c es g) (ap (λ (b : ℕ). b + length rest) a ∙ sum (length es) (length rest) e u)
          ∙ ap (graph v) (append_assoc es (x ∷ []) rest ∙ ap (λ (xs : List Ends). es ++ xs) (sym p))

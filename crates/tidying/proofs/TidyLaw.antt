-- The edges of a set in order: equal sets have equal ones, and each cell adds its line.
use mathlib.Core.Path.{◌≡◌, refl, sym, ap, ap₂, subst, ◌∙◌}
use mathlib.Core.Bool.{Bool, true, false, ◌&&◌}
use mathlib.Core.List.{List, [], ◌++◌, append_assoc, append-nil}
use Prim.Native.Nat.{ℕ, zero, suc, ◌+◌, ◌-◌, ◌/◌, ◌%◌, ◌≤◌, ◌<◌}
use native.Mathlib.Numerals.{add-one}
use native.Mathlib.Omega.{arith}
use lib.Dec.{ltb}
use lib.ListN.{length, take}
use Rattle.texts.specs.Text.{line_if, Put}
use Rattle.graphs.specs.Edges.{Ends, has_edge}
use Rattle.graphs.specs.Reading.{vertices_most}
use Rattle.graphs.specs.Scans.{cells, Seen}
use Rattle.graphs.proofs.EdgeLaw.{seen_true}
use Rattle.tidying.specs.Tidy.{edge_line, edges_text, graph_text, keep, cell_has, tidy_from, tidy_of, tidy_text, flagged, cell_line, problem_line, flags_text}

-- ---- in order
pub tidy_more : (h : ℕ → ℕ → Bool) (c k : ℕ) → tidy_from h c (suc k) ≡ keep (cell_has h c) (record { one = c / 21; other = c % 21 }) (tidy_from h (suc c) k)
unfolding tidy_from
tidy_more h c k = refl

-- sets that are equal among the vertices have the same edges in order
tidy_ext : (f h : ℕ → ℕ → Bool) → ((a b : ℕ) → a ≤ vertices_most → b ≤ vertices_most → f a b ≡ h a b) → (c k : ℕ) → c + k ≤ cells → tidy_from f c k ≡ tidy_from h c k
unfolding tidy_from
tidy_ext f h e c zero l = refl
tidy_ext f h e c (suc k) l =
    ap₂ (λ (q : Bool) (es : List Ends). keep (ltb (c / 21) (c % 21) && q) (record { one = c / 21; other = c % 21 }) es)
    (e (c / 21) (c % 21) (omega arith) (omega arith)) (tidy_ext f h e (suc c) k (omega arith))

-- the flags of a list of edges stand for its set
pub tidy_flags : (es : List Ends) (s : List ℕ) → Seen es s → tidy_of (flagged s) ≡ tidy_of (has_edge es)
tidy_flags es s z = tidy_ext (flagged s) (has_edge es) (λ a b h l. seen_true es s a b z h l) 0 cells (omega arith)

-- ---- lines
pub text_more : (h : ℕ → ℕ → Bool) (c k : ℕ) → edges_text (tidy_from h c (suc k)) ≡ cell_line h c ++ edges_text (tidy_from h (suc c) k)
unfolding edges_text
text_more h c k = ap edges_text (tidy_more h c k) ∙ by_test (cell_has h c) (tidy_from h (suc c) k)
  where
    by_test : (q : Bool) (es : List Ends) → edges_text (keep q (record { one = c / 21; other = c % 21 }) es) ≡ line_if q (edge_line (c / 21) (c % 21)) ++ edges_text es
    by_test true es = refl
    by_test false es = refl

pub text_none : (h : ℕ → ℕ → Bool) (c k : ℕ) → k ≡ 0 → edges_text (tidy_from h c k) ≡ []
unfolding edges_text tidy_from
text_none h c zero e = refl
text_none h c (suc k) e = absurd (omega arith)

-- one cell more stands in the page
pub cells_turn : (h : ℕ → ℕ → Bool) (a : List ℕ) (j : ℕ) (b : List ℕ) (k c : ℕ) → c < cells → Put a j (cell_line h c) b k
    → take k b ++ edges_text (tidy_from h (c + 1) (cells - (c + 1))) ≡ take j a ++ edges_text (tidy_from h c (cells - c))
cells_turn h a j b k c l p =
    let e : suc (cells - (c + 1)) ≡ cells - c = omega arith in
    ap (λ (m : List ℕ). m ++ edges_text (tidy_from h (c + 1) (cells - (c + 1)))) p.front
    ∙ append_assoc (take j a) (cell_line h c) (edges_text (tidy_from h (c + 1) (cells - (c + 1))))
    ∙ ap (λ (m : ℕ). take j a ++ (cell_line h c ++ edges_text (tidy_from h m (cells - (c + 1))))) (add-one c)
    ∙ ap (λ (m : List ℕ). take j a ++ m) (sym (text_more h c (cells - (c + 1))) ∙ ap (λ (m : ℕ). edges_text (tidy_from h c m)) e)

-- nothing is put
pub put_none : (a : List ℕ) (at : ℕ) → Put a at [] a at
put_none a at = record { size = refl; next = omega arith; front = sym (append-nil (take at a)); rest = refl }

-- the whole text, of the set that the flags stand for
pub whole_text : (v e : ℕ) (es : List Ends) (s : List ℕ) → Seen es s → e ≡ length (tidy_of (has_edge es)) → flags_text v e s ≡ tidy_text v es
unfolding graph_text
whole_text v e es s z q = ap₂ (λ (k : ℕ) (xs : List Ends). problem_line v k ++ edges_text xs) q (tidy_flags es s z)

-- ---- the line of a cell
module _ (h : ℕ → ℕ → Bool) (c : ℕ) (old : List ℕ) (at : ℕ) where
  pub line_put : (new : List ℕ) (end : ℕ) → cell_has h c ≡ true → Put old at (edge_line (c / 21) (c % 21)) new end → Put old at (cell_line h c) new end
  line_put new end e p = subst (λ (q : Bool). Put old at (line_if q (edge_line (c / 21) (c % 21))) new end) (sym e) p

  pub line_none : cell_has h c ≡ false → Put old at (cell_line h c) old at
  line_none e = subst (λ (q : Bool). Put old at (line_if q (edge_line (c / 21) (c % 21))) old at) (sym e) (put_none old at)

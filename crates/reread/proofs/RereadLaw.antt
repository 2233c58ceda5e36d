-- A tidied text is read to the same set of edges, and tidied to itself with nothing to count.
use mathlib.Core.Path.{◌≡◌, refl, sym, ap, ap₂, ◌∙◌}
use mathlib.Core.Bool.{Bool, true, false, true≢false}
use mathlib.Core.List.{List, [], ◌∷◌, ◌++◌}
use mathlib.Core.Logic.{by_cases}
use Rattle.refusals.specs.Refusal.{done}
use Prim.Native.Nat.{ℕ, ◌+◌, ◌*◌, ◌≤◌, ◌<◌}
use native.Mathlib.Decide.{dec_lt}
use native.Mathlib.Omega.{arith}
use lib.ListN.{length, take, drop, length-append}
use lib.Seq.{take-append_seam}
use borrow.Author.Tests.{le-ltb}
use Rattle.lines.specs.Lines.{lines_of}
use Rattle.lines.proofs.ReturnLaw.{other_true}
use Rattle.shapes.specs.declared.Shape.{Shape}
use Rattle.shapes.specs.declared.Shape.TheVariants.{Problem, Edge}
use Rattle.shapes.specs.Shapes.{problem_front, shape_of}
use Rattle.graphs.specs.Edges.{Ends, has_edge}
use Rattle.graphs.specs.Reading.{vertices_most, lines_most, edges_most, words_least, start, declared, on, problem_fault, take_line, graph, read_lines, outcome_of}
use Rattle.graphs.specs.Scans.{flag, cells}
use Rattle.graphs.specs.Drawn.{Edged, Drawn}
use Rattle.graphs.proofs.EdgeLaw.{has_none, has_turn}
use Rattle.graphs.proofs.ReadLaw.{read_go, first_problem, outcome_lines}
use Rattle.graphs.proofs.SoundLaw.{text_drawn}
use Rattle.tidying.specs.Tidy.{problem_line, edges_text, graph_text, tidy_of, tidy_text}
use Rattle.tidying.proofs.SetLaw.{tidy_has, tidy_again}
use Rattle.tidying.proofs.CountLaw.{has_edged, tidy_length}
use Rattle.tallies.specs.Tallies.{as_comment, as_edge, as_turned, sum_lines, comments_in, repeats_in, turned_in, edges_in}
use Rattle.tallies.proofs.TallyLaw.{sum_cons, edges_repeats}
use Rattle.exchange.proofs.AnswerLaw.{tidied_fits, after_graph}
use Rattle.reread.specs.Reread.{tidy_most, Reread}
use Rattle.reread.proofs.ShapeLaw.{body_of, problem_cut, problem_shape, problem_short}
use Rattle.reread.proofs.CellLaw.{cells_sum, cells_short, read_cells}

text_is : (v : ℕ) (es : List Ends) → graph_text v es ≡ problem_line v (length es) ++ edges_text es
unfolding graph_text
text_is v es = refl

-- a p line within the limits is taken
declares : (v e : ℕ) → 1 ≤ v → v ≤ vertices_most → 1 ≤ e → e ≤ lines_most → take_line start (Problem v e) ≡ on (declared v e 0 [])
declares v e a b c d = sym (first_problem v e fine)
  where
    fine : problem_fault v e ≡ done
    fine = rw (le-ltb v 1 a, le-ltb vertices_most v b, le-ltb e 1 c, le-ltb lines_most e d)

module _ (t : List ℕ) (v : ℕ) (es : List Ends) (o : outcome_of t words_least ≡ graph v es) where
  d : Drawn v es
  d = text_drawn t words_least v es o

  count : length (tidy_of (has_edge es)) ≡ length es
  count = tidy_length t words_least v es o

  abbrev e : ℕ
  e = length (tidy_of (has_edge es))

  few : e ≤ edges_most
  few = omega (arith, count, d.few)

  v_small : v < 100
  v_small = omega (arith, d.most)

  e_small : e < 100
  e_small = omega (arith, few)

  -- the p line comes first
  lines_are : lines_of (tidy_text v es) ≡ body_of problem_front v e ∷ lines_of (edges_text (tidy_of (has_edge es)))
  lines_are = ap lines_of (text_is v (tidy_of (has_edge es))) ∙ problem_cut v e v_small e_small (edges_text (tidy_of (has_edge es)))

  p_shape : shape_of (body_of problem_front v e) ≡ Problem v e
  p_shape = problem_shape v e v_small e_small

  read_lines_lem : read_lines 1 start (lines_of (tidy_text v es)) ≡ graph v (tidy_of (has_edge es))
  read_lines_lem =
      ap (read_lines 1 start) lines_are
      ∙ read_go 1 start (declared v e 0 []) (body_of problem_front v e) (lines_of (edges_text (tidy_of (has_edge es))))
      (ap (take_line start) p_shape ∙ declares v e d.least d.most (omega (arith, count, d.some)) (omega (arith, few)))
      ∙ read_cells (has_edge es) v e (λ a b q. has_edged v es d a b q) few 0 cells (1 + 1) 0 [] (omega arith) refl (λ i j l m n. has_none i j) (omega arith)

  most : length (tidy_text v es) ≤ tidy_most
  most =
      sum (length (problem_line v e)) (length (edges_text (tidy_of (has_edge es)))) e _
      (ap length (text_is v (tidy_of (has_edge es))) ∙ length-append (problem_line v e) (edges_text (tidy_of (has_edge es))))
      (problem_short v e v_small e_small) (cells_short (has_edge es) 0 cells (omega arith)) few
    where
      sum : (a b n w : ℕ) → w ≡ a + b → a ≤ 13 → b ≤ 8 * n → n ≤ 64 → w ≤ 525
      sum a b n w p q r f = omega arith

  read : outcome_of (tidy_text v es) words_least ≡ graph v (tidy_of (has_edge es))
  read = outcome_lines (tidy_text v es) words_least (omega (arith, most)) (omega arith) ∙ read_lines_lem

  -- the same set
  inside : (a b : ℕ) → Edged v (record { one = a; other = b }) → has_edge (tidy_of (has_edge es)) a b ≡ has_edge es a b
  inside a b g =
      by_cases (dec_lt a b)
      (λ l. tidy_has (has_edge es) a b l (omega (arith, g.other_most, d.most)))
      (λ n.
      let k : ¬ (a ≡ b) = g.apart in
      let l : b < a = omega arith in
      has_turn (tidy_of (has_edge es)) a b ∙ tidy_has (has_edge es) b a l (omega (arith, g.one_most, d.most)) ∙ has_turn es b a)

  same : (a b : ℕ) → has_edge (tidy_of (has_edge es)) a b ≡ has_edge es a b
  same a b = by_test (has_edge es a b) refl
    where
      by_test : (q : Bool) → has_edge es a b ≡ q → has_edge (tidy_of (has_edge es)) a b ≡ has_edge es a b
      by_test true q = inside a b (has_edged v es d a b q)
      by_test false q =
          other_true (has_edge (tidy_of (has_edge es)) a b)
          (λ r. true≢false (sym r ∙ inside a b (has_edged v (tidy_of (has_edge es)) (text_drawn (tidy_text v es) words_least v (tidy_of (has_edge es)) read) a b r) ∙ q))
          ∙ sym q

  -- nothing to count
  sums : (f : Shape → ℕ) (w : ℕ) → f (Problem v e) ≡ 0 → ((a b : ℕ) → a < b → f (Edge a b) ≡ w) → sum_lines f (lines_of (tidy_text v es)) ≡ w * e
  sums f w p each =
      ap (sum_lines f) lines_are
      ∙ sum_cons f (body_of problem_front v e) (lines_of (edges_text (tidy_of (has_edge es))))
      ∙ ap₂ (λ (a b : ℕ). a + b) (ap f p_shape ∙ p) (cells_sum (has_edge es) f w each 0 cells (omega arith))
      ∙ plain (w * e)
    where
      plain : (n : ℕ) → 0 + n ≡ n
      plain n = omega arith

  no_comments : comments_in (tidy_text v es) ≡ 0
  no_comments = sums as_comment 0 refl (λ a b l. refl) ∙ none e
    where
      none : (n : ℕ) → 0 * n ≡ 0
      none n = omega arith

  no_turned : turned_in (tidy_text v es) ≡ 0
  no_turned = sums as_turned 0 refl (λ a b l. ap flag (le-ltb b a (omega arith))) ∙ none e
    where
      none : (n : ℕ) → 0 * n ≡ 0
      none n = omega arith

  no_repeats : repeats_in (tidy_text v es) ≡ 0
  no_repeats = last (edges_in (tidy_text v es)) e (repeats_in (tidy_text v es)) (sums as_edge 1 refl (λ a b l. refl)) (edges_repeats (tidy_text v es) words_least v (tidy_of (has_edge es)) read)
    where
      last : (a n r : ℕ) → a ≡ 1 * n → a ≡ n + r → r ≡ 0
      last a n r p q = omega arith

  text_same : tidy_text v (tidy_of (has_edge es)) ≡ tidy_text v es
  text_same = tidy_again v es

  pub reread : Reread v es
  reread =
      record {
        read = read;
        same = same;
        count = count;
        most = most;
        front = λ old. ap (take (length (tidy_text v es))) (after_graph v es old) ∙ take-append_seam (tidy_text v es) (drop (length (tidy_text v es)) old);
        again = λ room l. tidied_fits (tidy_text v es) room v (tidy_of (has_edge es)) read (omega (arith, ap length text_same));
        bytes = λ old.
            after_graph v (tidy_of (has_edge es)) old ∙ ap (λ (s : List ℕ). s ++ drop (length s) old) text_same ∙ sym (after_graph v es old);
        none = rw (text_same, no_comments, no_repeats, no_turned);
      }

-- What is read are the e lines of a text, each edge taken once; so its edges are those of its e lines.
use mathlib.Core.Path.{◌≡◌, refl, sym, ap, ◌∙◌}
use mathlib.Core.List.{List, [], ◌∷◌}
use Prim.Native.Nat.{ℕ, ◌+◌}
use lib.Dec.{ltb}
use lib.ListN.{length}
use Rattle.refusals.specs.declared.Refusal.TheVariants as why
use Rattle.lines.specs.Lines.{lines_of}
use Rattle.shapes.specs.declared.Shape.{Shape}
use Rattle.shapes.specs.declared.Shape.TheVariants.{Comment, Problem, Edge, Unknown}
use Rattle.shapes.specs.Shapes.{shape_of}
use Rattle.graphs.specs.Edges.{Ends, has_edge, take_once, once_from}
use Rattle.graphs.specs.Reading.{text_most, words_least, State, start, declared, Turn, on, stop, problem_fault, edge_fault, full_fault, or_else, take_line, graph, end_of, read_lines, outcome_of, with_edge, edge_lines}
use Rattle.graphs.proofs.EdgeLaw.{once_has}
use Rattle.graphs.proofs.ReadLaw.{read_none, read_go, read_stop}
use Rattle.graphs.proofs.SoundLaw.{stop_on, on_is, carry_on, refused_graph, refuse_graph}

abbrev so_far : State → List Ends
so_far start = []
so_far (declared v e k es) = es

line_once : (s u : State) (sh : Shape) (xs : List Ends) → take_line s sh ≡ on u → once_from (so_far s) (with_edge sh xs) ≡ once_from (so_far u) xs
unfolding take_line once_from
line_once s u Unknown xs e = absurd (stop_on why.Shape u e)
line_once s u Comment xs e = ap (λ (w : State). once_from (so_far w) xs) (on_is s u e)
line_once start u (Problem v e) xs q = ap (λ (w : State). once_from (so_far w) xs) (carry_on (problem_fault v e) (declared v e 0 []) u q)
line_once (declared v e k es) u (Problem v' e') xs q = absurd (stop_on why.Order u q)
line_once start u (Edge a b) xs q = absurd (stop_on why.Order u q)
line_once (declared v e k es) u (Edge a b) xs q =
    ap (λ (w : State). once_from (so_far w) xs) (carry_on (or_else (edge_fault v e k a b) (full_fault es a b)) (declared v e (k + 1) (take_once es a b)) u q)

end_once : (s : State) (v : ℕ) (es : List Ends) → end_of s ≡ graph v es → es ≡ so_far s
unfolding end_of
end_once start v es e = absurd (refused_graph why.Order 0 v es e)
end_once (declared n m k xs) v es e = let z = refuse_graph (ltb m k) why.Count 0 _ v es (refuse_graph (ltb k m) why.Count 0 _ v es e) in cc

once_none : (es : List Ends) → once_from es [] ≡ es
unfolding once_from
once_none es = refl

lines_none : edge_lines [] ≡ []
unfolding edge_lines
lines_none = refl

lines_cons : (l : List ℕ) (ls : List (List ℕ)) → edge_lines (l ∷ ls) ≡ with_edge (shape_of l) (edge_lines ls)
unfolding edge_lines
lines_cons l ls = refl

once_turn : (l : List ℕ) (ls : List (List ℕ)) (k : ℕ) (s : State) (v : ℕ) (es : List Ends)
    → ((u : State) → read_lines (k + 1) u ls ≡ graph v es → es ≡ once_from (so_far u) (edge_lines ls)) → (t : Turn) → take_line s (shape_of l) ≡ t
    → read_lines k s (l ∷ ls) ≡ graph v es → es ≡ once_from (so_far s) (edge_lines (l ∷ ls))
once_turn l ls k s v es next (on u) q e =
    next u (sym (read_go k s u l ls q) ∙ e) ∙ sym (line_once s u (shape_of l) (edge_lines ls) q) ∙ ap (once_from (so_far s)) (sym (lines_cons l ls))
once_turn l ls k s v es next (stop r) q e = absurd (refused_graph r k v es (sym (read_stop k s r l ls q) ∙ e))

once_lines : (ls : List (List ℕ)) (k : ℕ) (s : State) (v : ℕ) (es : List Ends) → read_lines k s ls ≡ graph v es → es ≡ once_from (so_far s) (edge_lines ls)
once_lines [] k s v es e = end_once s v es (sym (read_none k s) ∙ e) ∙ sym (once_none (so_far s)) ∙ ap (once_from (so_far s)) (sym lines_none)
once_lines (l ∷ ls) k s v es e = once_turn l ls k s v es (λ u q. once_lines ls (k + 1) u v es q) (take_line s (shape_of l)) refl e

-- the edges that are read are the e lines of the text, each taken once, at its first line
pub text_once : (t : List ℕ) (w v : ℕ) (es : List Ends) → outcome_of t w ≡ graph v es → es ≡ once_from [] (edge_lines (lines_of t))
unfolding outcome_of
text_once t w v es e =
    once_lines (lines_of t) 1 start v es
    (refuse_graph (ltb w words_least) why.Length 0 _ v es (refuse_graph (ltb text_most (length t)) why.Long 0 _ v es e))

-- so they are the same set
pub text_has : (t : List ℕ) (w v : ℕ) (es : List Ends) → outcome_of t w ≡ graph v es → (a b : ℕ) → has_edge es a b ≡ has_edge (edge_lines (lines_of t)) a b
unfolding has_edge
text_has t w v es e a b = ap (λ (l : List Ends). has_edge l a b) (text_once t w v es e) ∙ once_has (edge_lines (lines_of t)) [] a b

-- Counting line by line; and that the e lines are the different edges and the repeats.
use mathlib.Core.Path.{◌≡◌, refl, sym, ap, ap₂, ◌∙◌}
use mathlib.Core.Bool.{Bool, true, false}
use mathlib.Core.List.{List, [], ◌∷◌}
use Prim.Native.Nat.{ℕ, suc, ◌+◌, ◌≤◌}
use native.Mathlib.Omega.{arith}
use lib.Dec.{ltb}
use lib.ListN.{length, length-append}
use Rattle.lines.specs.Lines.{lines_of}
use Rattle.lines.proofs.SplitLaw.{lines_none}
use Rattle.shapes.specs.declared.Shape.{Shape}
use Rattle.shapes.specs.declared.Shape.TheVariants.{Comment, Problem, Edge, Unknown}
use Rattle.shapes.specs.Shapes.{shape_of}
use Rattle.graphs.specs.Edges.{Ends, has_edge, take_once, once_from}
use Rattle.graphs.specs.Reading.{with_edge, edge_lines, graph, outcome_of}
use Rattle.graphs.specs.Scans.{flag}
use Rattle.graphs.proofs.EdgeLaw.{once_again, once_new}
use Rattle.graphs.proofs.OnceLaw.{text_once}
use Rattle.tallies.specs.Tallies.{as_comment, as_edge, as_turned, sum_lines, repeats_from, repeats_in, edges_in}

-- ---- line by line
pub sum_none : (f : Shape → ℕ) → sum_lines f (lines_of []) ≡ 0
unfolding sum_lines
sum_none f = ap (sum_lines f) lines_none

pub sum_cons : (f : Shape → ℕ) (l : List ℕ) (ls : List (List ℕ)) → sum_lines f (l ∷ ls) ≡ f (shape_of l) + sum_lines f ls
unfolding sum_lines
sum_cons f l ls = refl

-- one more line is counted
pub sum_turn : (f : Shape → ℕ) (l : List ℕ) (ls all : List (List ℕ)) (n : ℕ) (w : ℕ) → n + sum_lines f all ≡ w → all ≡ l ∷ ls → n + f (shape_of l) + sum_lines f ls ≡ w
sum_turn f l ls all n w e p = last n (f (shape_of l)) (sum_lines f ls) (sum_lines f all) w (ap (sum_lines f) p ∙ sum_cons f l ls) e
  where
    last : (a b c d m : ℕ) → d ≡ b + c → a + d ≡ m → a + b + c ≡ m
    last a b c d m p q = omega arith

pub flag_most : (q : Bool) → flag q ≤ 1
flag_most true = omega arith
flag_most false = omega arith

pub comment_most : (s : Shape) → as_comment s ≤ 1
comment_most Comment = omega arith
comment_most (Problem v e) = omega arith
comment_most (Edge a b) = omega arith
comment_most Unknown = omega arith

pub edge_most : (s : Shape) → as_edge s ≤ 1
edge_most Comment = omega arith
edge_most (Problem v e) = omega arith
edge_most (Edge a b) = omega arith
edge_most Unknown = omega arith

pub turned_most : (s : Shape) → as_turned s ≤ 1
turned_most Comment = omega arith
turned_most (Problem v e) = omega arith
turned_most (Edge a b) = flag_most (ltb b a)
turned_most Unknown = omega arith

-- ---- e lines
lines_count : (ls : List (List ℕ)) → sum_lines as_edge ls ≡ length (edge_lines ls)
unfolding sum_lines edge_lines
lines_count [] = refl
lines_count (l ∷ ls) = ap (λ (n : ℕ). as_edge (shape_of l) + n) (lines_count ls) ∙ one (shape_of l) (edge_lines ls)
  where
    one : (s : Shape) (xs : List Ends) → as_edge s + length xs ≡ length (with_edge s xs)
    one Comment xs = omega arith
    one (Problem v e) xs = omega arith
    one (Edge a b) xs = omega arith
    one Unknown xs = omega arith

-- what is taken once and what repeats it are all lines
once_repeats : (xs es : List Ends) → length (once_from es xs) + repeats_from es xs ≡ length es + length xs
unfolding once_from repeats_from
once_repeats [] es = refl
once_repeats (x ∷ xs) es = by_test (has_edge es x.one x.other) refl (once_repeats xs (take_once es x.one x.other))
  where
    sum : (a b c d f g : ℕ) → a + b ≡ d + c → d + f ≡ g + 1 → a + (f + b) ≡ g + suc c
    sum a b c d f g h e = omega arith

    by_test : (q : Bool) → has_edge es x.one x.other ≡ q
        → length (once_from (take_once es x.one x.other) xs) + repeats_from (take_once es x.one x.other) xs ≡ length (take_once es x.one x.other) + length xs
        → length (once_from (take_once es x.one x.other) xs) + (flag (has_edge es x.one x.other) + repeats_from (take_once es x.one x.other) xs) ≡ length es + suc (length xs)
    by_test true h e =
        let ys = take_once es x.one x.other in
        sum (length (once_from ys xs)) (repeats_from ys xs) (length xs) (length ys) (flag (has_edge es x.one x.other)) (length es) e
        (ap₂ (λ (l : List Ends) (q : Bool). length l + flag q) (once_again es x.one x.other h) h)
    by_test false h e =
        let ys = take_once es x.one x.other in
        sum (length (once_from ys xs)) (repeats_from ys xs) (length xs) (length ys) (flag (has_edge es x.one x.other)) (length es) e
        (ap₂ (λ (l : List Ends) (q : Bool). length l + flag q) (once_new es x.one x.other h) h ∙ ap (λ (n : ℕ). n + 0) (length-append es (x ∷ [])) ∙ plain (length es + 1))
      where
        plain : (n : ℕ) → n + 0 ≡ n
        plain n = omega arith

-- of a text that is read, the e lines are its different edges and the repeats
pub edges_repeats : (t : List ℕ) (w v : ℕ) (es : List Ends) → outcome_of t w ≡ graph v es → edges_in t ≡ length es + repeats_in t
edges_repeats t w v es o =
    lines_count (lines_of t)
    ∙ plain (length (edge_lines (lines_of t)))
    ∙ sym (once_repeats (edge_lines (lines_of t)) [])
    ∙ ap (λ (l : List Ends). length l + repeats_in t) (sym (text_once t w v es o))
  where
    plain : (n : ℕ) → n ≡ 0 + n
    plain n = omega arith

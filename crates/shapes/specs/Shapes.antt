-- The shapes of a graph file's lines.
use Rattle.std.specs.Prelude.{Bool, true, false, List, [], ◌∷◌, ℕ, drop, Some, None}
use Rattle.lines.specs.Lines.{Pair, pair_in, starts, is_comment}
use Rattle.shapes.specs.declared.Shape.{Shape}
use Rattle.shapes.specs.declared.Shape.TheVariants.{Comment, Problem, Edge, Unknown}

-- "p edge " and "e "
abbrev pub problem_front : List ℕ
problem_front = 112 ∷ 32 ∷ 101 ∷ 100 ∷ 103 ∷ 101 ∷ 32 ∷ []

abbrev pub edge_front : List ℕ
edge_front = 101 ∷ 32 ∷ []

abbrev pub as_problem : Pair → Shape
as_problem (Some (v, e)) = Problem v e
as_problem None = Unknown

abbrev pub as_edge : Pair → Shape
as_edge (Some (a, b)) = Edge a b
as_edge None = Unknown

abbrev pub pick_shape : Bool → Shape → Shape → Shape
pick_shape true x y = x
pick_shape false x y = y

-- the shape of a line: a comment, "p edge V E", "e A B", or none of these
unfoldable pub shape_of : List ℕ → Shape
shape_of s =
    pick_shape (is_comment s) Comment
    (pick_shape (starts problem_front s) (as_problem (pair_in (drop 7 s)))
    (pick_shape (starts edge_front s) (as_edge (pair_in (drop 2 s))) Unknown))

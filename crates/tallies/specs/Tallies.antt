-- What is counted in the lines of a graph file: comments, lines with the larger vertex first, e lines, and those that repeat an edge.
use Rattle.std.specs.Prelude.{List, [], ◌∷◌, ℕ, ◌+◌, ltb}
use Rattle.lines.specs.Lines.{lines_of}
use Rattle.shapes.specs.declared.Shape.{Shape}
use Rattle.shapes.specs.declared.Shape.TheVariants.{Comment, Problem, Edge, Unknown}
use Rattle.shapes.specs.Shapes.{shape_of}
use Rattle.graphs.specs.Edges.{Ends, has_edge, take_once}
use Rattle.graphs.specs.Reading.{edge_lines}
use Rattle.graphs.specs.Scans.{flag}

-- 1 for a comment
abbrev pub as_comment : Shape → ℕ
as_comment Comment = 1
as_comment (Problem v e) = 0
as_comment (Edge a b) = 0
as_comment Unknown = 0

-- 1 for an e line
abbrev pub as_edge : Shape → ℕ
as_edge Comment = 0
as_edge (Problem v e) = 0
as_edge (Edge a b) = 1
as_edge Unknown = 0

-- 1 for an e line with the larger vertex first
abbrev pub as_turned : Shape → ℕ
as_turned Comment = 0
as_turned (Problem v e) = 0
as_turned (Edge a b) = flag (ltb b a)
as_turned Unknown = 0

-- what all lines give together
unfoldable pub sum_lines : (Shape → ℕ) → List (List ℕ) → ℕ
sum_lines f [] = 0
sum_lines f (l ∷ ls) = f (shape_of l) + sum_lines f ls

-- the lines of xs that repeat an edge of es or of a line before them
unfoldable pub repeats_from : List Ends → List Ends → ℕ
repeats_from es [] = 0
repeats_from es (x ∷ xs) = flag (has_edge es x.one x.other) + repeats_from (take_once es x.one x.other) xs

-- the three numbers of a text
abbrev pub comments_in : List ℕ → ℕ
comments_in t = sum_lines as_comment (lines_of t)

abbrev pub repeats_in : List ℕ → ℕ
repeats_in t = repeats_from [] (edge_lines (lines_of t))

abbrev pub turned_in : List ℕ → ℕ
turned_in t = sum_lines as_turned (lines_of t)

-- and its e lines
abbrev pub edges_in : List ℕ → ℕ
edges_in t = sum_lines as_edge (lines_of t)

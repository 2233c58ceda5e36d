-- A graph file written back tidied: its p line, then each edge once, smaller vertex first, by its first and then its second vertex.
use Rattle.std.specs.Prelude.{Bool, true, false, ◌&&◌, List, [], ◌∷◌, ◌++◌, ℕ, zero, suc, ◌+◌, ◌*◌, ◌/◌, ◌%◌, eqb, ltb, length, get_or}
use Rattle.texts.specs.Text.{pair_line, line_if}
use Rattle.shapes.specs.Shapes.{problem_front, edge_front}
use Rattle.graphs.specs.Edges.{Ends, has_edge}
use Rattle.graphs.specs.Scans.{cell_of, cells}

-- "p edge V E" and "e A B", each with its line feed
abbrev pub problem_line : ℕ → ℕ → List ℕ
problem_line v e = pair_line problem_front v (32 ∷ []) e

abbrev pub edge_line : ℕ → ℕ → List ℕ
edge_line a b = pair_line edge_front a (32 ∷ []) b

-- the text of a graph: its p line, and a line for each edge
unfoldable pub edges_text : List Ends → List ℕ
edges_text [] = []
edges_text (x ∷ es) = edge_line x.one x.other ++ edges_text es

unfoldable pub graph_text : ℕ → List Ends → List ℕ
graph_text v es = problem_line v (length es) ++ edges_text es

-- the edges of a set in order, each once, smaller vertex first: those of k cells from c on, of a square of 21 times 21
abbrev pub keep : Bool → Ends → List Ends → List Ends
keep true x es = x ∷ es
keep false x es = es

abbrev pub cell_has : (ℕ → ℕ → Bool) → ℕ → Bool
cell_has h c = ltb (c / 21) (c % 21) && h (c / 21) (c % 21)

unfoldable pub tidy_from : (ℕ → ℕ → Bool) → ℕ → ℕ → List Ends
tidy_from h c zero = []
tidy_from h c (suc k) = keep (cell_has h c) (record { one = c / 21; other = c % 21 }) (tidy_from h (suc c) k)

abbrev pub tidy_of : (ℕ → ℕ → Bool) → List Ends
tidy_of h = tidy_from h 0 cells

abbrev pub tidy_text : ℕ → List Ends → List ℕ
tidy_text v es = graph_text v (tidy_of (has_edge es))

-- the same of flags in place of a set
abbrev pub flagged : List ℕ → ℕ → ℕ → Bool
flagged s a b = eqb (get_or s (cell_of a b) 0) 1

-- the line of one cell: none where it has no edge
abbrev pub cell_line : (ℕ → ℕ → Bool) → ℕ → List ℕ
cell_line h c = line_if (cell_has h c) (edge_line (c / 21) (c % 21))

-- the text that the flags of e edges give
abbrev pub flags_text : ℕ → ℕ → List ℕ → List ℕ
flags_text v e s = problem_line v e ++ edges_text (tidy_of (flagged s))

-- a page for the longest text: a line of at most 44 bytes for each cell, after one of at most 49
abbrev pub page_most : ℕ
page_most = 49 + 44 * cells

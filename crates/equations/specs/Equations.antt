-- The equation of an edge, and the system of a graph.
use Rattle.std.specs.Prelude.{List, ℕ, ◌+◌, ◌-◌, ◌*◌, get_or}
use Rattle.residues.specs.Sums.{same}
use Rattle.polynomials.specs.Poly.{Poly}
use Rattle.graphs.specs.Edges.{Ends}
use Rattle.graphs.specs.Drawn.{no_ends}

-- 1 where unknown i is one of a and b
unfoldable pub is_end : ℕ → ℕ → ℕ → ℕ
is_end a b i = same i a + same i b

-- x² + xy + y² + 2 in the unknowns a and b: the coefficient of xi·xj is 1 where both are ends
unfoldable pub edge_poly : ℕ → ℕ → Poly
edge_poly a b = record { const = 2; lin = λ i. 0; quad = λ i j. is_end a b i * is_end a b j }

-- equation e of a graph: that of its edge e, where vertex A is unknown A-1
unfoldable pub system_of : List Ends → ℕ → Poly
system_of es e = edge_poly ((get_or es e no_ends).one - 1) ((get_or es e no_ends).other - 1)

-- What the structs that hold a graph while it is read stand for.
use Rattle.std.specs.Prelude.{◌≡◌, Bool, true, false, List, [], ◌∷◌, ◌++◌, ℕ, zero, suc, ◌+◌, ◌*◌, ◌≤◌, ◌<◌, length, get_or, Option, Some, None, Result, Ok, Err}
use Rattle.refusals.specs.declared.Refusal.{Refusal}
use Rattle.graphs.specs.declared.Fault.{Fault}
use Rattle.graphs.specs.declared.Graph.{Graph}
use Rattle.graphs.specs.declared.Scan.{Scan}
use Rattle.graphs.specs.Edges.{Ends, has_edge, take_once}
use Rattle.graphs.specs.Reading.{vertices_most, lines_most, edges_most, State, start, declared, Turn, on, stop, Outcome, graph, refused}

-- the k edges of two arrays
unfoldable pub ends_of : ℕ → List ℕ → List ℕ → List Ends
ends_of zero xs ys = []
ends_of (suc k) xs ys = ends_of k xs ys ++ (record { one = get_or xs k 0; other = get_or ys k 0 } ∷ [])

abbrev pub edges_of : Graph → List Ends
edges_of g = ends_of g.count g.one g.other

abbrev pub state_of : Option Graph → State
state_of None = start
state_of (Some g) = declared g.vertices g.edges g.lines (edges_of g)

-- what the end of a text gives
abbrev pub ended : Result Graph Refusal → Outcome
ended (Ok g) = graph g.vertices (edges_of g)
ended (Err r) = refused r 0

-- what a line gives: no graph yet, or one
abbrev pub turned : Result (Option Graph) Refusal → Turn
turned (Ok g) = on (state_of g)
turned (Err r) = stop r

-- what a p line or an e line gives
abbrev pub taken : Result Graph Refusal → Turn
taken (Ok g) = on (state_of (Some g))
taken (Err r) = stop r

-- what a whole text gives
abbrev pub scan_of : Result Scan Fault → Outcome
scan_of (Ok s) = graph s.graph.vertices (edges_of s.graph)
scan_of (Err f) = refused f.why f.line

-- ---- edges that were seen
-- the flag of an edge between a and b, in a square of 21 times 21: vertices are counted from 1
abbrev pub cell_of : ℕ → ℕ → ℕ
cell_of a b = 21 * a + b

abbrev pub cells : ℕ
cells = 441

abbrev pub flag : Bool → ℕ
flag true = 1
flag false = 0

-- the flags of a list of edges
pub record Seen (es : List Ends) (s : List ℕ) : Type 0 where
  pub size : length s ≡ cells
  pub at : (a b : ℕ) → a ≤ vertices_most → b ≤ vertices_most → get_or s (cell_of a b) 0 ≡ flag (has_edge es a b)

-- a graph between two lines, and the flags of its edges
pub record Kept (g : Graph) (s : List ℕ) : Type 0 where
  pub seen : Seen (edges_of g) s
  pub vertices : g.vertices ≤ vertices_most
  pub promised : g.edges ≤ lines_most
  pub few : g.count ≤ edges_most

-- the same before the p line, where there is no graph
abbrev pub Held : Option Graph → List ℕ → Type 0
Held None s = Seen [] s
Held (Some g) s = Kept g s

-- an e line that fits: within the declared number, and between two of its vertices
pub record Fits (g : Graph) (a b : ℕ) : Type 0 where
  pub room : g.lines < g.edges
  pub one_most : a ≤ g.vertices
  pub other_most : b ≤ g.vertices

-- the state after it
abbrev pub pair_state : Graph → ℕ → ℕ → State
pair_state g a b = declared g.vertices g.edges (g.lines + 1) (take_once (edges_of g) a b)

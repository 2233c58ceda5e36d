-- A graph within the limits.
use Rattle.std.specs.Prelude.{◌≡◌, List, ℕ, ◌≤◌, ◌<◌, length, get_or}
use Rattle.graphs.specs.Edges.{Ends}
use Rattle.graphs.specs.Reading.{vertices_most, edges_most}

abbrev pub no_ends : Ends
no_ends = record { one = 0; other = 0 }

-- an edge between two of v vertices
pub record Edged (v : ℕ) (x : Ends) : Type 0 where
  pub one_least : 1 ≤ x.one
  pub one_most : x.one ≤ v
  pub other_least : 1 ≤ x.other
  pub other_most : x.other ≤ v
  pub apart : x.one ≡ x.other → ⊥

-- a graph within the limits
pub record Drawn (v : ℕ) (es : List Ends) : Type 0 where
  pub least : 1 ≤ v
  pub most : v ≤ vertices_most
  pub some : 1 ≤ length es
  pub few : length es ≤ edges_most
  pub each : (e : ℕ) → e < length es → Edged v (get_or es e no_ends)

-- Edges are unordered pairs, and a set of them is a function of two numbers.
use Rattle.std.specs.Prelude.{Bool, true, false, ◌&&◌, ◌||◌, List, [], ◌∷◌, ◌++◌, ℕ, eqb}

-- the two vertices of an e line, as written
pub record Ends : Type 0 where
  pub one : ℕ
  pub other : ℕ

-- whether it joins a and b, either way round
abbrev pub meets : Ends → ℕ → ℕ → Bool
meets x a b = (eqb x.one a && eqb x.other b) || (eqb x.one b && eqb x.other a)

-- the set of the edges of a list: whether it has one between a and b
unfoldable pub has_edge : List Ends → ℕ → ℕ → Bool
has_edge [] a b = false
has_edge (x ∷ es) a b = meets x a b || has_edge es a b

-- x after the others, unless it is there already
abbrev pub added : Bool → List Ends → Ends → List Ends
added true es x = es
added false es x = es ++ (x ∷ [])

-- an edge is taken once, at its first line
unfoldable pub take_once : List Ends → ℕ → ℕ → List Ends
take_once es a b = added (has_edge es a b) es (record { one = a; other = b })

-- the lines of xs after those that gave es, each edge taken once
unfoldable pub once_from : List Ends → List Ends → List Ends
once_from es [] = es
once_from es (x ∷ xs) = once_from (take_once es x.one x.other) xs

-- Texts whose outcome is known: document 01's own, and refused ones with their line.
use Rattle.std.specs.Prelude.{◌≡◌, List, [], ◌∷◌, ℕ}
use Rattle.refusals.specs.declared.Refusal.TheVariants as why
use Rattle.graphs.specs.Reading.{words_least, Outcome, refused, outcome_of}
use Rattle.reader.specs.Answers.{read_graph, answer_of, words_after}

-- "p edge 2 1", "e 1 2", each with its line feed
abbrev pub problem : List ℕ → List ℕ
problem t = 112 ∷ 32 ∷ 101 ∷ 100 ∷ 103 ∷ 101 ∷ 32 ∷ 50 ∷ 32 ∷ 49 ∷ 10 ∷ t

-- "p edge 2 E", with one digit
abbrev pub declared : ℕ → List ℕ → List ℕ
declared e t = 112 ∷ 32 ∷ 101 ∷ 100 ∷ 103 ∷ 101 ∷ 32 ∷ 50 ∷ 32 ∷ e ∷ 10 ∷ t

abbrev pub edge : ℕ → ℕ → List ℕ → List ℕ
edge a b t = 101 ∷ 32 ∷ a ∷ 32 ∷ b ∷ 10 ∷ t

abbrev pub outcome : List ℕ → Outcome
outcome t = outcome_of t words_least

pub record Cases : Type 0 where
  -- "p edge 2 1", "e 1 2" is read to n = 2 and m = 1, and the words of 2,0,0,1,1,1
  pub read : answer_of (outcome (problem (edge 49 50 []))) ≡ read_graph 2 1
  pub words : words_after (outcome (problem (edge 49 50 []))) [] ≡ 1 ∷ 1 ∷ 0 ∷ 0 ∷ 0 ∷ 0 ∷ 1 ∷ 0 ∷ 1 ∷ 0 ∷ 1 ∷ 0 ∷ []
  -- the last line feed may be missing, and the ends may stand in either order
  pub unended : answer_of (outcome (problem (101 ∷ 32 ∷ 50 ∷ 32 ∷ 49 ∷ []))) ≡ read_graph 2 1
  -- no text, and an empty line
  pub nothing : outcome [] ≡ refused why.Order 0
  pub empty_line : outcome (10 ∷ []) ≡ refused why.Shape 1
  -- "c" alone, "c " with a carriage return, and "c" with one
  pub comment : answer_of (outcome (99 ∷ 10 ∷ 99 ∷ 32 ∷ 13 ∷ 10 ∷ problem (edge 49 50 []))) ≡ read_graph 2 1
  pub return : outcome (99 ∷ 13 ∷ 10 ∷ []) ≡ refused why.Shape 1
  -- an e line before the p line, a second p line, and none at the end
  pub early : outcome (edge 49 50 (problem [])) ≡ refused why.Order 1
  pub twice : outcome (problem (problem [])) ≡ refused why.Order 2
  pub without : outcome (99 ∷ []) ≡ refused why.Order 0
  -- leading zeros, two spaces
  pub padded : outcome (problem (101 ∷ 32 ∷ 48 ∷ 49 ∷ 32 ∷ 50 ∷ [])) ≡ refused why.Shape 2
  pub spaced : outcome (problem (101 ∷ 32 ∷ 49 ∷ 32 ∷ 32 ∷ 50 ∷ [])) ≡ refused why.Shape 2
  -- vertex 0, vertex 3 of 2, an edge from a vertex to itself
  pub vertex_none : outcome (problem (edge 48 49 [])) ≡ refused why.Vertex 2
  pub vertex_past : outcome (problem (edge 49 51 [])) ≡ refused why.Vertex 2
  pub loop : outcome (problem (edge 49 49 [])) ≡ refused why.Vertex 2
  -- the same edge again, and the other way round, gives no equation; the declared number is that of the lines
  pub again : answer_of (outcome (declared 50 (edge 49 50 (edge 49 50 [])))) ≡ read_graph 2 1
  pub turned : words_after (outcome (declared 51 (edge 49 50 (edge 50 49 (edge 49 50 []))))) [] ≡ words_after (outcome (problem (edge 49 50 []))) []
  pub lines : outcome (problem (edge 49 50 (edge 50 49 []))) ≡ refused why.Count 3
  pub more_lines : outcome (declared 51 (edge 49 50 (edge 50 49 []))) ≡ refused why.Count 0
  -- one e line too many, and one too few; the count comes before the vertices
  pub many : outcome (problem (edge 49 50 (edge 49 49 []))) ≡ refused why.Count 3
  pub few : outcome (problem []) ≡ refused why.Count 0
  -- 21 vertices
  pub limits : outcome (112 ∷ 32 ∷ 101 ∷ 100 ∷ 103 ∷ 101 ∷ 32 ∷ 50 ∷ 49 ∷ 32 ∷ 49 ∷ []) ≡ refused why.Limits 1
  -- too few words lent
  pub lent : outcome_of (problem (edge 49 50 [])) 461 ≡ refused why.Length 0

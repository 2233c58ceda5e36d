-- What the written text is: read, it gives the same graph; tidied again, itself.
use Rattle.std.specs.Prelude.{◌≡◌, List, ℕ, ◌≤◌, length, take}
use Rattle.graphs.specs.Edges.{Ends, has_edge}
use Rattle.graphs.specs.Reading.{words_least, graph, outcome_of}
use Rattle.tidying.specs.Tidy.{tidy_of, tidy_text}
use Rattle.exchange.specs.Answers.{tidied_to, tidied, answer_of, out_after}

-- the bytes of the longest text: a p line of 13 and 64 lines of 8
abbrev pub tidy_most : ℕ
tidy_most = 525

-- for a graph of v vertices and the different edges es that a text was read to
pub record Reread (v : ℕ) (es : List Ends) : Type 0 where
  -- the written text is read without refusal, to as many vertices, and to its edges in order
  pub read : outcome_of (tidy_text v es) words_least ≡ graph v (tidy_of (has_edge es))
  -- they are the same set, and E is the number of different edges
  pub same : (a b : ℕ) → has_edge (tidy_of (has_edge es)) a b ≡ has_edge es a b
  pub count : length (tidy_of (has_edge es)) ≡ length es
  -- no text is longer, so that an output of so many bytes is never too short
  pub most : length (tidy_text v es) ≤ tidy_most
  -- what is written stands at the front of the output
  pub front : (old : List ℕ) → take (length (tidy_text v es)) (out_after (graph v es) old) ≡ tidy_text v es
  -- tidied a second time, it is written as it is, and counts no comment, no repeated edge and no line with the larger vertex first
  pub again : (room : ℕ) → length (tidy_text v es) ≤ room → tidied (tidy_text v es) room ≡ graph v (tidy_of (has_edge es))
  pub bytes : (old : List ℕ) → out_after (graph v (tidy_of (has_edge es))) old ≡ out_after (graph v es) old
  pub none : answer_of (tidy_text v es) (graph v (tidy_of (has_edge es))) ≡ tidied_to (length (tidy_text v es)) 0 0 0

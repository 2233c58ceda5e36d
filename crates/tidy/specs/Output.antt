-- What the program writes for a text, and what it tells.
use Rattle.std.specs.Prelude.{◌≡◌, List, ℕ, length}
use Rattle.refusals.specs.Refusal.{number_of}
use Rattle.graphs.specs.Reading.{words_least, Outcome, graph, refused, outcome_of}
use Rattle.texts.specs.Text.{refusal_line, ended_line}
use Rattle.tidying.specs.Tidy.{tidy_text}
use Rattle.exchange.specs.Answers.{answer_of}
use Rattle.endings.specs.Endings.{Tells}
use Rattle.tidy.specs.declared.Ran.{Ran}

-- the whole output: the tidied text; or the refusal and its line
abbrev pub written_for : Outcome → List ℕ
written_for (graph v es) = tidy_text v es
written_for (refused r k) = refusal_line (number_of r) k

unfoldable pub output_of : List ℕ → List ℕ
output_of text = written_for (outcome_of text words_least)

-- what is told beside it: that it ended, or the refusal
abbrev pub told_for : Outcome → List ℕ
told_for (graph v es) = ended_line
told_for (refused r k) = refusal_line (number_of r) k

unfoldable pub told_of : List ℕ → List ℕ
told_of text = told_for (outcome_of text words_least)

-- a run on an input, after which b is the text told of: what it says in words is the answer, which never is that the output is too short
pub record Runs (input b : List ℕ) (r : Ran) : Type 0 where
  pub answer : r.answer ≡ answer_of input (outcome_of input words_least)
  pub ends : Tells (length (output_of input)) (told_of input) b r.ending

-- What the reader answers, and what it leaves in the words that it was lent.
use Rattle.std.specs.Prelude.{not, List, [], ◌∷◌, ◌++◌, ℕ, ◌*◌, eqb, ltb, length, drop, Result, Ok, Err}
use Rattle.refusals.specs.declared.Refusal.{Refusal}
use Rattle.refusals.specs.declared.Refusal.TheVariants as why
use Rattle.refusals.specs.Refusal.{number_of}
use Rattle.tables.specs.Monomials.{count_of}
use Rattle.tables.specs.Words.{words_of}
use Rattle.graphs.specs.Reading.{text_most, Outcome, graph, refused, number_at, refuse_at, outcome_of}
use Rattle.graphs.specs.declared.Fault.{Fault}
use Rattle.reader.specs.declared.Sizes.{Sizes}
use Rattle.equations.specs.Equations.{system_of}

-- the answer: n and m, or why not and the line
abbrev pub ReadAnswer : Type 0
ReadAnswer = Result Sizes Fault

abbrev pub read_graph : ℕ → ℕ → ReadAnswer
read_graph n m = Ok (record { n = n; m = m })

abbrev pub read_refused : Refusal → ℕ → ReadAnswer
read_refused r k = Err (record { why = r; line = k })

abbrev pub answer_of : Outcome → ReadAnswer
answer_of (graph v es) = read_graph v (length es)
answer_of (refused r k) = read_refused r k

-- document 01's number and values of an answer: 0, n and m; or the refusal's number and its line
abbrev pub read_told : ReadAnswer → List ℕ
read_told (Ok s) = 0 ∷ s.n ∷ s.m ∷ []
read_told (Err f) = number_of f.why ∷ f.line ∷ []

-- what has to be told of a text
abbrev pub outcome_told : Outcome → List ℕ
outcome_told (graph v es) = 0 ∷ v ∷ length es ∷ []
outcome_told (refused r k) = number_of r ∷ k ∷ []

-- the same for a caller that is told by words: 15, then 2 of the words told, then the reader's own
abbrev pub told_words : ℕ
told_words = 2

abbrev pub call_of : List ℕ → ℕ → ℕ → Outcome
call_of t w d = refuse_at (ltb text_most (length t)) why.Long 0 (refuse_at (not (eqb d told_words)) why.Length 0 (outcome_of t w))

-- what the call gives: 0, or the refusal's number plus 256 times its line
abbrev pub call_code : Outcome → ℕ
call_code (graph v es) = 0
call_code (refused r k) = number_at r k

-- the words told, after: n and m, or on a refusal as they were
abbrev pub told_after : Outcome → List ℕ → List ℕ
told_after (graph v es) old = v ∷ length es ∷ []
told_after (refused r k) old = old

-- the words after: the coefficient words first and the rest as it was; on a refusal all as they were
unfoldable pub words_after : Outcome → List ℕ → List ℕ
words_after (graph v es) old = words_of v (length es) (system_of es) ++ drop (2 * count_of v) old
words_after (refused r k) old = old

-- What writing a graph file back answers, and what it leaves in the output that it was lent.
use Rattle.std.specs.Prelude.{◌≡◌, not, List, [], ◌∷◌, ◌++◌, ℕ, eqb, ltb, length, drop, Result, Ok, Err}
use Rattle.refusals.specs.declared.Refusal.{Refusal}
use Rattle.refusals.specs.declared.Refusal.TheVariants as why
use Rattle.graphs.specs.Edges.{Ends}
use Rattle.graphs.specs.Reading.{text_most, words_least, Outcome, graph, refused, number_at, refuse_at, outcome_of}
use Rattle.graphs.specs.Scans.{Seen}
use Rattle.tidying.specs.Tidy.{tidy_text}
use Rattle.tallies.specs.Tallies.{comments_in, repeats_in, turned_in}
use Rattle.graphs.specs.declared.Fault.{Fault}
use Rattle.exchange.specs.declared.Tidied.{Tidied}

-- refusal 18, asked last: the output has too few bytes for the whole text
abbrev pub fitting : ℕ → Outcome → Outcome
fitting room (graph v es) = refuse_at (ltb room (length (tidy_text v es))) why.Room 0 (graph v es)
fitting room (refused r k) = refused r k

-- a text to be written back into so many bytes: the reader's outcome, where enough words are lent, so that 2 is never among its refusals
abbrev pub tidied : List ℕ → ℕ → Outcome
tidied t room = fitting room (outcome_of t words_least)

abbrev pub TidyAnswer : Type 0
TidyAnswer = Result Tidied Fault

abbrev pub tidied_to : ℕ → ℕ → ℕ → ℕ → TidyAnswer
tidied_to b c r t = Ok (record { bytes = b; comments = c; repeated = r; turned = t })

abbrev pub tidy_refused : Refusal → ℕ → TidyAnswer
tidy_refused r k = Err (record { why = r; line = k })

-- the answer: the bytes written, and the comments, repeated edges and lines with the larger vertex first that the text had
abbrev pub answer_of : List ℕ → Outcome → TidyAnswer
answer_of t (graph v es) = tidied_to (length (tidy_text v es)) (comments_in t) (repeats_in t) (turned_in t)
answer_of t (refused r k) = tidy_refused r k

-- the output after: the tidied text first and the rest as it was; on a refusal all as it was
unfoldable pub out_after : Outcome → List ℕ → List ℕ
out_after (graph v es) old = tidy_text v es ++ drop (length (tidy_text v es)) old
out_after (refused r k) old = old

-- what a call gives and leaves
abbrev pub Answers : List ℕ → Outcome → List ℕ → List ℕ → TidyAnswer → Type 0
Answers t o old new r = (r ≡ answer_of t o) × (new ≡ out_after o old)

-- ---- for a caller that is told by words
-- 15, then 2 of the words told, then the others
abbrev pub told_words : ℕ
told_words = 4

abbrev pub call_of : List ℕ → ℕ → ℕ → Outcome
call_of t room d = refuse_at (ltb text_most (length t)) why.Long 0 (refuse_at (not (eqb d told_words)) why.Length 0 (tidied t room))

-- 0, or the refusal's number plus 256 times its line
abbrev pub code_of : TidyAnswer → ℕ
code_of (Ok t) = 0
code_of (Err f) = number_at f.why f.line

-- the words told, after: the answer's four numbers, or on a refusal as they were
abbrev pub told_after : TidyAnswer → List ℕ → List ℕ
told_after (Ok t) old = t.bytes ∷ t.comments ∷ t.repeated ∷ t.turned ∷ []
told_after (Err f) old = old

-- ---- what the functions say to each other
-- a text that was read to a graph of v vertices and e edges, whose flags are s
pub record Reads (t : List ℕ) (v e : ℕ) (s : List ℕ) : Type 0 where
  pub edges : List Ends
  pub is : outcome_of t words_least ≡ graph v edges
  pub count : length edges ≡ e
  pub seen : Seen edges s

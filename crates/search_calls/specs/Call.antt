-- What the search over bytes gives, for every table, record, budget, list and answer whatever, all as bytes.
use Rattle.std.specs.Prelude.{not, ◌&&◌, List, ℕ, ◌*◌, ◌/◌, ◌%◌, ◌^◌, eqb, length, get_or}
use Rattle.refusals.specs.declared.Refusal.TheVariants.{Length}
use Rattle.refusals.specs.Refusal.{Verdict}
use Rattle.refusals.specs.Choice.{pick}
use Rattle.refusals.specs.Limits.{record_length}
use Rattle.refusals.specs.Refusal.{refuse, sized, after}
use Rattle.codec.specs.Codec.{words_in, bytes_from}
use Rattle.given.specs.declared.Degree.{Degree}
use Rattle.given.specs.declared.Degree.TheVariants.{Three}
use Rattle.given.specs.Given.{Given, count_in, table_with, degree_told}
use Rattle.opening.specs.declared.Record.{Record}
use Rattle.outcomes.specs.declared.Outcome.{Outcome}
use Rattle.outcomes.specs.Search.{search_verdict, answer_values}
use Rattle.lists.specs.Listed.{outcome_in, list_in}
use Rattle.wire.specs.Wire.{record_in, record_words}
use Rattle.answers.specs.Written.{answer_length}

-- how many bytes a table of n unknowns has: 16 for each monomial, of the degree that its own number of bytes tells
abbrev pub bytes_told : ℕ → ℕ → ℕ
bytes_told n table = 16 * count_in (degree_told n (table / 8)) n

-- refusal 2 over all arguments, given how many bytes each has: a table as many as it should, a record 3,720, an answer 40,
-- and a list a multiple of 8
abbrev pub shaped : ℕ → ℕ → ℕ → ℕ → ℕ → Verdict → Verdict
shaped n table rec list answer v =
    refuse (not (eqb table (bytes_told n table))) Length
    (refuse (not (eqb rec record_length)) Length
    (refuse (not (eqb (list % 8) 0)) Length
    (refuse (not (eqb answer answer_length)) Length v)))

-- the degree in which a table of so many words and a record are read. The number of words tells it, but at n = 1 tables of both degrees
-- have 6 words; values, lists and counts agree there, and only the second slot (0, 0), of the words high and low, differs: it is zero in
-- degree 2. So where it is not zero the record is one of degree 3. Where it is zero in degree 3 too, both degrees have the same record
abbrev pub reading_by : ℕ → ℕ → ℕ → ℕ → Degree
reading_by n words high low = pick (eqb n 1 && not (eqb high 0 && eqb low 0)) Three (degree_told n words)

abbrev pub reading_of : ℕ → ℕ → Record → Degree
reading_of n words r = reading_by n words (get_or r.seconds 0 0) (get_or r.seconds 1 0)

-- the table of a call, lent as bytes, with the bytes of a record
abbrev pub table_lent : ℕ → ℕ → List ℕ → List ℕ → Given
table_lent n m table rec = table_with (reading_of n (length table / 8) (record_in rec)) n m table

-- a table that is lent as bytes, read as words
abbrev pub in_words : Given → Given
in_words g = record { n = g.n; m = g.m; degree = g.degree; words = words_in g.words }

-- what the call says, of a table g that is lent as bytes: 1, then 2 over all arguments, then what the search says of the words
abbrev pub call_verdict : Given → List ℕ → ℕ → List ℕ → List ℕ → Verdict
call_verdict g rec budget list answer =
    sized g.n g.m
    (shaped g.n (length g.words) (length rec) (length list) (length answer)
    (search_verdict (in_words g) (record_in rec) budget (words_in list)))

-- what the search gives on the words
abbrev pub done_of : Given → List ℕ → ℕ → List ℕ → Outcome
done_of g rec budget list = outcome_in (in_words g) (record_in rec) budget list

-- the bytes of the record, the list and the answer after the call; with a refusal as they were
abbrev pub record_bytes_after : Given → List ℕ → ℕ → List ℕ → List ℕ → List ℕ
record_bytes_after g rec budget list answer =
    after (call_verdict g rec budget list answer) rec (bytes_from (record_words (done_of g rec budget list).«record»))

abbrev pub list_bytes_after : Given → List ℕ → ℕ → List ℕ → List ℕ → List ℕ
list_bytes_after g rec budget list answer =
    after (call_verdict g rec budget list answer) list (list_in (in_words g) (record_in rec) budget list)

abbrev pub answer_bytes_after : Given → List ℕ → ℕ → List ℕ → List ℕ → List ℕ
answer_bytes_after g rec budget list answer =
    after (call_verdict g rec budget list answer) answer (bytes_from (answer_values (3 ^ g.n) (done_of g rec budget list).answer))

-- What is written by an answer: for the code alone; a reader goes by search_calls/specs/Call.
use Rattle.std.specs.Prelude.{List, ℕ, Ok, Err}
use Rattle.codec.specs.Codec.{bytes_from}
use Rattle.opening.specs.declared.First.{First}
use Rattle.opening.specs.declared.Record.{Record}
use Rattle.outcomes.specs.Search.{Answer}
use Rattle.outcomes.specs.Search.{answer_values}
use Rattle.wire.specs.Wire.{record_words, parts_in}

-- the bytes of an answer: five words
abbrev pub answer_length : ℕ
answer_length = 40

-- the bytes of the record and of the answer: with a refusal those that were there
abbrev pub record_bytes : Answer → Record → List ℕ → List ℕ
record_bytes (Ok a) r old = bytes_from (record_words r)
record_bytes (Err f) r old = old

abbrev pub answer_bytes : ℕ → Answer → List ℕ → List ℕ
answer_bytes e (Ok a) old = bytes_from (answer_values e (Ok a))
answer_bytes e (Err f) old = old

-- the bytes of the record, of which the first part f and the words s of second slots are told: with a refusal those that were there
abbrev pub parts_bytes : Answer → First → List ℕ → List ℕ → List ℕ
parts_bytes (Ok a) f s old = parts_in old f s
parts_bytes (Err x) f s old = old

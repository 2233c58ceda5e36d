-- What a search whose lengths are right writes: for the code alone; a reader goes by specs/Call.
use Rattle.std.specs.Prelude.{◌≡◌, List, ℕ, ◌^◌}
use Rattle.refusals.specs.Refusal.{code_of, after}
use Rattle.codec.specs.Codec.{words_in, bytes_from}
use Rattle.given.specs.Given.{Given}
use Rattle.outcomes.specs.Search.{search_verdict, answer_values}
use Rattle.lists.specs.Listed.{outcome_in, list_in}
use Rattle.wire.specs.Wire.{record_in, record_words}

-- the number c, and the bytes of record, list and answer afterwards, of a table g in words and the bytes before
pub record Writes (g : Given) (rec : List ℕ) (budget : ℕ) (list answer : List ℕ) (c : ℕ) (rec' list' answer' : List ℕ) : Type 0 where
  pub number : c ≡ code_of (search_verdict g (record_in rec) budget (words_in list))
  pub moved : rec' ≡ after (search_verdict g (record_in rec) budget (words_in list)) rec (bytes_from (record_words (outcome_in g (record_in rec) budget list).«record»))
  pub listed : list' ≡ list_in g (record_in rec) budget list
  pub told : answer' ≡ after (search_verdict g (record_in rec) budget (words_in list)) answer (bytes_from (answer_values (3 ^ g.n) (outcome_in g (record_in rec) budget list).answer))

-- What a call on the parts of a record is lent, and what it leaves: for the code alone; a reader goes by outcomes/specs/Search.
use Rattle.std.specs.Prelude.{◌≡◌, List, ◌++◌, ℕ, length, drop}
use Rattle.given.specs.declared.Degree.{Degree}
use Rattle.opening.specs.declared.Record.{Record}
use Rattle.opening.specs.First.{lent_words, seconds_from}
use Rattle.outcomes.specs.First.{joined_of}
use Rattle.outcomes.specs.declared.Moved.{Moved}
use Rattle.outcomes.specs.declared.Outcome.{Outcome}

-- the words s, lent for the second slots of the record r
pub record Lent (d : Degree) (r : Record) (s : List ℕ) : Type 0 where
  pub whole : length r.seconds ≡ 420
  pub long : length s ≡ lent_words d
  pub same : seconds_from d s ≡ seconds_from d r.seconds

-- the outcome u, of what was moved and of the words s that were left where second slots were lent
pub record Left (d : Degree) (r : Record) (o : Moved) (s : List ℕ) (u : Outcome) : Type 0 where
  pub long : length s ≡ lent_words d
  pub outcome : u ≡ joined_of o.answer o.first r (s ++ drop (lent_words d) r.seconds)

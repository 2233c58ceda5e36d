-- A search whose list is bytes: what the search gives on the list's words, and the zeros' bytes from the front of the list.
use Rattle.std.specs.Prelude.{List, ℕ, length}
use Rattle.refusals.specs.Refusal.{after}
use Rattle.walks.specs.Calls.{points_in, zeros_in}
use Rattle.codec.specs.Codec.{words_in, bytes_from, pasted}
use Rattle.given.specs.Given.{Given}
use Rattle.opening.specs.declared.Record.{Record}
use Rattle.outcomes.specs.declared.Outcome.{Outcome}
use Rattle.outcomes.specs.Search.{trail_behind, search_verdict, outcome_of}

-- the points of the zeros that a call finds from place p, with budget b and room for c entries
abbrev pub found_in : Given → ℕ → ℕ → ℕ → List ℕ
found_in g p b c = zeros_in (trail_behind g) p (points_in (trail_behind g) b c p)

abbrev pub outcome_in : Given → Record → ℕ → List ℕ → Outcome
outcome_in g r b l = outcome_of g r b (words_in l)

-- the list after: the bytes of the zeros from the front, the rest as it was; with a refusal all of it
abbrev pub list_in : Given → Record → ℕ → List ℕ → List ℕ
list_in g r b l =
    after (search_verdict g r b (words_in l)) l (pasted l 0 (bytes_from (found_in g r.place.0 b (length (words_in l)))))

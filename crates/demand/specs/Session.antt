-- A run of calls on one record of one table: the search as an engine (walks/specs/Runs), and what its calls give together.
use Rattle.std.proofs.Math.Option.{Option, none, some}
use Rattle.std.specs.Prelude.{List, ℕ, Ok, Err}
use Rattle.walks.specs.declared.Report.{Report}
use Rattle.walks.specs.Runs.{Request, Engine, listed_in, Sums, sums_of}
use Rattle.given.specs.Given.{Given}
use Rattle.opening.specs.declared.Record.{Record}
use Rattle.outcomes.specs.Search.{Answer}
use Rattle.outcomes.specs.Search.{outcome_of, list_left}

-- what an answer tells: its report, or none with a refusal
abbrev pub told_of : Answer → Option Report
told_of (Ok w) = some w
told_of (Err f) = none

-- the entries that a call listed: the first `found` of its list
abbrev pub listed_of : Answer → List ℕ → List ℕ
listed_of a l = listed_in (told_of a) l

-- what a call gives back: the answer and the record of its outcome, and the list as it returned it
unfoldable pub call_of : Given → Engine Record
call_of g r q =
    let o = outcome_of g r q.budget q.list in
    record { told = told_of o.answer; state = o.«record»; list = list_left g r q.budget q.list }

-- a run of calls from a record
abbrev pub session_of : Given → Record → List Request → Sums Record
session_of g r qs = sums_of (call_of g) r qs

-- What one call of the search gives, for every table, record, budget and list whatever.
use Rattle.std.specs.Prelude.{◌≡◌, Bool, true, false, not, ◌&&◌, List, [], ◌∷◌, ℕ, ◌+◌, ◌^◌, eqb, leb, length, Ok, Err, Result}
use Rattle.refusals.specs.declared.Refusal.{Refusal}
use Rattle.refusals.specs.declared.Refusal.TheVariants as refusal
use Rattle.refusals.specs.Refusal.{Verdict, number_of, code_of, refuse, after, done}
use Rattle.trits.specs.declared.Vector.{Vector}
use Rattle.walks.specs.Calls.{Trail, points_in, stop_number, stop_place, report_of, list_after}
use Rattle.walks.specs.declared.Report.{Report}
use Rattle.held.specs.Stands.{trail_of}
use Rattle.given.specs.Given.{Given, depth_of, values_of, table_verdict}
use Rattle.opening.specs.declared.Record.{Record}
use Rattle.outcomes.specs.declared.Outcome.{Outcome}
use Rattle.opening.specs.Opened.{opened_at}

-- what a call says: how it stopped and what it did, or why it was refused
abbrev pub Answer : Type 0
Answer = Result Report Refusal

-- the walk of the system behind a table (held/specs/Stands): 3^n places; a zero is a common zero of the m equations,
-- listed as its point; a place costs an addition for each of its positions, at most as many as the degree
unfoldable pub trail_behind : Given → Trail
trail_behind g = trail_of 3 (depth_of g.degree) (values_of g) g.n g.m (3 ^ g.n)

-- whether two vectors, two lists and two records are the same
abbrev pub same_vector : Vector → Vector → Bool
same_vector a b = eqb a.high b.high && eqb a.low b.low

unfoldable pub same_list : {A : Type 0} → (A → A → Bool) → List A → List A → Bool
same_list same [] [] = true
same_list same [] (w ∷ ws) = false
same_list same (v ∷ vs) [] = false
same_list same (v ∷ vs) (w ∷ ws) = same v w && same_list same vs ws

unfoldable pub same_record : Record → Record → Bool
same_record r s =
    eqb r.n s.n && eqb r.m s.m && eqb r.place.0 s.place.0 && same_vector r.value s.value
    && same_list same_vector r.slots s.slots && same_list eqb r.seconds s.seconds

-- refusal 5: n or m is not the table's, the place is above 3^n, or the record differs from opening at its place
abbrev pub fits : Given → Record → Bool
fits g r = leb r.place.0 (3 ^ g.n) && same_record r (opened_at g r.place.0)

-- what a call is refused for, with a list of c entries
abbrev pub room_verdict : Given → Record → ℕ → ℕ → Verdict
room_verdict g r b c =
    table_verdict g (refuse (not (fits g r)) refusal.Record (refuse (eqb b 0) refusal.Budget (refuse (eqb c 0) refusal.List done)))

abbrev pub search_verdict : Given → Record → ℕ → List ℕ → Verdict
search_verdict g r b l = room_verdict g r b (length l)

-- the answer: what the call did, or the refusal alone
abbrev pub answer_from : Verdict → Outcome → Answer
answer_from (Ok _) o = o.answer
answer_from (Err f) o = Err f

-- a call from place p that nothing refuses, with budget b and a list of c entries: its report, and the record opened at the place to which it came
abbrev pub ran_of : Given → ℕ → ℕ → ℕ → Outcome
ran_of g p b c =
    record { answer = Ok (report_of (trail_behind g) b c p); «record» = opened_at g (p + points_in (trail_behind g) b c p) }

-- a call, by the verdict: the record as it was where it is refused
abbrev pub outcome_from : Verdict → Record → Outcome → Outcome
outcome_from v r o = record { answer = answer_from v o; «record» = after v r o.«record» }

abbrev pub outcome_of : Given → Record → ℕ → List ℕ → Outcome
outcome_of g r b l = outcome_from (search_verdict g r b l) r (ran_of g r.place.0 b (length l))

-- the list that a call leaves: the zeros from the front, the rest as it was
abbrev pub list_left : Given → Record → ℕ → List ℕ → List ℕ
list_left g r b l = after (search_verdict g r b l) l (list_after (trail_behind g) b r.place.0 l)

-- document 01's number for an answer
abbrev pub answer_number : Answer → ℕ
answer_number (Ok r) = 0
answer_number (Err f) = number_of f

-- and its values, for a walk that ends at place e: stop, place, points, additions and found; none with a refusal
abbrev pub answer_values : ℕ → Answer → List ℕ
answer_values e (Ok r) = stop_number r.stop ∷ stop_place e r.stop ∷ r.points ∷ r.additions ∷ r.found ∷ []
answer_values e (Err f) = []

-- what a call has to tell by them
abbrev pub values_from : Verdict → ℕ → Report → List ℕ
values_from (Ok _) e w = answer_values e (Ok w)
values_from (Err f) e w = []

pub record Tells (g : Given) (r : Record) (b : ℕ) (l : List ℕ) (a : Answer) : Type 0 where
  pub number : answer_number a ≡ code_of (search_verdict g r b l)
  pub values : answer_values (3 ^ g.n) a ≡ values_from (search_verdict g r b l) (3 ^ g.n) (report_of (trail_behind g) b (length l) r.place.0)

-- A call on a record in two parts: its first part, and the words that are lent for its second slots (opening/specs/First).
use Rattle.std.specs.Prelude.{Bool, ◌&&◌, List, ℕ, eqb, Ok, Err}
use Rattle.refusals.specs.Choice.{pick}
use Rattle.given.specs.declared.Degree.{Degree}
use Rattle.given.specs.declared.Degree.TheVariants.{Two, Three}
use Rattle.opening.specs.declared.First.{First}
use Rattle.opening.specs.declared.Record.{Record}
use Rattle.opening.specs.First.{all_zero, whole_of}
use Rattle.outcomes.specs.Search.{Answer}
use Rattle.outcomes.specs.declared.Moved.{Moved}
use Rattle.outcomes.specs.declared.Outcome.{Outcome}
use Rattle.outcomes.specs.Search.{same_vector, same_list}

-- the first part with which a record is given to a call. In degree 2 a record that has second slots fits no table: it is given with n = 0,
-- which is the n of none
abbrev pub n_for : Degree → ℕ → Bool → ℕ
n_for Two n zero = pick zero n 0
n_for Three n zero = n

abbrev pub first_for : Degree → Record → First
first_for d r = record { n = n_for d r.n (all_zero r.seconds); m = r.m; place = r.place; value = r.value; slots = r.slots }

-- the outcome of a call that left the words s where second slots were lent
abbrev pub outcome_with : Degree → Moved → List ℕ → Outcome
outcome_with d o s = record { answer = o.answer; «record» = whole_of d o.first s }

-- ---- for the code alone; a reader goes by specs/Search
-- whether two first parts are the same: what specs/Search asks of two records, but for their second slots
unfoldable pub same_first : First → First → Bool
same_first r s =
    eqb r.n s.n && eqb r.m s.m && eqb r.place.0 s.place.0 && same_vector r.value s.value
    && same_list same_vector r.slots s.slots

-- the outcome of a call on the record r, of which it left the first part f and the second slots s; with a refusal the record is as it was
unfoldable pub joined_of : Answer → First → Record → List ℕ → Outcome
joined_of (Ok x) f r s =
    record { answer = Ok x; «record» = record { n = f.n; m = f.m; place = f.place; value = f.value; slots = f.slots; seconds = s } }
joined_of (Err x) f r s = record { answer = Err x; «record» = r }

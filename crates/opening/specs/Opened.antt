-- The walk record of a table at a place: what given/specs/Slots says of it, and what opening answers.
use Rattle.std.specs.Prelude.{ℕ, ◌-◌, ◌^◌, ltb, replicate, Ok, Err, Result}
use Rattle.refusals.specs.declared.Refusal.{Refusal}
use Rattle.refusals.specs.declared.Refusal.TheVariants.{Range}
use Rattle.refusals.specs.Refusal.{Verdict, number_of, refuse, done}
use Rattle.trits.specs.Trit.{none}
use Rattle.given.specs.Given.{Given, table_verdict}
use Rattle.given.specs.Slots.{value_at, slots_at, seconds_at}
use Rattle.opening.specs.declared.Record.{Record}

-- the record at place p; with q as document 01 has it, p - 1 or 0 when p is 0
unfoldable pub opened_at : Given → ℕ → Record
opened_at g p =
    record { n = g.n; m = g.m; place = record { 0 = p }; value = value_at g (p - 1); slots = slots_at g (p - 1) 0 20; seconds = seconds_at g (p - 1) 0 20 }

-- the record of zeros
abbrev pub no_record : Record
no_record = record { n = 0; m = 0; place = record { 0 = 0 }; value = none; slots = replicate 20 none; seconds = replicate 420 0 }

-- what opening says: the record, or why it refuses
abbrev pub Opened : Type 0
Opened = Result Record Refusal

abbrev pub refused_open : Refusal → Opened
refused_open f = Err f

-- the answer that goes with a verdict
abbrev pub opened_by : Verdict → Record → Opened
opened_by (Ok _) r = Ok r
opened_by (Err f) r = Err f

-- what opening answers
abbrev pub open_verdict : Given → ℕ → Verdict
open_verdict g p = table_verdict g (refuse (ltb (3 ^ g.n) p) Range done)

abbrev pub open_of : Given → ℕ → Opened
open_of g p = opened_by (open_verdict g p) (opened_at g p)

-- document 01's number for an answer, and its record: the one of zeros with a refusal
abbrev pub opened_code : Opened → ℕ
opened_code (Ok r) = 0
opened_code (Err f) = number_of f

abbrev pub record_of : Opened → Record
record_of (Ok r) = r
record_of (Err f) = no_record

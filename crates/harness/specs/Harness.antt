-- A run of `vayudrit_search` calls as a C program has it: table, record, list and answer are bytes. It is an engine (walks/specs/Runs)
-- whose state is the record's bytes, and what it told is read from the number that it returned and from the answer's bytes.
use Rattle.std.specs.Prelude.{◌≡◌, ◌↔◌, Bool, true, false, ◌&&◌, List, [], ◌∷◌, map, ℕ, zero, suc, ◌+◌, ◌/◌, ◌^◌, ltb, length, get_or}
use Rattle.std.proofs.Math.Option.{Option, none, some}
use Rattle.refusals.specs.Choice.{pick}
use Rattle.refusals.specs.Refusal.{code_of}
use Rattle.gray.specs.Numbers.{point_of}
use Rattle.walks.specs.declared.Report.{Report}
use Rattle.walks.specs.declared.Stop.{Stop}
use Rattle.walks.specs.declared.Stop.TheVariants.{Ended, Full, Spent}
use Rattle.walks.specs.Calls.{stop_number}
use Rattle.walks.specs.Runs.{Request, Reply, Engine, points_told, away_with, Sums, sums_of, EachReply}
use Rattle.walks.specs.Zeros.{places_in, Holds, Once}
use Rattle.codec.specs.Codec.{words_in, bytes_from}
use Rattle.given.specs.Given.{Given, Checked, degree_told}
use Rattle.opening.specs.Opened.{opened_at}
use Rattle.outcomes.specs.Search.{trail_behind}
use Rattle.demand.specs.Demand.{CommonZero, all_additions}
use Rattle.wire.specs.Wire.{record_words}
use Rattle.search_calls.specs.Call.{bytes_told, table_lent, in_words, call_verdict, record_bytes_after, list_bytes_after, answer_bytes_after}

-- the report that the five words of an answer say
abbrev pub stop_said : ℕ → ℕ → Stop
stop_said zero x = Ended
stop_said (suc zero) x = Full (record { 0 = x })
stop_said (suc (suc k)) x = Spent (record { 0 = x })

abbrev pub report_said : List ℕ → Report
report_said w = record { stop = stop_said (get_or w 0 0) (get_or w 1 0); points = get_or w 2 0; additions = get_or w 3 0; found = get_or w 4 0 }

-- what a call told: with 0 the report in the answer's bytes, with any other number nothing
abbrev pub told_by : ℕ → List ℕ → Option Report
told_by zero answer = some (report_said (words_in answer))
told_by (suc c) answer = none

-- one call on bytes, as those of the table g are: the list is lent as the bytes of its words, and read as words again
abbrev pub reply_on : Given → List ℕ → List ℕ → Request → Reply (List ℕ)
reply_on g answer rec q =
    record {
      told = told_by (code_of (call_verdict g rec q.budget (bytes_from q.list) answer)) (answer_bytes_after g rec q.budget (bytes_from q.list) answer);
      state = record_bytes_after g rec q.budget (bytes_from q.list) answer;
      list = words_in (list_bytes_after g rec q.budget (bytes_from q.list) answer);
    }

-- the table as the call reads it, which is not told the degree
abbrev pub called : Given → List ℕ → Given
called g rec = table_lent g.n g.m g.words rec

abbrev pub reply_by : Given → List ℕ → List ℕ → Request → Reply (List ℕ)
reply_by g answer rec q = reply_on (called g rec) answer rec q

-- whether every number of a list is a word; a list that is none can't be lent, and nothing is called
unfoldable pub are_words : List ℕ → Bool
are_words [] = true
are_words (w ∷ ws) = ltb w (2 ^ 64) && are_words ws

abbrev pub lent_if : Bool → Reply (List ℕ) → Reply (List ℕ) → Reply (List ℕ)
lent_if true a b = a
lent_if false a b = b

-- the engine; `answers` says what the answer's bytes held before each call
unfoldable pub bytes_call : Given → (List ℕ → Request → List ℕ) → Engine (List ℕ)
bytes_call g answers rec q = lent_if (are_words q.list) (reply_by g (answers rec q) rec q) (away_with rec q)

-- the bytes of the record opened at place p
unfoldable pub record_at : Given → ℕ → List ℕ
record_at g p = bytes_from (record_words (opened_at (in_words g) p))

-- a checked table of the degree that its number of bytes tells, which is exact, and 40 bytes for each answer
pub record Lent (g : Given) (answers : List ℕ → Request → List ℕ) : Type 0 where
  pub degree : g.degree ≡ degree_told g.n (length g.words / 8)
  pub bytes : length g.words ≡ bytes_told g.n (length g.words)
  pub checked : Checked (in_words g)
  pub answer : (rec : List ℕ) (q : Request) → length (answers rec q) ≡ 40

-- the answer's bytes after a call
abbrev pub answer_after : Given → (List ℕ → Request → List ℕ) → List ℕ → Request → List ℕ
answer_after g answers rec q =
    pick (are_words q.list) (answer_bytes_after (called g rec) rec q.budget (bytes_from q.list) (answers rec q)) (answers rec q)

-- what they are: as they were where it told nothing; where it told w, from place p, the words stop, place, points, additions and found,
-- and the place is the one that it came to, also when it ended
abbrev pub OneAnswer : ℕ → List ℕ → List ℕ → Option Report → Type 0
OneAnswer p old new none = new ≡ old
OneAnswer p old new (some w) = words_in new ≡ stop_number w.stop ∷ (p + w.points) ∷ w.points ∷ w.additions ∷ w.found ∷ []

-- that of every call of a run, each begun with the record that the one before left
abbrev pub EachAnswer : Given → (List ℕ → Request → List ℕ) → ℕ → List ℕ → List Request → Type 0
EachAnswer g answers p rec [] = Unit {0}
EachAnswer g answers p rec (q ∷ qs) =
    OneAnswer p (answers rec q) (answer_after g answers rec q) (bytes_call g answers rec q).told
    × EachAnswer g answers (p + points_told (bytes_call g answers rec q).told) (bytes_call g answers rec q).state qs

-- the run from the record opened at place 0
abbrev pub night_of : Given → (List ℕ → Request → List ℕ) → List Request → Sums (List ℕ)
night_of g answers qs = sums_of (bytes_call g answers) (record_at g 0) qs

-- demand 3 over bytes, of a run whose last accepted answer says "ended": each call was refused and changed no byte of record, list and answer,
-- or its answer tells that it examined the next places, at most its budget, at least one before the end, its record's bytes are those
-- opened at the place it came to, and its list has the zeros among its own places in front and the rest as it was;
-- the joined lists are all common zeros, each once, in Gray order; points and additions sum to those of the whole walk
pub record WholeNight (g : Given) (answers : List ℕ → Request → List ℕ) (qs : List Request) : Type 0 where
  pub each : EachReply (trail_behind (in_words g)) (record_at g) (bytes_call g answers) 0 (record_at g 0) qs
  pub answered : EachAnswer g answers 0 (record_at g 0) qs
  pub last : (night_of g answers qs).last ≡ record_at g (3 ^ g.n)
  pub all : (x : ℕ) → Holds x (night_of g answers qs).listed ↔ CommonZero (in_words g) x
  pub once : Once (night_of g answers qs).listed
  pub order : (night_of g answers qs).listed ≡ map (point_of 3 g.n) (places_in (trail_behind (in_words g)) 0 (3 ^ g.n))
  pub points : (night_of g answers qs).points ≡ 3 ^ g.n
  pub additions : (night_of g answers qs).additions ≡ all_additions g

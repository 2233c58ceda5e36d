-- A run of calls as its user has it, over any engine: a call gets a budget and a list, and gives back an answer, the state and the list.
use Rattle.std.specs.Prelude.{◌≡◌, ◌⊎◌, ◌↔◌, Bool, true, false, ◌||◌, List, [], ◌∷◌, ◌++◌, map, ℕ, ◌+◌, ◌≤◌, ◌<◌, eqb, length, take, drop}
use Rattle.std.proofs.Math.Option.{Option, none, some}
use Rattle.walks.specs.declared.Stop.TheVariants.{Ended}
use Rattle.walks.specs.declared.Report.{Report}
use Rattle.walks.specs.Calls.{Trail, zeros_in, cost_in, points_in, stop_at, stop_place, report_of, list_after}
use Rattle.walks.specs.Zeros.{places_in, Holds}

-- a request: a budget, and a list as it was lent
pub record Request : Type 0 where
  pub budget : ℕ
  pub list : List ℕ

-- what a call gives back: what it told (a report, or none where it was refused), the state after, and the list as it returned it
pub record Reply (S : Type 0) : Type 0 where
  pub told : Option Report
  pub state : S
  pub list : List ℕ

-- what each call gives back, from any state
abbrev pub Engine : Type 0 → Type 0
Engine S = S → Request → Reply S

-- the counts of an answer, which a refusal has none of
abbrev pub calls_in : Option Report → ℕ
calls_in none = 0
calls_in (some w) = 1

abbrev pub points_told : Option Report → ℕ
points_told none = 0
points_told (some w) = w.points

abbrev pub additions_told : Option Report → ℕ
additions_told none = 0
additions_told (some w) = w.additions

abbrev pub found_told : Option Report → ℕ
found_told none = 0
found_told (some w) = w.found

-- the entries that a call listed: the first `found` of the list as it returned it
abbrev pub listed_in : Option Report → List ℕ → List ℕ
listed_in none l = []
listed_in (some w) l = take w.found l

-- the later of two answers that is no refusal
abbrev pub last_told : Option Report → Option Report → Option Report
last_told a none = a
last_told a (some w) = some w

-- ---- what the calls of a run gave together, refused ones left out: the state after, how many ran, points, additions and
-- zeros found summed, lists joined, and the last answer that is no refusal
pub record Sums (S : Type 0) : Type 0 where
  pub last : S
  pub calls : ℕ
  pub points : ℕ
  pub additions : ℕ
  pub found : ℕ
  pub listed : List ℕ
  pub told : Option Report

unfoldable pub sums_of : {S : Type 0} → Engine S → S → List Request → Sums S
sums_of E s [] = record { last = s; calls = 0; points = 0; additions = 0; found = 0; listed = []; told = none }
sums_of E s (q ∷ qs) =
    let r = E s q in
    let u = sums_of E r.state qs in
    record {
      last = u.last;
      calls = calls_in r.told + u.calls;
      points = points_told r.told + u.points;
      additions = additions_told r.told + u.additions;
      found = found_told r.told + u.found;
      listed = listed_in r.told r.list ++ u.listed;
      told = last_told r.told u.told;
    }

-- the last answer says that the walk has ended
abbrev pub SaysEnded : Option Report → Type 0
SaysEnded none = ⊥
SaysEnded (some w) = w.stop ≡ Ended

-- ---- what each answer of a run promises, over a walk and the state `at` each of its places
-- a refused call: state and list are as they were
pub record Kept {S : Type 0} (s : S) (q : Request) (r : Reply S) : Type 0 where
  pub state : r.state ≡ s
  pub list : r.list ≡ q.list

-- a call that told w, from place p: it examined the next places, at most its budget and at least one before the end; the state is that
-- at the place it came to, which it tells with its stop; the first entries of its list are exactly the zeros among its own places, and the rest of the list is as it was
pub record Moved (T : Trail) {S : Type 0} (at : ℕ → S) (p : ℕ) (q : Request) (r : Reply S) (w : Report) : Type 0 where
  pub budget : w.points ≤ q.budget
  pub one : p < T.end → 0 < w.points
  pub within : p + w.points ≤ T.end
  pub state : r.state ≡ at (p + w.points)
  pub stop : w.stop ≡ stop_at T (length q.list) w.found (p + w.points)
  pub place : stop_place T.end w.stop ≡ p + w.points
  pub additions : w.additions ≡ cost_in T p w.points
  pub found : w.found ≡ length (zeros_in T p w.points)
  pub zeros : take w.found r.list ≡ zeros_in T p w.points
  pub rest : drop w.found r.list ≡ drop w.found q.list

abbrev pub OneReply : (T : Trail) {S : Type 0} → (ℕ → S) → ℕ → S → Request → Reply S → Option Report → Type 0
OneReply T at p s q r none = Kept s q r
OneReply T at p s q r (some w) = Moved T at p q r w

-- that of every call, each begun with the state that the one before gave back; p goes by the points that the answers told
abbrev pub EachReply : (T : Trail) {S : Type 0} → (ℕ → S) → Engine S → ℕ → S → List Request → Type 0
EachReply T at E p s [] = Unit {0}
EachReply T at E p s (q ∷ qs) = OneReply T at p s q (E s q) (E s q).told × EachReply T at E (p + points_told (E s q).told) (E s q).state qs

-- ---- demand 3, of a run from the state at place 0 whose last answer is "ended": each answer keeps its promise, together they list
-- all zeros of the walk in order, tell as many as found, and examine as many points and make the additions that the whole walk has
pub record WholeRun (T : Trail) {S : Type 0} (at : ℕ → S) (E : Engine S) (qs : List Request) : Type 0 where
  pub each : EachReply T at E 0 (at 0) qs
  pub last : (sums_of E (at 0) qs).last ≡ at T.end
  pub order : (sums_of E (at 0) qs).listed ≡ map T.entry (places_in T 0 T.end)
  pub all : (x : ℕ) → Holds x (sums_of E (at 0) qs).listed ↔ ((a : ℕ) × (a < T.end) × (T.zero_at a ≡ true) × (T.entry a ≡ x))
  pub points : (sums_of E (at 0) qs).points ≡ T.end
  pub additions : (sums_of E (at 0) qs).additions ≡ cost_in T 0 T.end
  pub found : (sums_of E (at 0) qs).found ≡ length (zeros_in T 0 T.end)

-- ---- what is asked of an engine
-- a request with a budget and with room in its list, and how many of a run are such
pub record Asks (q : Request) : Type 0 where
  pub budget : 0 < q.budget
  pub room : 0 < length q.list

abbrev pub unless : Bool → ℕ
unless true = 0
unless false = 1

unfoldable pub asked_in : List Request → ℕ
asked_in [] = 0
asked_in (q ∷ qs) = unless (eqb q.budget 0 || eqb (length q.list) 0) + asked_in qs

-- a refusal, and a call on the walk
abbrev pub away_with : {S : Type 0} → S → Request → Reply S
away_with s q = record { told = none; state = s; list = q.list }

abbrev pub ran_by : (T : Trail) {S : Type 0} → (ℕ → S) → ℕ → Request → Reply S
ran_by T at p q =
    record {
      told = some (report_of T q.budget (length q.list) p);
      state = at (p + points_in T q.budget (length q.list) p);
      list = list_after T q.budget p q.list;
    }

-- from the state at a place, a call is refused and changes nothing, or it is a call on the walk
abbrev pub Serves : (T : Trail) {S : Type 0} → (ℕ → S) → Engine S → Type 0
Serves T at E = (p : ℕ) (q : Request) → p ≤ T.end → (E (at p) q ≡ away_with (at p) q) ⊎ (Asks q × (E (at p) q ≡ ran_by T at p q))

-- and it is not refused where it asks for something
abbrev pub Willing : (T : Trail) {S : Type 0} → (ℕ → S) → Engine S → Type 0
Willing T at E = (p : ℕ) (q : Request) → p ≤ T.end → Asks q → E (at p) q ≡ ran_by T at p q

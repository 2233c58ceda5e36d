-- Calls on a walk as a planner sees them: what one call gives. Runs of calls are in specs/Runs.
use Rattle.std.specs.Prelude.{◌≡◌, Bool, true, false, ◌||◌, ◌⊎◌, List, [], ◌∷◌, ◌++◌, ℕ, zero, suc, ◌+◌, ◌-◌, ◌≤◌, ◌<◌, eqb, length, drop}
use Rattle.refusals.specs.Choice.{pick}
use Rattle.walks.specs.declared.Stop.{Stop}
use Rattle.walks.specs.declared.Stop.TheVariants.{Ended, Full, Spent}
use Rattle.walks.specs.declared.Report.{Report}

-- a walk of the places 0 to end - 1: at each, whether it is a zero, what is listed for it, and what it costs
pub record Trail : Type 0 where
  pub end : ℕ
  pub zero_at : ℕ → Bool
  pub entry : ℕ → ℕ
  pub cost : ℕ → ℕ

-- x before l, where the test holds
abbrev pub listed : Bool → ℕ → List ℕ → List ℕ
listed true x l = x ∷ l
listed false x l = l

-- the entries of the zeros among k places from p, in order
unfoldable pub zeros_in : Trail → ℕ → ℕ → List ℕ
zeros_in T p zero = []
zeros_in T p (suc k) = listed (T.zero_at p) (T.entry p) (zeros_in T (suc p) k)

-- the additions of k places from p
unfoldable pub cost_in : Trail → ℕ → ℕ → ℕ
cost_in T p zero = 0
cost_in T p (suc k) = T.cost p + cost_in T (suc p) k

-- the room for zeros that place p leaves of c
abbrev pub room_after : Bool → ℕ → ℕ
room_after true c = c - 1
room_after false c = c

-- how many places a call examines, from place p with budget b and room for c zeros: up to the end, a full list or a spent budget
unfoldable pub points_in : Trail → ℕ → ℕ → ℕ → ℕ
points_in T zero c p = 0
points_in T (suc b) c p = elim (eqb p T.end || eqb c 0) [ true ↦ 0 | false ↦ suc (points_in T b (room_after (T.zero_at p) c) (suc p)) ]

-- the same said without steps: after k places it has to stop, and after fewer it had not
pub record FirstStop (T : Trail) (b c p k : ℕ) : Type 0 where
  pub most : k ≤ b
  pub goes : (j : ℕ) → j < k → (p + j ≡ T.end → ⊥) × (length (zeros_in T p j) < c)
  pub here : (p + k ≡ T.end) ⊎ (length (zeros_in T p k) ≡ c) ⊎ (k ≡ b)

-- why a call stopped before place p of a walk that ends at place e, with f of c entries used: asked in the order ended, full, spent;
-- with full and spent goes the place next to be examined
abbrev pub stop_from : ℕ → ℕ → ℕ → ℕ → Stop
stop_from p e f c = pick (eqb p e) Ended (pick (eqb f c) (Full (record { 0 = p })) (Spent (record { 0 = p })))

abbrev pub stop_at : Trail → ℕ → ℕ → ℕ → Stop
stop_at T c f p = stop_from p T.end f c

-- document 01's number of a stop
abbrev pub stop_number : Stop → ℕ
stop_number Ended = 0
stop_number (Full x) = 1
stop_number (Spent x) = 2

-- the place that a caller gets with it: that of the record, which is the end e of the walk when it ended
abbrev pub stop_place : ℕ → Stop → ℕ
stop_place e Ended = e
stop_place e (Full x) = x.0
stop_place e (Spent x) = x.0

-- what a call answers that examined k places from p
abbrev pub report_in : Trail → ℕ → ℕ → ℕ → Report
report_in T c p k =
    record { stop = stop_at T c (length (zeros_in T p k)) (p + k); points = k; additions = cost_in T p k; found = length (zeros_in T p k) }

-- what a call answers, from place p with budget b and room for c zeros
unfoldable pub report_of : Trail → ℕ → ℕ → ℕ → Report
report_of T b c p = report_in T c p (points_in T b c p)

-- the list l after a call: the zeros from the front, the rest as it was
unfoldable pub list_after : Trail → ℕ → ℕ → List ℕ → List ℕ
list_after T b p l = zeros_in T p (points_in T b (length l) p) ++ drop (length (zeros_in T p (points_in T b (length l) p))) l

-- what a search leaves that answers as a call does, from place p with the budget b and the list l: the place x that it came to,
-- a additions and f zeros, as the report says, its stop, and the list k after it
pub record Answered (T : Trail) (b p : ℕ) (l : List ℕ) (x a f : ℕ) (k : List ℕ) : Type 0 where
  pub place : x ≡ p + (report_of T b (length l) p).points
  pub additions : a ≡ (report_of T b (length l) p).additions
  pub found : f ≡ (report_of T b (length l) p).found
  pub stop : stop_at T (length l) f x ≡ (report_of T b (length l) p).stop
  pub list : k ≡ list_after T b p l

-- the same walk with another end
abbrev pub until : Trail → ℕ → Trail
until T e = record { end = e; zero_at = T.zero_at; entry = T.entry; cost = T.cost }

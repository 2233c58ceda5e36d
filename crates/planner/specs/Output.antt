-- What the program writes for a text, and what is left to write of it between two calls of the search.
use Rattle.std.specs.Prelude.{◌≡◌, Bool, true, not, ◌&&◌, List, [], ◌∷◌, ◌++◌, ℕ, zero, suc, ◌+◌, ◌-◌, ◌*◌, ◌^◌, ◌≤◌, ◌<◌, eqb, length, take, drop, Result, Ok, Err}
use Rattle.refusals.specs.Refusal.{number_of}
use Rattle.gray.specs.Numbers.{point_digit, point_of}
use Rattle.tables.specs.Monomials.{count_of}
use Rattle.graphs.specs.Edges.{Ends}
use Rattle.graphs.specs.Reading.{words_least, Outcome, graph, refused, outcome_of}
use Rattle.walks.specs.Calls.{Trail, listed, zeros_in, cost_in, points_in, list_after}
use Rattle.given.specs.Given.{Given, quadratic, Checked}
use Rattle.outcomes.specs.Search.{trail_behind}
use Rattle.opening.specs.Opened.{opened_at}
use Rattle.planner.specs.declared.Session.{Session}
use Rattle.texts.specs.Text.{refusal_line, line_if}
use Rattle.listing.specs.Listing.{layout_lines, head_line, totals_line}

-- ---- for planners
-- whether the ends of every edge differ at the point of place p
unfoldable pub differ_at : List Ends → ℕ → Bool
differ_at [] p = true
differ_at (x ∷ es) p = not (eqb (point_digit 3 p (x.one - 1)) (point_digit 3 p (x.other - 1))) && differ_at es p

-- the layouts among k places from p: the points at which the ends of every edge differ, in Gray order
unfoldable pub layouts_in : ℕ → List Ends → ℕ → ℕ → List ℕ
layouts_in n es p zero = []
layouts_in n es p (suc k) = listed (differ_at es p) (point_of 3 n p) (layouts_in n es (suc p) k)

-- the totals of the whole walk
abbrev pub totals_for : ℕ → List Ends → List ℕ
totals_for v es = totals_line (3 ^ v) (2 * (3 ^ v - 1) - v) (length (layouts_in v es 0 (3 ^ v)))

-- the whole output: the head, a line for every layout and the totals; or the refusal and its line
abbrev pub written_for : Outcome → List ℕ
written_for (graph v es) = head_line v (length es) ++ (layout_lines v (layouts_in v es 0 (3 ^ v)) ++ totals_for v es)
written_for (refused r k) = refusal_line (number_of r) k

unfoldable pub output_of : List ℕ → List ℕ
output_of text = written_for (outcome_of text words_least)

-- what is told beside the output once all of it was written: the output without its layouts
abbrev pub told_for : Outcome → List ℕ
told_for (graph v es) = head_line v (length es) ++ totals_for v es
told_for (refused r k) = refusal_line (number_of r) k

unfoldable pub told_of : List ℕ → List ℕ
told_of text = told_for (outcome_of text words_least)

-- ---- between two calls
-- the table of a session, with what is told beside it
abbrev pub own_table : List ℕ → Session → Given
own_table t s = quadratic s.n s.m t

-- a session at place p of a checked table: its record and its counts are those of the places before p
pub record Standing (t : List ℕ) (s : Session) : Type 0 where
  pub checked : Checked (own_table t s)
  pub within : s.points ≤ 3 ^ s.n
  pub «record» : s.«record» ≡ opened_at (own_table t s) s.points
  pub additions : s.additions ≡ cost_in (trail_behind (own_table t s)) 0 s.points
  pub found : s.found ≡ length (zeros_in (trail_behind (own_table t s)) 0 s.points)

-- the totals of the walk T
abbrev pub totals_of : Trail → List ℕ
totals_of T = totals_line T.end (cost_in T 0 T.end) (length (zeros_in T 0 T.end))

-- what is left to write of the walk T of n unknowns from place p on
unfoldable pub left_from : ℕ → Trail → ℕ → List ℕ
left_from n T p = layout_lines n (zeros_in T p (T.end - p)) ++ totals_of T

-- what is left to write: nothing once the session is over
unfoldable pub left_of : List ℕ → Session → List ℕ
left_of t s = line_if s.open (left_from s.n (trail_behind (own_table t s)) s.points)

-- what is told of a walk at its end: the head and the totals
unfoldable pub walk_told : List ℕ → Session → List ℕ
walk_told t s = head_line s.n s.m ++ totals_of (trail_behind (own_table t s))

-- after reading a graph: what is to be written first, and the rest, are the whole output, and the session goes on
pub record Begins (input table b : List ℕ) (r : Session) : Type 0 where
  pub output : output_of input ≡ take r.used b ++ left_of (take (2 * count_of r.n) table) r
  pub told : told_of input ≡ walk_told (take (2 * count_of r.n) table) r
  pub standing : Standing (take (2 * count_of r.n) table) r
  pub going : r.open ≡ true
  pub used : r.used ≤ length b

-- after a refusal: it is the whole output, and what is told beside it
pub record Refuses (input b : List ℕ) (used : ℕ) : Type 0 where
  pub output : output_of input ≡ take used b
  pub told : told_of input ≡ take used b
  pub fits : used ≤ length b

-- after reading
abbrev pub Begun : List ℕ → List ℕ → List ℕ → Result Session ℕ → Type 0
Begun input table b (Ok s) = Begins input table b s
Begun input table b (Err k) = Refuses input b k

-- after a call: what is to be written next, and the rest, are what was left; while the session is open it goes on
pub record Went (t : List ℕ) (s : Session) (b : List ℕ) (r : Session) : Type 0 where
  pub output : left_of t s ≡ take r.used b ++ left_of t r
  pub standing : Standing t r
  pub unknowns : r.n ≡ s.n
  pub equations : r.m ≡ s.m
  pub on : r.open ≡ true → s.points < r.points
  pub used : r.used ≤ length b

-- and exactly: the points examined are those of a call with this budget and a list so long, the list is as the call leaves it, the session
-- is over exactly at the end of the walk, and the bytes of the text from `used` on are as they were
pub record Stepped (t : List ℕ) (s : Session) (budget : ℕ) (l after old new : List ℕ) (r : Session) : Type 0 where
  pub points : r.points ≡ s.points + points_in (trail_behind (own_table t s)) budget (length l) s.points
  pub list : after ≡ list_after (trail_behind (own_table t s)) budget s.points l
  pub over : r.open ≡ not (eqb r.points (3 ^ s.n))
  pub size : length new ≡ length old
  pub rest : drop r.used new ≡ drop r.used old

-- a row of calls from s to r, and what they leave to be written, joined in order
pub data Calls (t : List ℕ) : Session → List ℕ → Session → Type 0 where
  none : {s : Session} → Calls t s [] s
  more : {s r u : Session} {b l : List ℕ} → Went t s b r → Calls t r l u → Calls t s (take r.used b ++ l) u

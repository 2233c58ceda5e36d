-- Demand 3: what any run of calls gives that begins at place 0 of a checked table and whose last answer is "ended".
use Rattle.std.specs.Prelude.{◌≡◌, ◌↔◌, List, map, ℕ, ◌+◌, ◌-◌, ◌*◌, ◌/◌, ◌%◌, ◌^◌, ◌<◌}
use Rattle.gray.specs.Numbers.{digit, point_of}
use Rattle.walks.specs.Runs.{Request, Sums, EachReply}
use Rattle.walks.specs.Zeros.{places_in, Holds, Once}
use Rattle.given.specs.declared.Degree.{Degree}
use Rattle.given.specs.declared.Degree.TheVariants.{Two, Three}
use Rattle.given.specs.Given.{Given, values_of}
use Rattle.opening.specs.declared.Record.{Record}
use Rattle.opening.specs.Opened.{opened_at}
use Rattle.outcomes.specs.Search.{trail_behind}
use Rattle.demand.specs.Session.{call_of, session_of}

-- a common zero of the system that a table comes from: a point at which every equation is 0 modulo 3
pub record CommonZero (g : Given) (x : ℕ) : Type 0 where
  pub point : x < 3 ^ g.n
  pub zero : (e : ℕ) → e < g.m → values_of g e (digit 3 x) % 3 ≡ 0

-- the additions of a whole walk of n unknowns. Degree 2: two at each place but the first, less one at each of the n places with one
-- position. Degree 3: three at each place but the first, less two at each of those n, less one at each of the n(n + 1)/2 places with two
abbrev pub additions_in : Degree → ℕ → ℕ
additions_in Two n = 2 * (3 ^ n - 1) - n
additions_in Three n = 3 * (3 ^ n - 1) - 2 * n - n * (n + 1) / 2

abbrev pub all_additions : Given → ℕ
all_additions g = additions_in g.degree g.n

-- the session from the record opened at place 0
abbrev pub from_start : Given → List Request → Sums Record
from_start g qs = session_of g (opened_at g 0) qs

-- each call was refused and changed nothing, or its answer tells that it examined the next places, at most its budget, at least one
-- before the end, its record is the one opened at the place it came to, and its list has the zeros among its own places in front;
-- the joined lists are all common zeros, each once, in Gray order; points and additions sum to those of the whole walk
pub record WholeWalk (g : Given) (qs : List Request) : Type 0 where
  pub each : EachReply (trail_behind g) (opened_at g) (call_of g) 0 (opened_at g 0) qs
  pub last : (from_start g qs).last ≡ opened_at g (3 ^ g.n)
  pub all : (x : ℕ) → Holds x (from_start g qs).listed ↔ CommonZero g x
  pub once : Once (from_start g qs).listed
  pub order : (from_start g qs).listed ≡ map (point_of 3 g.n) (places_in (trail_behind g) 0 (3 ^ g.n))
  pub points : (from_start g qs).points ≡ 3 ^ g.n
  pub additions : (from_start g qs).additions ≡ all_additions g

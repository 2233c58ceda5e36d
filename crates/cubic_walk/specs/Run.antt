-- The search: the cubic walk up to its end, a full list or a spent budget.
use Rattle.std.specs.Prelude.{Bool, ◌||◌, List, ℕ, ◌*◌, ◌≤◌, eqb, length, get_or}
use Rattle.trits.specs.Trit.{none}
use Rattle.walks.specs.Walk.{run_of}
use Rattle.cubic_moves.specs.Step.{State, walk_of}
use Rattle.cubic_tables.specs.Words.{triple_at}
use Rattle.blocks.specs.declared.parts.Part.{Part}
use Rattle.cubic_walk.specs.declared.Walker.{Walker}
use Rattle.walk.specs.declared.Ran.{Ran}

-- the state of a walker with its counts, over the list lent
abbrev pub state_of : Ran Walker → List ℕ → State
state_of r l =
    record {
      place = r.walker.place;
      value = r.walker.value;
      slots = r.walker.slots;
      seconds = r.walker.seconds;
      additions = r.additions;
      found = r.found;
      list = l;
    }

-- a walker that begins: nothing added, nothing found
abbrev pub fresh : Walker → List ℕ → State
fresh w l =
    record { place = w.place; value = w.value; slots = w.slots; seconds = w.seconds; additions = 0; found = 0; list = l }

-- at the end of the walk, or with the list used up
abbrev pub halt_of : ℕ → State → Bool
halt_of e s = eqb s.place e || eqb s.found (length s.list)

-- at most so many places, over the table t of n unknowns, up to place e or a full list
abbrev pub search_of : List ℕ → ℕ → ℕ → ℕ → State → State
search_of t n e = run_of 3 (walk_of n (triple_at t n)) (halt_of e)

-- the numbers of a walker with its counts are within their ends
pub record Sane (e : ℕ) (r : Ran Walker) (l : List ℕ) : Type 0 where
  pub place : r.walker.place ≤ e
  pub found : r.found ≤ length l
  pub additions : r.additions ≤ 3 * r.walker.place

-- the parts of a walker with its counts
abbrev pub part_of : Ran Walker → Part
part_of r =
    record {
      value = r.walker.value;
      s0 = get_or r.walker.slots 0 none;
      s1 = get_or r.walker.slots 1 none;
      s2 = get_or r.walker.slots 2 none;
      additions = r.additions;
      found = r.found;
      place = r.walker.place;
    }

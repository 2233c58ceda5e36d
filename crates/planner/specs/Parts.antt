-- What the session's own functions say to each other.
use Rattle.std.specs.Prelude.{◌≡◌, Bool, true, false, not, List, ◌++◌, ℕ, ◌+◌, ◌*◌, ◌^◌, ◌≤◌, ◌<◌, length, take, drop}
use Rattle.refusals.specs.Limits.{most_unknowns, most_equations}
use Rattle.tables.specs.Monomials.{count_of}
use Rattle.tables.specs.Words.{Table, differences_of}
use Rattle.walks.specs.declared.Stop.{Stop}
use Rattle.walks.specs.declared.Stop.TheVariants.{Ended, Full, Spent}
use Rattle.walks.specs.declared.Report.{Report}
use Rattle.opening.specs.declared.Record.{Record}
use Rattle.planner.specs.declared.Session.{Session}
use Rattle.texts.specs.Text.{line_if}
use Rattle.listing.specs.Listing.{layout_lines, head_line, totals_line, longest_layout, longest_totals}
use Rattle.planner.specs.Output.{Standing}

-- what starting a walk asks: sizes within the limits, the words of a legal table, and room for its differences
pub record Startable (n m : ℕ) (words table : List ℕ) : Type 0 where
  pub least : 1 ≤ n
  pub most : n ≤ most_unknowns
  pub some : 1 ≤ m
  pub few : m ≤ most_equations
  pub legal : Table n m words
  pub room : length table ≡ 2 * count_of n

-- the session stands at place 0 of the table of differences, with the head to be written
pub record Started (n m : ℕ) (words table b : List ℕ) (r : Session) : Type 0 where
  pub going : r.open ≡ true
  pub unknowns : r.n ≡ n
  pub equations : r.m ≡ m
  pub first : r.points ≡ 0
  pub differences : table ≡ differences_of n m words
  pub standing : Standing table r
  pub used : r.used ≤ length b
  pub bytes : take r.used b ≡ head_line n m

-- whether a call was the last
abbrev pub is_ended : Stop → Bool
is_ended Ended = true
is_ended (Full x) = false
is_ended (Spent x) = false

-- what telling asks: sums that fit, and room for the lines of so many points and the totals
pub record Tellable (s : Session) (w : Report) (l b : List ℕ) : Type 0 where
  pub most : s.n ≤ most_unknowns
  pub points : s.points + w.points < 2 ^ 64
  pub additions : s.additions + w.additions < 2 ^ 64
  pub found : s.found + w.found < 2 ^ 64
  pub room : longest_layout * length l + longest_totals ≤ length b

-- r is the session s after a call that answered w, left the record o and listed l, with their lines in b to be written; after them b is as it was
pub record Told (s : Session) (o : Record) (w : Report) (l old b : List ℕ) (r : Session) : Type 0 where
  pub unknowns : r.n ≡ s.n
  pub equations : r.m ≡ s.m
  pub «record» : r.«record» ≡ o
  pub points : r.points ≡ s.points + w.points
  pub additions : r.additions ≡ s.additions + w.additions
  pub found : r.found ≡ s.found + w.found
  pub going : r.open ≡ not (is_ended w.stop)
  pub used : r.used ≤ length b
  pub size : length b ≡ length old
  pub rest : drop r.used b ≡ drop r.used old
  pub bytes : take r.used b ≡ layout_lines s.n l ++ line_if (is_ended w.stop) (totals_line r.points r.additions r.found)

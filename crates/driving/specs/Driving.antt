-- The bytes that are taken while the calls of a search are made.
use Rattle.std.specs.Prelude.{◌≡◌, List, ℕ, ◌+◌, Some, is_some, eqb, length}
use Rattle.planner.specs.declared.Session.{Session}
use Rattle.listing.specs.Listing.{totals_line}
use Rattle.outcomes.specs.Search.{trail_behind}
use Rattle.planner.specs.Output.{own_table, left_of, totals_of}
use Rattle.driving.specs.declared.Driven.{Driven}
use Rattle.driving.specs.declared.Totals.{Totals}

-- the bytes of the text that is lent to each call
abbrev pub text_bytes : ℕ
text_bytes = 65536

-- `first` bytes were taken before; all were, exactly if what was left to write was taken too, and then the totals are those of the walk
pub record Drives (t : List ℕ) (s : Session) (first : ℕ) (r : Driven) : Type 0 where
  pub all : is_some r.totals ≡ eqb r.sent (first + length (left_of t s))
  pub totals : (w : Totals) → r.totals ≡ Some w → totals_line w.points w.additions w.found ≡ totals_of (trail_behind (own_table t s))

-- What a walk leaves: for the code alone; a reader goes by outcomes/specs/Search.
use Rattle.std.specs.Prelude.{◌≡◌, List, ℕ, ◌+◌, length}
use Rattle.walks.specs.Calls.{points_in, report_of, list_after}
use Rattle.given.specs.Given.{Given}
use Rattle.opening.specs.Opened.{opened_at}
use Rattle.opening.specs.First.{whole_of}
use Rattle.outcomes.specs.Search.{trail_behind}
use Rattle.walking.specs.declared.Went.{Went}

-- what a walk of the table g from place p leaves, with budget b, the list l, which is k afterwards, and the words s where second slots are lent
pub record Leaves (g : Given) (p b : ℕ) (l k s : List ℕ) (w : Went) : Type 0 where
  pub opened : whole_of g.degree w.first s ≡ opened_at g (p + points_in (trail_behind g) b (length l) p)
  pub additions : w.additions ≡ (report_of (trail_behind g) b (length l) p).additions
  pub found : w.found ≡ (report_of (trail_behind g) b (length l) p).found
  pub list : k ≡ list_after (trail_behind g) b p l

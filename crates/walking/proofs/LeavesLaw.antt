-- What a walk leaves that answers as a call on the walk of the system does, of either degree.
use mathlib.Core.Path.{◌≡◌, ap, ◌∙◌}
use mathlib.Core.List.{List}
use Prim.Native.Nat.{ℕ, ◌+◌}
use lib.ListN.{length}
use Rattle.walks.specs.Calls.{Trail, report_of, list_after}
use Rattle.given.specs.Given.{Given}
use Rattle.opening.specs.Opened.{opened_at}
use Rattle.opening.specs.First.{whole_of}
use Rattle.outcomes.specs.Search.{trail_behind}
use Rattle.walking.specs.declared.Went.{Went}
use Rattle.walking.specs.Leaves.{Leaves}

module _ (g : Given) where
  module _ (p b : ℕ) (l k s : List ℕ) (w : Went) where
    abbrev T : Trail
    T = trail_behind g

    -- ---- what a walk leaves that answers as a call does, with the record of the place that it came to
    pub leaves : w.first.place.0 ≡ p + (report_of T b (length l) p).points → w.additions ≡ (report_of T b (length l) p).additions
        → w.found ≡ (report_of T b (length l) p).found → k ≡ list_after T b p l → whole_of g.degree w.first s ≡ opened_at g w.first.place.0
        → Leaves g p b l k s w
    unfolding report_of
    leaves at a f e o = record { opened = o ∙ ap (opened_at g) at; additions = a; found = f; list = e }

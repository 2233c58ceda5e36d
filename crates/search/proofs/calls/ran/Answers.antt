-- `search::calls::ran` meets its contract: the walk of the two parts of the record.
use mathlib.Core.Path.{◌≡◌, ap, ◌∙◌}
use mathlib.Core.Bool.{true}
use mathlib.Core.List.{List}
use Prim.Native.Nat.{ℕ}
use lib.ListN.{length}
use Rattle.std.proofs.Common.{rules}
use Rattle.walks.specs.Calls.{list_after}
use Rattle.given.specs.Told.{told}
use Rattle.opening.specs.First.{whole_of}
use Rattle.outcomes.specs.Search.{trail_behind, fits, ran_of}
use Rattle.outcomes.specs.First.{first_for, outcome_with}
use Rattle.search.specs.Lending.{Lent}
use Rattle.search.proofs.PartsLaw.{parts_own, ran_told}
use Rattle.search.proofs.calls.ran.Goals as goal

pub in_parts-requires : goal.in_parts-requires
in_parts-requires c κs =
    let a = c.args in
    let d = a.table.degree in
    let own : (s : List ℕ) → Lent d a.r s → fits (told a.table) (whole_of d (first_for d a.r) s) ≡ true = λ s h. parts_own (told a.table) a.r s h c.requires.0 c.requires.1 in
    search (rules, own)

pub returns : goal.returns
returns c =
    let a = c.args in
    let d = a.table.degree in
    let g = told a.table in
    let e = c.in_parts.ensures in
    let t : (outcome_with d e.2 e.3.now ≡ ran_of g a.r.place.0 a.budget (length e.1.now)) × (e.4.now ≡ list_after (trail_behind g) a.budget a.r.place.0 e.1.now) = search rules in (
      ran_told g a.r e.0.now e.5 c.requires.0 c.requires.1 a.budget a.list.now e.2 e.4.now e.3.now c.in_parts.result (t.0 ∙ ap (λ (l : List ℕ). ran_of g a.r.place.0 a.budget (length l)) e.6) e.8,
      e.9 ∙ t.1 ∙ ap (list_after (trail_behind g) a.budget a.r.place.0) e.6,
    )

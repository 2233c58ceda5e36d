-- `lists::search_parts` meets its contract: judged once, then refused or filled.
use mathlib.Core.Path.{sym, ◌∙◌}
use Prim.Native.Nat.{◌/◌}
use native.Mathlib.Omega.{arith}
use lib.ListN.{length}
use Rattle.given.specs.Told.{told}
use Rattle.outcomes.proofs.VerdictLaw.{passed}
use Rattle.lists.proofs.ListedLaw.{listed_refused, listed_done}
use Rattle.opening.specs.First.{whole_of}
use Rattle.lists.proofs.search_parts.Goals as goal

pub filled-requires : goal.filled-requires
filled-requires c =
    let a = c.args in
    let p = passed (told a.table) (whole_of a.table.degree a.f a.seconds.now) a.budget (length a.list.now / 8) (sym c.judged.ensures ∙ c.in-Ok.is) in
    (p.checked, p.own, omega arith, c.requires)

pub returns-in-Err : goal.returns-in-Err
returns-in-Err c =
    let a = c.args in
    listed_refused (told a.table) (whole_of a.table.degree a.f a.seconds.now) a.budget a.list.now _ (sym c.judged.ensures ∙ c.in-Err.is)

pub returns-in-Ok : goal.returns-in-Ok
returns-in-Ok c =
    let a = c.args in
    let f = c.filled in
    listed_done (told a.table) (whole_of a.table.degree a.f a.seconds.now) a.budget a.list.now (sym c.judged.ensures ∙ c.in-Ok.is) _ _ f.ensures.0 f.ensures.1

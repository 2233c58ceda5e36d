-- `search::calls::judged` meets its contract: the two parts of the record are refused as it is.
use mathlib.Core.Path.{◌≡◌, ap, ◌∙◌}
use Prim.Native.Nat.{ℕ}
use lib.ListN.{take}
use Rattle.given.specs.Told.{told}
use Rattle.opening.specs.declared.First.{First}
use Rattle.opening.proofs.ShapeLaw.{seconds_long}
use Rattle.opening.specs.First.{seconds_from, whole_of}
use Rattle.outcomes.specs.Search.{room_verdict}
use Rattle.outcomes.proofs.FirstLaw.{lent_front, parts_verdict}
use Rattle.search.proofs.calls.judged.Goals as goal

pub returns : goal.returns
returns c =
    let a = c.args in
    let s = a.r.seconds in
    let long = seconds_long a.r _ c.well_formed.1.0 in
    let h = c.lent_words-k.ensures in
    let k = c.lent_words-k.result in
    let g = told a.table in
    let front : seconds_from a.table.degree (take k s) ≡ seconds_from a.table.degree s = ap (λ (i : ℕ). seconds_from a.table.degree (take i s)) h ∙ lent_front a.table.degree s long in
    c.judged.ensures ∙ ap (λ (f : First). room_verdict g (whole_of a.table.degree f (take k s)) a.budget a.room) c.first_for-f.ensures
    ∙ parts_verdict a.table.degree a.table.n a.table.m a.table.words.now a.r long (take k s) front a.budget a.room

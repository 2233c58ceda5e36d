-- `search_calls::reading_of` meets its contract: by the words of second slot (0, 0).
use mathlib.Core.Path.{ap, ap₂, ◌∙◌}
use mathlib.Core.List.{List}
use Prim.Native.Nat.{ℕ}
use lib.ListN.{get_or}
use Rattle.wire.specs.Wire.{record_in}
use Rattle.search_calls.specs.Call.{reading_by}
use Rattle.search_calls.proofs.WritesLaw.{front_high, front_low}
use Rattle.search_calls.proofs.reading_of.Goals as goal

pub returns : goal.returns
returns c =
    let a = c.args in
    let l = (record_in a.«record».now).seconds in
    let e = c.read_seconds.ensures in
    c.reading.ensures ∙ ap₂ (reading_by a.n a.words) (ap (λ (x : List ℕ). get_or x 0 0) e ∙ front_high l) (ap (λ (x : List ℕ). get_or x 1 0) e ∙ front_low l)

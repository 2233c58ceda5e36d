-- `lists::search_bytes` meets its contract: the call on the two parts of the record.
use mathlib.Core.Path.{◌≡◌, ap, ◌∙◌}
use Rattle.std.proofs.Common.{rules}
use Rattle.given.specs.Told.{told}
use Rattle.opening.specs.First.{whole_of}
use Rattle.outcomes.specs.First.{first_for, outcome_with}
use Rattle.lists.specs.Listed.{outcome_in, list_in}
use Rattle.lists.proofs.ListedLaw.{parts_listed}
use Rattle.lists.proofs.search_bytes.Goals as goal

pub returns : goal.returns
returns c =
    let a = c.args in
    let d = a.table.degree in
    let g = told a.table in
    let e = c.in_parts.ensures in
    let w = whole_of d (first_for d a.r) e.0.now in
    let t : (outcome_with d e.2 e.3.now ≡ outcome_in g w a.budget e.1.now) × (e.4.now ≡ list_in g w a.budget e.1.now) = search rules in
    let j = parts_listed g a.r e.0.now e.5 a.budget a.list.now e.2 e.4.now e.3.now c.in_parts.result
    (t.0 ∙ ap (outcome_in g w a.budget) e.6) (t.1 ∙ ap (list_in g w a.budget) e.6) e.8 in
    (j.0, e.9 ∙ j.1)

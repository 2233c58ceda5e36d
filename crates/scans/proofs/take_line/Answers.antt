-- `scans::take_line` meets its contract.
use mathlib.Core.Path.{sym, ap, refl, ◌∙◌}
use Rattle.graphs.specs.Scans.{state_of}
use Rattle.graphs.specs.Reading.{take_line}
use Rattle.graphs.proofs.ReadLaw.{take_comment, take_unknown}
use Rattle.scans.proofs.take_line.Goals as goal

pub returns-in-Comment : goal.returns-in-Comment
returns-in-Comment c =
    let s = state_of c.args.g.now in
    (sym (ap (take_line s) (sym c.shape_of.ensures ∙ c.in-Comment.is) ∙ take_comment s), c.requires)

pub returns-in-Unknown : goal.returns-in-Unknown
returns-in-Unknown c =
    let s = state_of c.args.g.now in
    (sym (ap (take_line s) (sym c.shape_of.ensures ∙ c.in-Unknown.is) ∙ take_unknown s), (refl, refl))

-- `judging::fits_two` meets its contract: the first parts decide.
use mathlib.Core.Path.{◌∙◌}
use Rattle.outcomes.proofs.RecordLaw.{two_same}
use Rattle.judging.proofs.fits_two.Goals as goal

pub returns : goal.returns
returns c = c.same_first.ensures ∙ two_same c.args.f _ _ c.first_two-o.ensures

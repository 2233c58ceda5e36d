-- `comparing::same_first` meets its contract: field by field.
use mathlib.Core.Path.{◌∙◌}
use Rattle.outcomes.proofs.RecordLaw.{first_told}
use Rattle.comparing.proofs.same_first.Goals as goal

pub returns : goal.returns
returns c = c.eq.ensures ∙ first_told c.args.f c.args.o

-- `comparing::same_seconds` meets its contract: what `==` says of two lists.
use mathlib.Core.Path.{◌∙◌}
use lib.Dec.{eqb}
use Rattle.outcomes.proofs.RecordLaw.{lists_told}
use Rattle.comparing.proofs.same_seconds.Goals as goal

pub returns : goal.returns
returns c = c.eq.ensures ∙ lists_told eqb c.args.a.now c.args.b.now

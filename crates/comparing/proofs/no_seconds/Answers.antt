-- `comparing::no_seconds` meets its contract: compared with zeros.
use mathlib.Core.Path.{◌∙◌}
use lib.Dec.{eqb}
use lib.ListN.{replicate}
use Rattle.outcomes.proofs.RecordLaw.{lists_told, zeros_same}
use Rattle.comparing.proofs.no_seconds.Goals as goal

pub returns : goal.returns
returns c = c.eq.ensures ∙ lists_told eqb c.args.s (replicate 420 0) ∙ zeros_same c.args.s 420 c.well_formed.0.1.0.1

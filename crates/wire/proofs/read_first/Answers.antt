-- `wire::read_first` meets its contract: the first words decoded, and then read.
use mathlib.Core.Path.{ap, ◌∙◌}
use Rattle.wire.specs.Wire.{first_with}
use Rattle.wire.proofs.WireLaw.{first_in}
use Rattle.wire.proofs.read_first.Goals as goal

pub returns : goal.returns
returns c = c.first_of.ensures ∙ ap first_with c.decode.ensures ∙ first_in c.args.b.now

-- `wire::read_seconds` meets its contract: as many words as there is room for, decoded.
use mathlib.Core.Path.{◌∙◌}
use lib.ListN.{length}
use Rattle.wire.proofs.WireLaw.{seconds_front}
use Rattle.wire.proofs.read_seconds.Goals as goal

pub returns : goal.returns
returns c = c.decode.ensures ∙ seconds_front c.args.b.now (length c.args.s.now) c.requires.1

-- `texts::put_refusal` meets its contract.
use Rattle.texts.specs.Text.{refusal_line}
use Rattle.texts.proofs.put_refusal.Goals as goal

pub returns : goal.returns
unfolding refusal_line
returns c = c.put_pair.ensures

-- `cubic_blocks::keys` meets its contract.
use Rattle.cubic_blocks.proofs.keys.Goals as goal

pub returns : goal.returns
returns c = rw (c.key-3.ensures.0, c.key-2.ensures.0, c.key.ensures.0)

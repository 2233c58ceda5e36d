-- `blocks::tops` meets its contract.
use Rattle.blocks.proofs.tops.Goals as goal

pub returns : goal.returns
returns c =
    rw (c.entry-6.ensures, c.entry-5.ensures, c.entry-4.ensures, c.entry-3.ensures, c.entry-2.ensures, c.entry.ensures)

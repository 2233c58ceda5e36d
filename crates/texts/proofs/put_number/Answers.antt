-- `texts::put_number` meets its contract: the digits stand at the end of 20 bytes.
use Rattle.texts.proofs.TextLaw.{number_put}
use Rattle.texts.proofs.put_number.Goals as goal

pub returns : goal.returns
returns c =
    let s = c.spell-first.ensures in
    let p = c.put.ensures in
    number_put _ _ _ _ _ _ _ s.0 s.1 s.2 p

-- `cubic_opening::stood_at` meets its contract: value, slots and second slots from the table.
use Rattle.cubic_opening.proofs.StoodLaw.{stood}
use Rattle.cubic_opening.proofs.stood_at.Goals as goal

pub returns : goal.returns
returns c = λ m table.
    let a = c.args in
    stood a.n m a.table.now table a.q _ (c.value_after-value.ensures m table) c.slots_at-slots.ensures c.seconds_at-seconds.ensures

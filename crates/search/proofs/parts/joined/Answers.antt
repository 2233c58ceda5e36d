-- `search::parts::joined` meets its contract: each arm is a clause of the definition.
use Rattle.outcomes.proofs.FirstLaw.{joined_refused, joined_ran}
use Rattle.search.proofs.parts.joined.Goals as goal

pub returns-in-Err : goal.returns-in-Err
returns-in-Err c = joined_refused _ _ _ _ _ c.in-Err.is

pub returns-in-Ok : goal.returns-in-Ok
returns-in-Ok c = rw c.with-record.ensures (joined_ran c.args.o.answer c.args.o.first c.args.r c.args.seconds _ c.in-Ok.is)

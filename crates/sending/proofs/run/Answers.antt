-- `sending::run` keeps its contract: of a refusal, what is told is all that was sent.
use Rattle.sending.proofs.EndLaw.{ends_refused}
use Rattle.sending.proofs.run.Goals as goal

pub returns-in-Err : goal.returns-in-Err
returns-in-Err c = ends_refused c.args.input.now c.begin.new.text c.in-Err.used c.deliver.result (rw c.in-Err.is at c.begin.ensures) c.deliver.ensures

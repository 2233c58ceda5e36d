-- `answers::stop_number` meets its contract: each arm is a clause of the definition.
use mathlib.Core.Path.{sym, ap}
use Rattle.walks.specs.Calls.{stop_number}
use Rattle.answers.proofs.stop_number.Goals as goal

pub returns-in-Ended : goal.returns-in-Ended
returns-in-Ended c = sym (ap stop_number c.in-Ended.is)

pub returns-in-Full : goal.returns-in-Full
returns-in-Full c = sym (ap stop_number c.in-Full.is)

pub returns-in-Spent : goal.returns-in-Spent
returns-in-Spent c = sym (ap stop_number c.in-Spent.is)

-- `refusals::number` meets its contract.
use mathlib.Core.Path.{sym, ap}
use native.Mathlib.Omega.{arith}
use Rattle.refusals.specs.Refusal.{number_of}
use Rattle.refusals.proofs.number.Goals as goal

pub returns-in-Pair : goal.returns-in-Pair
returns-in-Pair c = (sym (ap number_of c.in-Pair.is), omega arith)

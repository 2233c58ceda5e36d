-- `equations::mark` meets its contract.
use mathlib.Core.Path.{refl}
use Rattle.tables.specs.Words.{entry, put_at}
use Rattle.equations.proofs.mark.Goals as goal

pub returns : goal.returns
unfolding entry put_at
returns c = record { vector = c.with_trit-v.result; put = c.with_trit-v.ensures; is = refl }

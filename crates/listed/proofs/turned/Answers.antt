-- `listed::turned` meets its contract.
use native.Mathlib.Omega.{arith}
use Rattle.listed.proofs.ListLaw.{turned_holds}
use Rattle.listed.proofs.turned.Goals as goal

pub returns : goal.returns
returns c = let a = c.args in λ m x f o t e h. turned_holds a.v (omega arith) a.turn m x f o t e h

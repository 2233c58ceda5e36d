-- `opening::parts::last_move` meets its contract: by the remainder of x.
use mathlib.Core.Path.{sym}
use native.Mathlib.Omega.{arith}
use Rattle.gray.proofs.LatestLaw.{last_zero, last_other}
use Rattle.opening.proofs.PlaceLaw.{two}
use Rattle.opening.proofs.parts.last_move.Goals as goal

pub returns-then-x-eq0 : goal.returns-then-x-eq0
returns-then-x-eq0 c = let e = c.if-x-eq0.true in omega (arith, last_zero 3 two c.args.x (omega arith))

pub returns-then-x-eq0-2 : goal.returns-then-x-eq0-2
returns-then-x-eq0-2 c = sym (last_zero 3 two _ c.if-x-eq0-2.true)

pub returns-else-x-eq0-2 : goal.returns-else-x-eq0-2
returns-else-x-eq0-2 c = sym (last_other 3 two _ c.if-x-eq0-2.false)

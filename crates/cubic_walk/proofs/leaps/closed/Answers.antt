-- `cubic_walk::leaps::closed` meets its contract.
use mathlib.Core.Path.{◌≡◌}
use native.Mathlib.Omega.{arith}
use lib.ListN.{length}
use Rattle.cubic_walk.proofs.LeapsLaw.{together}
use Rattle.cubic_walk.proofs.leaps.closed.Goals as goal

pub returns : goal.returns
returns c =
    let a = c.args in
    let k : length a.rest ≡ 20 = c.well_formed.1.0.1.0.1 in
    λ l. together a.x a.rest a.seconds l (omega arith)

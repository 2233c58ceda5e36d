-- `brackets::two` meets its contract.
use Rattle.brackets.proofs.BracketLaw.{two_holds}
use Rattle.brackets.proofs.two.Goals as goal

pub returns : goal.returns
returns c =
    let a = c.args in
    let q = c.requires in
    let n = a.n in
    let b = a.b in
    let k = a.k in
    let t = a.table.now in
    λ m g w. two_holds n m g t b k q.1 q.2 c.entry.result c.negate.result c.entry.ensures c.negate.ensures w

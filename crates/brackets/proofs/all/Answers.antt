-- `brackets::all` meets its contract.
use Rattle.brackets.proofs.BracketLaw.{all_other, all_same}
use Rattle.brackets.proofs.all.Goals as goal

pub returns-then-c-k : goal.returns-then-c-k
returns-then-c-k c =
    let a = c.args in
    let q = c.requires in
    let n = a.n in
    let b = a.b in
    let k = a.k in
    let t = a.table.now in
    λ m g w. all_same n m g t b a.c k q.1 q.2 q.3 c.entry-v.result c.negate.result c.entry-v.ensures c.if-c-k.true c.negate.ensures w

pub returns : goal.returns
returns c =
    let a = c.args in
    let q = c.requires in
    let n = a.n in
    let b = a.b in
    let k = a.k in
    let t = a.table.now in
    λ m g w. all_other n m g t b a.c k q.1 q.2 q.3 c.entry-v.result c.entry-v.ensures c.if-c-k.false w

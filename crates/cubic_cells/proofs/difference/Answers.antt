-- `cubic_cells::difference` meets its contract.
use Rattle.brackets.proofs.BracketLaw.{known_self, difference_two, difference_same, difference_other}
use Rattle.cubic_cells.proofs.difference.Goals as goal

pub returns-then-b-c : goal.returns-then-b-c
returns-then-b-c c =
    let a = c.args in
    let q = c.requires in
    let n = a.n in
    let b = a.b in
    let d = a.d in
    let x = a.c in
    let t = a.table.now in
    λ m w. difference_two n m t b x d c.two.result c.prior.result c.negate.result c.add-s.result c.prior-then-b-c.result c.add.result c.if-b-c.true c.negate.ensures c.add-s.ensures c.add.ensures (c.two.ensures m t (known_self n m t _ w)) (c.prior.ensures m t (known_self n m t _ w)) (c.prior-then-b-c.ensures m t (known_self n m t _ w))

pub returns-then-c-d : goal.returns-then-c-d
returns-then-c-d c =
    let a = c.args in
    let q = c.requires in
    let n = a.n in
    let b = a.b in
    let d = a.d in
    let x = a.c in
    let t = a.table.now in
    λ m w. difference_same n m t b x d c.high-h.result c.low-l.result c.negate-then-c-d.result c.add-then-c-d.result c.if-b-c.false c.if-c-d.true c.negate-then-c-d.ensures c.add-then-c-d.ensures (c.high-h.ensures m t (known_self n m t _ w)) (c.low-l.ensures m t (known_self n m t _ w))

pub returns : goal.returns
returns c =
    let a = c.args in
    let q = c.requires in
    let n = a.n in
    let b = a.b in
    let d = a.d in
    let x = a.c in
    let t = a.table.now in
    λ m w. difference_other n m t b x d c.high-h.result c.high.result c.add-s-2.result c.low-l.result c.add-2.result c.if-b-c.false c.if-c-d.false c.add-s-2.ensures c.add-2.ensures (c.high-h.ensures m t (known_self n m t _ w)) (c.high.ensures m t (known_self n m t _ w)) (c.low-l.ensures m t (known_self n m t _ w))

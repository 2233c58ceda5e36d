-- `brackets::high` meets its contract.
use Prim.Native.Nat.{◌+◌}
use native.Mathlib.Omega.{arith}
use Rattle.cubic_tables.specs.Order.{triple_index}
use Rattle.brackets.proofs.BracketLaw.{row_less, start_le, known_le, high_holds}
use Rattle.brackets.proofs.high.Goals as goal

pub returns : goal.returns
returns c =
    let a = c.args in
    let q = c.requires in
    let n = a.n in
    let b = a.b in
    let k = a.k in
    let x = a.c in
    let t = a.table.now in
    λ m g w. high_holds n m g b x k c.two.result c.all.result c.add-s.result c.prior.result c.add.result c.add-s.ensures c.add.ensures
    (c.two.ensures m g (known_le n m g (triple_index n b x k + 1) (triple_index n b b k + 1) t (omega (arith, row_less n b b k x k (omega arith) (omega arith) (omega arith) q.3 q.1 q.2)) w))
    (c.all.ensures m g w)
    (c.prior.ensures m g (known_le n m g (triple_index n b x k + 1) (triple_index n b b b) t (omega (arith, start_le n b x k (omega arith))) w))

-- `turns::turn_products` meets its contract. The invariant: the products before j are written.
use native.Mathlib.Omega.{arith}
use Rattle.turns.proofs.TurnLaw.{products_next, products_all}
use Rattle.turns.proofs.turn_products.Goals as goal

pub loop-j-preserved : goal.loop-j-preserved
loop-j-preserved c =
    let l = c.loop-j in
    let a = c.args in
    let q = c.requires in
    let e = c.put_entry.ensures in
    λ m f g t s p. rw e (products_next a.n m a.i l.j a.from.now f g a.to.now l.to a.step (omega arith) (omega arith) q.3 t s p
    c.index-k.result c.index-k.ensures.0 c.vector.result c.vector.ensures c.add.result c.add.ensures (l.invariant m f g t s p))

pub returns : goal.returns
returns c =
    let l = c.loop-j in
    let a = c.args in
    λ m f g t s p. products_all a.n a.i l.j g a.to.now l.to (omega (arith, l.auto.j-end)) (l.invariant m f g t s p)

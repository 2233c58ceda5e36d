-- `turns::turn` meets its contract: its vectors are those of document 01's formulas.
use native.Mathlib.Omega.{arith}
use Rattle.tables.proofs.IndexLaw.{count_is}
use Rattle.turns.proofs.TurnLaw.{turn_next}
use Rattle.turns.proofs.turn.Goals as goal

pub vector-requires : goal.vector-requires
vector-requires c = let q = c.requires in omega (arith, q, count_is c.args.n)

pub put_entry-requires : goal.put_entry-requires
put_entry-requires c = let q = c.requires in omega (arith, q, count_is c.args.n)

pub returns : goal.returns
returns c =
    let a = c.args in
    let q = c.requires in
    λ m g table l turned filled.
    turn_next a.n m a.i a.from.now a.p g a.to.now q.1 q.3 table l turned filled
    c.vector.result c.entry-square.result c.add.result c.negate.result c.add-single.result
    c.vector.ensures c.entry-square.ensures c.add.ensures c.negate.ensures c.add-single.ensures
    c.index-first.result c.index-first.ensures.0
    c.add-2.result c.negate-2.result c.negate-3.result c.add-3.result
    c.add-2.ensures c.negate-2.ensures c.negate-3.ensures c.add-3.ensures
    c.turn_products.new.to
    (λ f s p. rw (c.put_entry-2.ensures, c.put_entry.ensures) at (c.turn_products.ensures m f g table s p))

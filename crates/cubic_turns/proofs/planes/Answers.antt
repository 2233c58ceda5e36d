-- `cubic_turns::planes` meets its contract.
use Rattle.cubic_turns.proofs.LoopLaw.{row_over}
use Rattle.cubic_turns.proofs.planes.Goals as goal

pub loop-c-preserved : goal.loop-c-preserved
loop-c-preserved c =
    let a = c.args in
    let q = c.requires in
    let n = a.n in
    let b = a.b in
    let l = c.loop-c in
    λ m g old f t x w. row_over n b l.c g old _ l.auto.c c.loop-c-test.true (c.cells.ensures m g old f t x (l.invariant m g old f t x w))

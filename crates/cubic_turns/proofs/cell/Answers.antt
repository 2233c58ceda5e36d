-- `cubic_turns::cell` meets its contract.
use Prim.Native.Nat.{◌<◌}
use native.Mathlib.Omega.{arith}
use Rattle.cubic_tables.specs.Order.{triple_index}
use Rattle.cubic_turns.proofs.LoopLaw.{known_written, cell_put, cell_skip}
use Rattle.cubic_turns.proofs.cell.Goals as goal

pub returns-then-b-d : goal.returns-then-b-d
returns-then-b-d c =
    let a = c.args in
    let q = c.requires in
    let n = a.n in
    let b = a.b in
    let d = a.d in
    λ m g old f t x w. cell_skip n b a.c d g old a.to.now q.1 q.2 c.if-b-d.true w

pub returns : goal.returns
returns c =
    let a = c.args in
    let q = c.requires in
    let n = a.n in
    let b = a.b in
    let d = a.d in
    let z : b < d = omega (arith, q, c.if-b-d.false) in
    λ m g old f t x w. rw c.put_entry.ensures (cell_put n b a.c d g old a.to.now c.triple-k.result c.value-v.result q.1 q.2 z q.3 q.5 c.triple-k.ensures.0
    (c.value-v.ensures m g f (known_written n m g old a.to.now (triple_index n b a.c d) t w) x) w)

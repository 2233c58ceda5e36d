-- `cubic_turns::turn_triples` meets its contract.
use native.Mathlib.Omega.{arith}
use Rattle.cubic_turns.proofs.LoopLaw.{plane_over, cubes_last, cubes_none}
use Rattle.cubic_turns.proofs.turn_triples.Goals as goal

pub loop-b-init : goal.loop-b-init
loop-b-init c =
    let a = c.args in
    λ m g f t x. cubes_none a.n g a.to.now

pub loop-b-preserved : goal.loop-b-preserved
loop-b-preserved c =
    let a = c.args in
    let q = c.requires in
    let n = a.n in
    let l = c.loop-b in
    let old = a.to.now in
    λ m g f t x. plane_over n l.b g old _ c.loop-b-test.true (c.planes.ensures m g old f t x (l.invariant m g f t x))

pub returns : goal.returns
returns c =
    let a = c.args in
    let q = c.requires in
    let n = a.n in
    let l = c.loop-b in
    λ m g f t x. cubes_last n l.b g a.to.now l.to (omega (arith, l.auto.b-end, c.loop-b-test.false)) (l.invariant m g f t x)

-- `cubic_turns::shift_singles` meets its contract.
use Prim.Native.Nat.{◌+◌, ◌*◌, ◌<◌}
use native.Mathlib.Omega.{arith}
use Rattle.trits.specs.Trit.{trit}
use Rattle.tables.specs.Words.{entry}
use Rattle.tables.proofs.IndexLaw.{count_is}
use Rattle.brackets.specs.Brackets.{brackets_at, extra_single}
use Rattle.cubic_turns.specs.Parts.{sign_of}
use Rattle.cubic_turns.proofs.LoopLaw.{legal_holds, shifted_is, single_put, single_end}
use Rattle.cubic_turns.proofs.shift_singles.Goals as goal

pub vector-requires : goal.vector-requires
vector-requires c = let q = c.requires in omega (arith, q, count_is c.args.n, c.loop-b-test.true)

pub put_entry-requires : goal.put_entry-requires
put_entry-requires c = let q = c.requires in let l = c.loop-b in omega (arith, q, l.auto.to, count_is c.args.n, c.loop-b-test.true)

pub loop-b-preserved : goal.loop-b-preserved
loop-b-preserved c =
    let a = c.args in
    let q = c.requires in
    let n = a.n in
    let back = a.back in
    let l = c.loop-b in
    let b = l.b in
    let z : b < n = c.loop-b-test.true in
    let e = c.put_entry.ensures in
    let f = a.from.now in
    λ m h g old k y s w. rw e (single_put n b g old l.to c.add-v.result z (omega (arith, l.auto.to, q.3))
    (shifted_is m (trit (entry f (1 + b))) (λ i. sign_of back * extra_single (brackets_at n h i) b) c.vector.result c.signed-x.result c.add-v.result (entry g (1 + b)) c.add-v.ensures
    (legal_holds m (entry f (1 + b)) c.vector.result (y (1 + b) (omega (arith, count_is n, z))) c.vector.ensures) (c.signed-x.ensures m (λ i. extra_single (brackets_at n h i) b) (c.extra_single.ensures m h k)) (s.single b z))
    (l.invariant m h g old k y s w))

pub returns : goal.returns
returns c =
    let a = c.args in
    let q = c.requires in
    let n = a.n in
    let l = c.loop-b in
    λ m h g old k y s w. single_end n l.b g old l.to (omega (arith, l.auto.b-end, c.loop-b-test.false)) (l.invariant m h g old k y s w)

-- `cubic_turns::shift_pairs` meets its contract.
use mathlib.Core.Path.{ap, ◌∙◌}
use Prim.Native.Nat.{◌*◌, ◌<◌}
use native.Mathlib.Omega.{arith}
use Rattle.trits.specs.Trit.{trit}
use Rattle.tables.specs.Monomials.{index_of}
use Rattle.tables.specs.Words.{entry}
use Rattle.tables.proofs.IndexLaw.{index_lt}
use Rattle.brackets.specs.Brackets.{brackets_at, extra_pair}
use Rattle.cubic_turns.specs.Parts.{sign_of}
use Rattle.cubic_turns.proofs.LoopLaw.{legal_holds, shifted_is, pair_put, pair_end}
use Rattle.cubic_turns.proofs.shift_pairs.Goals as goal

pub loop-c-preserved : goal.loop-c-preserved
loop-c-preserved c =
    let a = c.args in
    let q = c.requires in
    let n = a.n in
    let back = a.back in
    let b = a.b in
    let l = c.loop-c in
    let x = l.c in
    let z : x < n = c.loop-c-test.true in
    let e = c.put_entry.ensures in
    let f = a.from.now in
    let i = c.index-k.ensures.0 in
    let v = c.vector.ensures ∙ ap (entry f) i in
    λ m h g old k y s w. rw e (pair_put n b x c.index-k.result g old l.to c.add-v.result l.auto.c z (omega (arith, l.auto.to, q.4)) i
    (shifted_is m (trit (entry f (index_of n b x))) (λ j. sign_of back * extra_pair (brackets_at n h j) b x) c.vector.result c.signed-x.result c.add-v.result (entry g (index_of n b x)) c.add-v.ensures
    (legal_holds m (entry f (index_of n b x)) c.vector.result (y (index_of n b x) (index_lt n b x l.auto.c z)) v) (c.signed-x.ensures m (λ j. extra_pair (brackets_at n h j) b x) (c.extra_pair.ensures m h k)) (s.pair b x l.auto.c z))
    (l.invariant m h g old k y s w))

pub returns : goal.returns
returns c =
    let a = c.args in
    let q = c.requires in
    let n = a.n in
    let b = a.b in
    let l = c.loop-c in
    λ m h g old k y s w. pair_end n b l.c g old l.to (omega (arith, c.requires.1, l.auto.c-end, c.loop-c-test.false)) (l.invariant m h g old k y s w)

-- `cubic_turns::shift` meets its contract.
use mathlib.Core.Path.{sym, ◌∙◌}
use native.Mathlib.Omega.{arith}
use Rattle.tables.proofs.IndexLaw.{count_is}
use Rattle.cubic_turns.proofs.LoopLaw.{pair_over, pair_first, first_put, pair_last}
use Rattle.cubic_turns.proofs.shift.Goals as goal

pub vector-requires : goal.vector-requires
vector-requires c = omega (arith, c.requires.2, count_is c.args.n)

pub put_entry-requires : goal.put_entry-requires
put_entry-requires c = omega (arith, c.requires.3, count_is c.args.n)

pub loop-b-init : goal.loop-b-init
loop-b-init c =
    let a = c.args in
    let q = c.requires in
    let n = a.n in
    λ m h g old k l s w. pair_first n g old _ w

pub loop-b-preserved : goal.loop-b-preserved
loop-b-preserved c =
    let a = c.args in
    let q = c.requires in
    let n = a.n in
    let l = c.loop-b in
    λ m h g old k y s w. pair_over n l.b g old _ c.loop-b-test.true (c.shift_pairs.ensures m h g old k y s (l.invariant m h g old k y s w))

pub returns : goal.returns
returns c =
    let a = c.args in
    let q = c.requires in
    let n = a.n in
    let l = c.loop-b in
    let old = a.to.now in
    λ m h g k y s. pair_last n l.b g old l.to (omega (arith, l.auto.b-end, c.loop-b-test.false))
    (l.invariant m h g old k y s (c.shift_singles.ensures m h g old k y s (rw c.put_entry.ensures (first_put n g old c.vector.result q.3 (c.vector.ensures ∙ sym s.first)))))

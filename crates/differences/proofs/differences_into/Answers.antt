-- `differences::differences_into` meets its contract. The invariant: the unknowns before i are done.
use mathlib.Core.Path.{◌≡◌, ◌∙◌}
use native.Mathlib.Omega.{arith}
use Rattle.tables.specs.Words.{differences_of}
use Rattle.tables.proofs.IndexLaw.{count_is}
use Rattle.tables.proofs.RoundLaw.{differences_table}
use Rattle.turns.proofs.TurnLaw.{before_legal, differences_first, differences_turned}
use Rattle.turns.proofs.FillLaw.{filled_none, filled_all}
use Rattle.differences.proofs.differences_into.Goals as goal

pub vector-requires : goal.vector-requires
vector-requires c = omega (arith, c.requires, count_is c.args.n)

pub put_entry-requires : goal.put_entry-requires
put_entry-requires c = omega (arith, c.requires, count_is c.args.n)

pub loop-i-init : goal.loop-i-init
loop-i-init c =
    let a = c.args in
    let q = c.requires in
    let p = c.put_entry in
    let v = c.vector.ensures in
    λ m t. rw p.ensures (filled_none a.n (differences_of a.n m a.from.now) a.to.now c.vector.result (omega (arith, count_is a.n)) (v ∙ differences_first a.n m a.from.now t))

pub loop-i-preserved : goal.loop-i-preserved
loop-i-preserved c =
    let a = c.args in
    let l = c.loop-i in
    let h = c.loop-i-test.true in
    let b = c.product_before.ensures in
    λ m t. c.turn.ensures m (differences_of a.n m a.from.now) t (rw b (before_legal a.n m a.from.now l.i t h)) (rw b (differences_turned a.n m a.from.now l.i h)) (l.invariant m t)

pub returns : goal.returns
returns c =
    let a = c.args in
    let l = c.loop-i in
    let e : l.i ≡ a.n = omega arith in
    λ m t. filled_all a.n (differences_of a.n m a.from.now) l.to (differences_table a.n m a.from.now).size (l.auto.to ∙ c.put_entry.auto.table ∙ c.requires.2) (rw e at (l.invariant m t))

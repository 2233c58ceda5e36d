-- `opening::parts::change` meets its contract: the sum of the terms of the unknowns so far.
use mathlib.Core.Path.{◌≡◌}
use native.Mathlib.Omega.{arith}
use Rattle.tables.specs.Monomials.{count_of}
use Rattle.opening.proofs.ChangeLaw.{sofar_none, sofar_next, sofar_whole}
use Rattle.opening.proofs.parts.change.Goals as goal

pub vector-one-requires : goal.vector-one-requires
unfolding count_of
vector-one-requires c = omega arith

pub loop-i-init : goal.loop-i-init
loop-i-init c =
    let a = c.args in
    let e = c.saturating_sub-i.ensures in
    (omega arith, λ m p w z h. sofar_none a.n m a.c.now w a.b _ p c.requires.1 c.vector-one.ensures c.entry-square.ensures c.add-v.ensures (λ k l. z k (omega arith)))

pub loop-i-preserved : goal.loop-i-preserved
loop-i-preserved c =
    let a = c.args in
    let l = c.loop-i in (
      omega (arith, l.invariant.0),
      λ m p w z h.
          sofar_next a.n m a.c.now w a.b l.i _ p (h l.i l.invariant.0 c.loop-i-test.true) (l.invariant.1 m p w z h) (c.slope_term-s.ensures m w) c.add-v-in-loop-i.ensures,
    )

pub returns : goal.returns
returns c = λ m p w z h.
    let a = c.args in
    let l = c.loop-i in
    let e : l.i ≡ a.n = omega (arith, c.loop-i-test.false) in
    sofar_whole a.n m a.c.now w a.b p (rw e at (l.invariant.1 m p w z h))

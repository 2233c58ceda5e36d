-- `checks::legal_front` meets its contract. The invariant: every entry before k is legal.
use mathlib.Core.Path.{◌≡◌, sym, ◌∙◌}
use native.Mathlib.Omega.{arith}
use borrow.Author.Count.{below_more}
use borrow.Author.Tests.{not-true, not-false}
use mathlib.Core.Bool.{false, false≢true}
use Rattle.tables.specs.Words.{entry}
use Rattle.tables.proofs.WordLaw.{front_is}
use Rattle.checks.proofs.legal_front.Goals as goal

pub returns-then-not-legal : goal.returns-then-not-legal
returns-then-not-legal c =
    let a = c.args in
    let l = c.loop-k in
    let v : c.vector.result ≡ entry a.table.now l.k = c.vector.ensures in
    let f : c.legal.result ≡ false = not-true _ c.if-not-legal.true-raw in
    sym (front_is a.m a.table.now a.entries l.k c.requires (omega arith) l.invariant
    (λ h p. false≢true (sym f ∙ c.legal.ensures.legal.1 (rw v p))))

pub loop-k-preserved : goal.loop-k-preserved
loop-k-preserved c =
    let l = c.loop-k in
    let v : c.vector.result ≡ entry c.args.table.now l.k = c.vector.ensures in
    below_more _ l.k l.invariant (rw v at (c.legal.ensures.legal.0 (not-false _ c.if-not-legal.false-raw)))

pub returns : goal.returns
returns c =
    let a = c.args in
    let l = c.loop-k in
    sym (front_is a.m a.table.now a.entries a.entries c.requires (omega arith) (λ j h. l.invariant j (omega arith)) (λ h. absurd (omega arith)))

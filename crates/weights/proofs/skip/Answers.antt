-- `weights::skip` meets its contract.
use native.Mathlib.Omega.{arith}
use Rattle.weights.proofs.RowLaw.{skip_end, skip_one, skip_none}
use Rattle.weights.proofs.skip.Goals as goal

pub returns-then-from-list : goal.returns-then-from-list
returns-then-from-list c =
    let a = c.args in
    (λ n x turn l s. skip_end n x a.list.now.at turn a.list.now.count l a.k a.from s c.if-from-list.true, omega arith)

pub returns-then-list-from : goal.returns-then-list-from
returns-then-list-from c =
    let a = c.args in
    (λ n x turn l s. skip_one n x a.list.now.at turn a.list.now.count l a.k a.from s (omega arith) c.if-list-from.true, omega arith)

pub returns : goal.returns
returns c =
    let a = c.args in
    (λ n x turn l s. skip_none n x a.list.now.at turn a.list.now.count l a.k a.from s (omega arith) c.if-list-from.false, omega arith)

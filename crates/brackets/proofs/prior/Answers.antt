-- `brackets::prior` meets its contract.
use Prim.Native.Nat.{◌+◌, ◌-◌, ◌<◌}
use native.Mathlib.Omega.{arith}
use Rattle.cubic_tables.specs.Order.{triple_index}
use Rattle.brackets.proofs.BracketLaw.{prior_less, known_le, prior_none, prior_some}
use Rattle.brackets.proofs.prior.Goals as goal

pub returns-then-b-eq0 : goal.returns-then-b-eq0
returns-then-b-eq0 c =
    let a = c.args in
    let q = c.requires in
    let n = a.n in
    let b = a.b in
    let k = a.k in
    λ m g w. prior_none n m g b k c.if-b-eq0.true

pub returns : goal.returns
returns c =
    let a = c.args in
    let q = c.requires in
    let n = a.n in
    let b = a.b in
    let k = a.k in
    let z : 0 < b = omega (arith, c.if-b-eq0.false) in
    λ m g w. prior_some n m g b k c.all.result z (c.all.ensures m g (known_le n m g (triple_index n b b b) (triple_index n (b - 1) b k + 1) a.table.now (prior_less n b k z q.1 q.2) w))

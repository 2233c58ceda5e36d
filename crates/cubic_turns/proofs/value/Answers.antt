-- `cubic_turns::value` meets its contract.
use mathlib.Core.Path.{sym, ◌∙◌}
use Rattle.trits.proofs.HoldLaw.{holds_is}
use Rattle.cubic_turns.proofs.value.Goals as goal

pub returns-then-back : goal.returns-then-back
returns-then-back c =
    let a = c.args in
    let q = c.requires in
    let n = a.n in
    let b = a.b in
    let d = a.d in
    λ m g w k x. holds_is (c.coefficient.ensures m g w k) ∙ sym (x.here c.if-back.true b a.c d q.1 q.2 q.3 q.4)

pub returns : goal.returns
returns c =
    let a = c.args in
    let q = c.requires in
    let n = a.n in
    let b = a.b in
    let d = a.d in
    λ m g w k x. holds_is (c.difference.ensures m w) ∙ sym (x.there c.if-back.false b a.c d q.1 q.2 q.3 q.4)

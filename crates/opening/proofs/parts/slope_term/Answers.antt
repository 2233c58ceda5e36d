-- `opening::parts::slope_term` meets its contract: by where i stands to b.
use mathlib.Core.Path.{◌≡◌}
use native.Mathlib.Omega.{arith}
use Rattle.opening.proofs.ChangeLaw.{term_none, term_below, term_above, term_self}
use Rattle.opening.proofs.parts.slope_term.Goals as goal

pub returns-then-t-eq0 : goal.returns-then-t-eq0
returns-then-t-eq0 c = λ m w.
    let a = c.args in
    let p = c.requires in
    term_none a.n m a.c.now w a.b a.i a.t p.1 p.2 c.if-t-eq0.true

pub returns-then-i-b : goal.returns-then-i-b
returns-then-i-b c = λ m w.
    let a = c.args in
    let p = c.requires in
    term_below a.n m a.c.now w a.b a.i a.t p.1 p.2 c.if-i-b.true c.entry-v.ensures c.times.ensures

pub returns-then-b-i : goal.returns-then-b-i
returns-then-b-i c = λ m w.
    let a = c.args in
    let p = c.requires in
    term_above a.n m a.c.now w a.b a.i a.t p.1 p.2 c.if-b-i.true c.entry-v-2.ensures c.times-then-b-i.ensures

pub returns : goal.returns
returns c = λ m w.
    let a = c.args in
    let p = c.requires in
    let e : a.b ≡ a.i = omega arith in
    term_self a.n m a.c.now w a.b a.i a.t p.1 p.2 e c.entry-v-2.ensures c.add-twice.ensures c.times-2.ensures

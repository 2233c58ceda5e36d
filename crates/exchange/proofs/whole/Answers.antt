-- `exchange::whole` meets its contract.
use mathlib.Core.Path.{sym, ap}
use mathlib.Core.Bool.{Bool}
use Prim.Native.Nat.{ℕ}
use native.Mathlib.Omega.{arith}
use borrow.Author.Tests.{lt-ltb, le-ltb}
use Rattle.refusals.specs.Choice.{pick}
use Rattle.exchange.proofs.whole.Goals as goal

pub returns-then-room-used : goal.returns-then-room-used
returns-then-room-used c =
    let a = c.args in
    (sym (ap (λ (q : Bool). pick {A = ℕ} q 0 a.used) (lt-ltb _ _ c.if-room-used.true)), omega arith, omega arith)

pub returns : goal.returns
returns c =
    let a = c.args in
    (sym (ap (λ (q : Bool). pick {A = ℕ} q 0 a.used) (le-ltb _ _ c.if-room-used.false)), omega arith, c.if-room-used.false)

-- `turns::product_before` meets its contract: unknown 0 has none before it.
use mathlib.Core.Path.{sym, ◌∙◌}
use native.Mathlib.Omega.{arith}
use Rattle.turns.proofs.FillLaw.{before_none, before_some}
use Rattle.turns.proofs.product_before.Goals as goal

pub returns-then-i-eq0 : goal.returns-then-i-eq0
returns-then-i-eq0 c = let a = c.args in sym (before_none a.n a.table.now a.i c.if-i-eq0.true)

pub returns : goal.returns
returns c = let a = c.args in
    c.entry.ensures ∙ sym (before_some a.n a.table.now a.i (omega (arith, c.if-i-eq0.false)))

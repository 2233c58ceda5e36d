-- `tidying::put_cell` meets its contract.
use mathlib.Core.Path.{sym, ◌∙◌}
use native.Mathlib.Omega.{arith}
use Rattle.tidying.specs.Tidy.{flagged}
use Rattle.tidying.proofs.TidyLaw.{line_put, line_none}
use Rattle.tidying.proofs.put_cell.Goals as goal

pub returns-then-cell_has : goal.returns-then-cell_has
returns-then-cell_has c =
    let a = c.args in
    let p = c.put_pair.ensures in
    let h = sym c.cell_has.ensures ∙ c.if-cell_has.true in
    (line_put (flagged a.seen.now) a.c a.page.now a.at _ _ h p.0, omega (arith, p.1))

pub returns : goal.returns
returns c =
    let a = c.args in
    let h = sym c.cell_has.ensures ∙ c.if-cell_has.false in
    (line_none (flagged a.seen.now) a.c a.page.now a.at h, omega arith)

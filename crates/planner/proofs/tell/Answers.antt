-- `planner::tell` meets its contract.
use borrow.Author.Tests.{not-true, not-false}
use Rattle.planner.proofs.TellLaw.{told_on, told_over}
use Rattle.planner.proofs.tell.Goals as goal

pub returns-then-told : goal.returns-then-told
returns-then-told c =
    let a = c.args in
    told_on a.s a.«record» a.report a.points.now a.text.now c.requires c.put_layouts-used.new.text c.put_layouts-used.result c.put_layouts-used.ensures.0 c.put_layouts-used.ensures.1
    c.ended.result c.ended.ensures (not-true _ c.if-told.true)

pub returns : goal.returns
returns c =
    let a = c.args in
    told_over a.s a.«record» a.report a.points.now a.text.now c.requires c.put_layouts-used.new.text c.put_layouts-used.result c.put_layouts-used.ensures.0 c.put_layouts-used.ensures.1
    c.ended.result c.ended.ensures c.put_totals-last.new.text c.put_totals-last.result c.put_totals-last.ensures.0 c.put_totals-last.ensures.1
    (not-false _ c.if-told.false)

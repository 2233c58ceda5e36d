-- `planner::start` meets its contract.
use mathlib.Core.Path.{sym, ◌∙◌}
use native.Mathlib.Omega.{arith}
use Rattle.planner.proofs.BeginLaw.{never, copies, table_is, opens, started}
use Rattle.planner.proofs.start.Goals as goal

pub returns-in_err-differences : goal.returns-in_err-differences
returns-in_err-differences c =
    let a = c.args in
    absurd (never _ _ _ (copies a.n a.m a.words.now a.table.now c.requires.0) (sym c.differences.ensures.answer ∙ c.in_err-differences.was))

pub returns-in_err-record : goal.returns-in_err-record
returns-in_err-record c =
    let a = c.args in
    let d = c.differences in
    absurd (never _ _ _ (opens a.n a.m a.words.now a.table.now c.requires.0 d.new.table (table_is a.n a.m a.words.now a.table.now c.requires.0 _ d.ensures.left))
    (sym c.«open».ensures.value ∙ c.in_err-record.was))

pub returns : goal.returns
returns c =
    let a = c.args in
    let d = c.differences in
    let p = c.put_head-used in
    started a.n a.m a.words.now a.table.now c.requires.0 d.new.table (table_is a.n a.m a.words.now a.table.now c.requires.0 _ d.ensures.left)
    _ p.new.text p.result (sym c.in_ok-record.was ∙ c.«open».ensures.value) (omega (arith, p.ensures.1, p.ensures.0.size, c.requires.1)) p.ensures.0.front

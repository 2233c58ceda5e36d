-- `positions::first_position` meets its contract: one more than that of a third, where 3 divides.
use Rattle.std.proofs.Common.{ap, sym, ◌∙◌, ◌<◌, ◌/◌, arith}
use Rattle.positions.specs.Positions.{lowest_of}
use Rattle.positions.proofs.LowestLaw.{of_zero, of_other}
use Rattle.positions.proofs.PartLaw.{lowest_none, lowest_word}
use Rattle.positions.proofs.+first_position.Goals as goal

pub returns-then-p-eq0 : goal.returns-then-p-eq0
returns-then-p-eq0 t c = sym (lowest_none 3) ∙ ap (lowest_of 3) (sym c.if-p-eq0.true)

pub overflow_add-result : goal.overflow_add-result
overflow_add-result t c =
    let h : 0 < c.args.p / 3 = omega arith in
    omega (arith, lowest_word (c.args.p / 3) h (omega arith))

pub returns-then-p-ne0 : goal.returns-then-p-ne0
returns-then-p-ne0 t c = sym (of_other 3 (omega arith) c.args.p c.if-p-ne0.true)

pub returns-else-p-ne0 : goal.returns-else-p-ne0
returns-else-p-ne0 t c =
    let h : 0 < c.args.p = omega arith in
    omega (arith, of_zero 3 (omega arith) c.args.p h c.if-p-ne0.false)

-- `search_calls::reading` meets its contract: one question after another.
use mathlib.Core.Path.{◌∙◌}
use Rattle.search_calls.proofs.ReadingLaw.{reading_told, reading_high, reading_low, reading_two}
use Rattle.search_calls.proofs.reading.Goals as goal

pub returns-then-n-ne1 : goal.returns-then-n-ne1
returns-then-n-ne1 c = let a = c.args in c.degree_of.ensures ∙ reading_told a.n a.words a.high a.low c.if-n-ne1.true

pub returns-then-high-ne0 : goal.returns-then-high-ne0
returns-then-high-ne0 c = let a = c.args in reading_high a.n a.words a.high a.low c.if-n-ne1.false c.if-high-ne0.true

pub returns-then-low-ne0 : goal.returns-then-low-ne0
returns-then-low-ne0 c = let a = c.args in reading_low a.n a.words a.high a.low c.if-n-ne1.false c.if-high-ne0.false c.if-low-ne0.true

pub returns : goal.returns
returns c = let a = c.args in reading_two a.n a.words a.high a.low c.if-n-ne1.false c.if-high-ne0.false c.if-low-ne0.false

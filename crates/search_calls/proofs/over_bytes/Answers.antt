-- `search_calls::over_bytes` meets its contract: the degree is read, and there is room for the words of a table and of second slots of that degree.
use mathlib.Core.Path.{sym, ap, ◌∙◌}
use lib.ListN.{length, get_or}
use Rattle.opening.specs.First.{lent_words}
use Rattle.wire.specs.Wire.{record_in}
use Rattle.search_calls.proofs.ReadingLaw.{two_fits, three_fits}
use Rattle.search_calls.proofs.WritesLaw.{writes_by}
use Rattle.search_calls.proofs.over_bytes.Goals as goal

pub over_words-requires : goal.over_words-requires
over_words-requires c =
    let a = c.args in
    let l = (record_in a.«record».now).seconds in
    let e = c.in-Two.is in
    (two_fits a.n (length a.table.now) c.requires.0 c.requires.1 (get_or l 0 0) (get_or l 1 0) (sym c.reading_of-degree.ensures ∙ e), sym (ap lent_words e), c.requires.2, c.requires.3, c.requires.0)

pub over_words-requires-in-Three : goal.over_words-requires-in-Three
over_words-requires-in-Three c =
    let a = c.args in
    (three_fits a.n (length a.table.now) c.requires.0 c.requires.1, sym (ap lent_words c.in-Three.is), c.requires.2, c.requires.3, c.requires.0)

pub returns-in-Two : goal.returns-in-Two
returns-in-Two c =
    let a = c.args in
    writes_by _ _ c.reading_of-degree.ensures a.n a.m _ a.«record».now a.budget a.list.now a.answer.now _ _ _ _ c.over_words.ensures

pub returns-in-Three : goal.returns-in-Three
returns-in-Three c =
    let a = c.args in
    writes_by _ _ c.reading_of-degree.ensures a.n a.m _ a.«record».now a.budget a.list.now a.answer.now _ _ _ _ c.over_words-in-Three.ensures

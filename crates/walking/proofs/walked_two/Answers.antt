-- `walking::walked_two` meets its contract: the walk from the opened record.
use mathlib.Core.List.{[]}
use Rattle.given.specs.declared.Degree.TheVariants.{Two}
use Rattle.opening.specs.First.{whole_of}
use Rattle.walking.proofs.TwoLaw.{two_leaves}
use Rattle.walking.proofs.walked_two.Goals as goal

pub returns : goal.returns
returns c =
    let a = c.args in
    let x = c.run-t in
    two_leaves a.table.n a.table.m a.table.words.now c.requires.0 (whole_of Two a.f []) c.requires.1 a.budget a.end a.list.now _ x.result c.requires.2
    x.type_inv.1.1.0.1.1.1.1.0.1.0.1 x.ensures.state

-- `edges::joined` meets its contract: the ends stand after those before them.
use mathlib.Core.Path.{refl}
use Rattle.graphs.proofs.ReadLaw.{ends_joined}
use borrow.Author.Rules.{rules}
use Rattle.edges.proofs.joined.Goals as goal

pub returns : goal.returns
returns c =
    let a = c.args in
    let g = a.g in
    (refl, refl, refl, refl, ends_joined g.count g.one g.other a.a a.b (search rules) (search rules))

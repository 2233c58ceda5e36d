-- `tables::monomials::count` meets its contract.
use mathlib.Core.Path.{refl}
use Rattle.tables.specs.Monomials.{count_of}
use Rattle.tables.proofs.IndexLaw.{count_le}
use Rattle.tables.proofs.monomials.count.Goals as goal

pub returns : goal.returns
unfolding count_of
returns c = (refl, count_le c.args.n c.requires.1)

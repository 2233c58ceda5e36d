-- `tables::monomials::vector` meets its contract.
use mathlib.Core.Path.{refl}
use Rattle.tables.specs.Words.{entry}
use Rattle.tables.proofs.monomials.vector.Goals as goal

pub returns : goal.returns
unfolding entry
returns c = refl

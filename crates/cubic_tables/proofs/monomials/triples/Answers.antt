-- `cubic_tables::monomials::triples` meets its contract.
use Rattle.cubic_tables.proofs.OrderLaw.{cubes_closed}
use Rattle.cubic_tables.proofs.monomials.triples.Goals as goal

pub returns : goal.returns
returns c = cubes_closed c.args.r c.requires.0

-- `cubic_tables::monomials::key` meets its contract.
use native.Mathlib.Omega.{arith}
use Rattle.cubic_tables.proofs.OrderLaw.{base_is, pair_is}
use Rattle.cubic_tables.proofs.monomials.key.Goals as goal

pub overflow_sub-pairs : goal.overflow_sub-pairs
overflow_sub-pairs c = omega (arith, c.index.ensures, pair_is c.args.n c.args.b c.args.b)

pub overflow_sub-result : goal.overflow_sub-result
overflow_sub-result c = let b = base_is c.args.n c.args.b c.requires.1 in rw (c.triples-rest.ensures, c.count.ensures.0) b.0

pub overflow_sub-result-2 : goal.overflow_sub-result-2
overflow_sub-result-2 c = let b = base_is c.args.n c.args.b c.requires.1 in rw (c.triples-rest.ensures, c.index.ensures.0, c.count.ensures.0) b.1

pub returns : goal.returns
returns c = let b = base_is c.args.n c.args.b c.requires.1 in (rw (c.triples-rest.ensures, c.index.ensures.0, c.count.ensures.0) b.2, omega (arith, c.count.ensures))

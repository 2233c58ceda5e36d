-- `cubic_tables::monomials::count` meets its contract.
use mathlib.Core.Path.{◌≡◌}
use Prim.Native.Nat.{◌+◌}
use native.Mathlib.Omega.{arith}
use Rattle.cubic_tables.specs.Order.{cubic_count}
use Rattle.cubic_tables.proofs.OrderLaw.{cubic_count_is, cubic_count_le}
use Rattle.cubic_tables.proofs.monomials.count.Goals as goal

pub overflow_add-result : goal.overflow_add-result
overflow_add-result c = omega (arith, c.count.ensures, c.triples.ensures, cubic_count_is c.args.n, cubic_count_le c.args.n c.requires.1)

pub returns : goal.returns
returns c = let e : c.count.result + c.triples.result ≡ cubic_count c.args.n = omega (arith, c.count.ensures, c.triples.ensures, cubic_count_is c.args.n) in (e, omega (arith, e, cubic_count_le c.args.n c.requires.1))

-- `tables::monomials::index` meets its contract: the closed form of the rows before row i.
use Prim.Native.Nat.{ℕ, ◌+◌, ◌*◌, ◌/◌, ◌≤◌, ◌<◌}
use native.Mathlib.Omega.{arith}
use Rattle.tables.proofs.IndexLaw.{index_closed, index_lt, product_le, half_le}
use Rattle.tables.proofs.monomials.index.Goals as goal

pub returns : goal.returns
returns c =
    let e = index_closed c.args.n c.args.i c.args.j c.requires.1 c.requires.2 in
    (e, rw e (index_lt c.args.n c.args.i c.args.j c.requires.1 c.requires.2))

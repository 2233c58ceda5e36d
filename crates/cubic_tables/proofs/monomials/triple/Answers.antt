-- `cubic_tables::monomials::triple` meets its contract.
use mathlib.Core.Path.{◌≡◌}
use Prim.Native.Nat.{◌+◌, ◌-◌}
use native.Mathlib.Omega.{arith}
use Rattle.cubic_tables.specs.Order.{triple_index}
use Rattle.cubic_tables.proofs.OrderLaw.{cubic_count_le, index_base, triple_lt, pair_is}
use Rattle.cubic_tables.proofs.monomials.triple.Goals as goal

pub overflow_sub-pair : goal.overflow_sub-pair
overflow_sub-pair c = omega (arith, c.index.ensures, pair_is c.args.n c.args.c c.args.d)

pub overflow_sub-pair-2 : goal.overflow_sub-pair-2
overflow_sub-pair-2 c = omega (arith, c.index.ensures, pair_is c.args.n c.args.c c.args.d)

pub overflow_add-result : goal.overflow_add-result
overflow_add-result c =
    let n = c.args.n in
    let q = c.requires in
    omega (
      arith,
      c.key.ensures,
      c.index.ensures,
      pair_is n c.args.c c.args.d,
      index_base n c.args.b c.args.c c.args.d q.1 q.2 q.3 q.4,
      triple_lt n c.args.b c.args.c c.args.d q.1 q.2 q.3 q.4,
      cubic_count_le n q.0,
    )

pub returns : goal.returns
returns c =
    let n = c.args.n in
    let q = c.requires in
    let e : c.key.result + (c.index.result - n - 1) ≡ triple_index n c.args.b c.args.c c.args.d = omega (arith, c.key.ensures, c.index.ensures, pair_is n c.args.c c.args.d, index_base n c.args.b c.args.c c.args.d q.1 q.2 q.3 q.4) in
    (e, rw e (triple_lt n c.args.b c.args.c c.args.d q.1 q.2 q.3 q.4))

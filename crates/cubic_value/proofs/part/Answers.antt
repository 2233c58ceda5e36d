-- `cubic_value::part` meets its contract.
use mathlib.Core.Path.{ap}
use Prim.Native.Nat.{ℕ, ◌+◌, ◌*◌, ◌/◌}
use native.Mathlib.Omega.{arith}
use Rattle.residues.proofs.ModLaw.{cof, ◌⨾◌}
use Rattle.tables.proofs.IndexLaw.{count_is}
use Rattle.cubic_tables.proofs.OrderLaw.{cubic_count_low}
use Rattle.cubic_value.proofs.SumLaw.{part_last, part_whole}
use Rattle.cubic_value.proofs.part.Goals as goal

pub vector-requires : goal.vector-requires
vector-requires c = omega (arith, cubic_count_low c.args.n, count_is c.args.n)

pub returns-then-b-n : goal.returns-then-b-n
returns-then-b-n c =
    let a = c.args in
    let p = c.requires in
    λ m w. part_last a.n m a.table.now a.b a.q c.weigh-u.result.whole w p.1 c.if-b-n.true c.vector.ensures (c.weigh-u.ensures.0 ⨾ cof (ap (λ (y : ℕ). y + 2 * (y / 3)) p.3)) c.times.ensures c.add.ensures (c.own_row-first.ensures m w)

pub returns : goal.returns
returns c =
    let a = c.args in
    let p = c.requires in
    λ m w. part_whole a.n m a.table.now a.b a.q p.1 c.add-2.ensures (c.other_rows-rest.ensures m w) (c.own_row-first.ensures m w)

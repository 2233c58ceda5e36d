-- `cubic_evaluation::value_of` meets its contract: the terms are the planes of the listed unknowns.
use Rattle.std.proofs.Common.{rules}
use native.Mathlib.Omega.{arith}
use lib.ListN.{get_or}
use Rattle.tables.proofs.IndexLaw.{count_is}
use Rattle.listed.proofs.ListLaw.{first_begun, list_holds, list_holds_same}
use Rattle.cubic_tables.specs.Words.{CubicTable, cubic_at}
use Rattle.cubic_tables.proofs.OrderLaw.{cubic_count_low}
use Rattle.cubic_planes.specs.Parts.{plane_sum}
use Rattle.cubic_tables.proofs.HoldsLaw.{const_holds}
use Rattle.cubic_planes.proofs.ValueLaw.{whole_sum}
use Rattle.cubic_evaluation.proofs.value_of.Goals as goal

pub vector-requires : goal.vector-requires
vector-requires c = let a = c.args in let q = c.requires in omega (arith, cubic_count_low a.n, count_is a.n, q.2)

pub returns : goal.returns
returns c =
    let a = c.args in
    λ m x w g.
    whole_sum m a.n (cubic_at a.n a.table.now) x _
    (c.summed.ensures m a.n 0 x (λ e. (cubic_at a.n a.table.now e).const) (λ e k. plane_sum (cubic_at a.n a.table.now e) a.n k x) g (omega arith)
    (rw c.vector.ensures (const_holds a.n m a.table.now w))
    (λ e. first_begun a.n x a.list.now.at a.list.now.turn a.list.now.count g (λ k. plane_sum (cubic_at a.n a.table.now e) a.n k x))
    (λ t v p q r. list_holds a.n a.list.now (λ m. CubicTable a.n m a.table.now) (λ x e. plane_sum (cubic_at a.n a.table.now e) a.n (get_or a.list.now.at t 0) x) v (search (rules, list_holds_same)) m x w g))

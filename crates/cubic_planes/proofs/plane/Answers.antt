-- `cubic_planes::plane` meets its contract: the terms are the cells of the listed unknowns from the plane's own on.
use Rattle.std.proofs.Common.{rules}
use native.Mathlib.Omega.{arith}
use lib.ListN.{get_or}
use Rattle.tables.proofs.IndexLaw.{count_is}
use Rattle.listed.specs.Lists.{ListHolds}
use Rattle.listed.proofs.ListLaw.{none_begun, list_holds, list_holds_same}
use Rattle.cubic_tables.specs.Words.{CubicTable, cubic_at}
use Rattle.cubic_tables.proofs.OrderLaw.{cubic_count_low}
use Rattle.cubic_planes.specs.Parts.{cell_sum}
use Rattle.cubic_tables.proofs.HoldsLaw.{lin_holds}
use Rattle.cubic_planes.proofs.ValueLaw.{plane_sum_lem}
use Rattle.cubic_planes.proofs.plane.Goals as goal

pub vector-requires : goal.vector-requires
vector-requires c = let a = c.args in let q = c.requires in omega (arith, q.4.below a.s q.1, cubic_count_low a.n, count_is a.n, q.3)

pub returns : goal.returns
unfolding ListHolds
returns c =
    let a = c.args in let q = c.requires in
    λ m x w g.
    plane_sum_lem m a.n (get_or a.list.now.at a.s 0) (cubic_at a.n a.table.now) x _
    (c.summed.ensures m a.n (get_or a.list.now.at a.s 0) x (λ e. (cubic_at a.n a.table.now e).lin (get_or a.list.now.at a.s 0)) (λ e k. cell_sum (cubic_at a.n a.table.now e) a.n (get_or a.list.now.at a.s 0) k x) g (omega arith)
    (rw c.vector.ensures (lin_holds a.n m a.table.now w (get_or a.list.now.at a.s 0) (q.4.below a.s q.1)))
    (λ e. none_begun _ _)
    (λ t v y z r. list_holds a.n a.list.now (λ m. CubicTable a.n m a.table.now) (λ x e. cell_sum (cubic_at a.n a.table.now e) a.n (get_or a.list.now.at a.s 0) (get_or a.list.now.at t 0) x) v (search (rules, list_holds_same)) m x w g))

-- `evaluation::row_value` meets its contract: the seed is the unknown's coefficient, the row those of its products.
use mathlib.Core.Path.{refl}
use native.Mathlib.Omega.{arith}
use lib.ListN.{get_or}
use Rattle.listed.proofs.ListLaw.{none_begun, pair_order}
use Rattle.tables.specs.Words.{poly_at}
use Rattle.tables.proofs.IndexLaw.{count_is, count_le}
use Rattle.listed.specs.Lists.{ListHolds}
use Rattle.evaluation.proofs.EvaluateLaw.{lin_holds, index_ge, row_room, row_holds, row_sum}
use Rattle.evaluation.proofs.row_value.Goals as goal

pub overflow_sub-base : goal.overflow_sub-base
overflow_sub-base c = let a = c.args in let q = c.requires in omega (arith, c.index.ensures.0, index_ge a.n (get_or a.list.now.at a.s 0) (q.4.below a.s q.1))

pub vector-seed-requires : goal.vector-seed-requires
vector-seed-requires c = let a = c.args in let q = c.requires in omega (arith, q.4.below a.s q.1, count_is a.n, q.3)

pub row-requires : goal.row-requires
row-requires c =
    let a = c.args in let q = c.requires in record { from_le_count = (omega (arith, q.1), q.2, omega (arith, c.index.ensures.1, count_le a.n q.0)); by_index = row_room a.n _ _ _ a.list.now.count a.s a.list.now.at q.4 q.0 q.1 c.index.ensures.0 refl q.3 }

pub returns : goal.returns
unfolding ListHolds
returns c =
    let a = c.args in let q = c.requires in
    let k = c.index in
    λ m x w g.
    row_sum m a.n (get_or a.list.now.at a.s 0) (poly_at a.n a.table.now) x _
    (c.row.ensures m a.n (get_or a.list.now.at a.s 0) x (λ e. (poly_at a.n a.table.now e).lin (get_or a.list.now.at a.s 0)) (λ e j. (poly_at a.n a.table.now e).quad (get_or a.list.now.at a.s 0) j) g (omega arith)
    (rw c.vector-seed.ensures (lin_holds a.n m a.table.now w (get_or a.list.now.at a.s 0) (q.4.below a.s q.1)))
    (λ e. none_begun _ _)
    (λ u l z. let o = pair_order a.n a.list.now.at a.list.now.count a.s u q.4 l z in row_holds a.n m a.table.now w (get_or a.list.now.at a.s 0) (get_or a.list.now.at u 0) _ _ o.0 o.1 k.ensures.0 refl))

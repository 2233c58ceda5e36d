-- `cubic_planes::cell` meets its contract: the seed is the pair's coefficient, the row those of its products.
use mathlib.Core.Path.{ap}
use Prim.Native.Nat.{ℕ, ◌+◌, ◌-◌}
use native.Mathlib.Omega.{arith}
use lib.ListN.{get_or}
use Rattle.tables.proofs.IndexLaw.{row_ge, count_le}
use Rattle.listed.specs.Lists.{ListHolds}
use Rattle.listed.proofs.ListLaw.{none_begun, pair_order}
use Rattle.cubic_tables.specs.Words.{cubic_at}
use Rattle.cubic_tables.proofs.OrderLaw.{pair_is, cubic_count_low}
use Rattle.cubic_tables.proofs.HoldsLaw.{quad_holds}
use Rattle.cubic_planes.proofs.ValueLaw.{pair_number, later_same, later_apart, cell_room, cell_entry, cell_square, next_le, cell_sum_lem}
use Rattle.cubic_planes.proofs.cell.Goals as goal

pub overflow_sub-pair : goal.overflow_sub-pair
overflow_sub-pair c = let a = c.args in let q = c.requires in omega (arith, c.index.ensures.0, pair_is a.n (get_or a.list.now.at a.t 0) (get_or a.list.now.at a.t 0))

pub overflow_sub-pair-2 : goal.overflow_sub-pair-2
overflow_sub-pair-2 c = let a = c.args in let q = c.requires in omega (arith, c.index.ensures.0, pair_is a.n (get_or a.list.now.at a.t 0) (get_or a.list.now.at a.t 0))

pub overflow_sub-base : goal.overflow_sub-base
overflow_sub-base c = let a = c.args in let q = c.requires in let o = pair_order a.n a.list.now.at a.list.now.count a.s a.t q.5 q.1 q.2 in omega (arith, (pair_number a.n (get_or a.list.now.at a.t 0) c.index.result c.index.ensures.0), row_ge a.n (get_or a.list.now.at a.t 0) (omega arith))

pub overflow_add-base : goal.overflow_add-base
overflow_add-base c = let a = c.args in let q = c.requires in omega (arith, c.key.ensures.1, c.index.ensures.1, count_le a.n q.0)

pub vector-seed-requires : goal.vector-seed-requires
vector-seed-requires c = let a = c.args in let q = c.requires in omega (arith, c.index-k.ensures.1, cubic_count_low a.n, q.4)

pub row-requires : goal.row-requires
row-requires c =
    let a = c.args in let q = c.requires in
    let o = pair_order a.n a.list.now.at a.list.now.count a.s a.t q.5 q.1 q.2 in record { from_le_count = (omega arith, q.3, omega (arith, c.key.ensures.1, c.index.ensures.1, count_le a.n q.0)); by_index = cell_room a.n _ _ _ (get_or a.list.now.at a.s 0) (get_or a.list.now.at a.t 0) a.list.now.count _ a.list.now.at q.5 q.0 o.0 (pair_number a.n (get_or a.list.now.at a.t 0) c.index.result c.index.ensures.0) (ap (λ (y : ℕ). y + (c.index.result - a.n - 1 - (get_or a.list.now.at a.t 0))) c.key.ensures.0) q.4 (later_same a.n a.list.now.at a.list.now.count a.s a.t q.5 c.if-s-t.true) }

pub returns-then-s-t : goal.returns-then-s-t
unfolding ListHolds
returns-then-s-t c =
    let a = c.args in let q = c.requires in
    let o = pair_order a.n a.list.now.at a.list.now.count a.s a.t q.5 q.1 q.2 in
    let k = (pair_number a.n (get_or a.list.now.at a.t 0) c.index.result c.index.ensures.0) in
    let b = ap (λ (y : ℕ). y + (c.index.result - a.n - 1 - (get_or a.list.now.at a.t 0))) c.key.ensures.0 in
    λ m x w g.
    cell_sum_lem m a.n (get_or a.list.now.at a.s 0) (get_or a.list.now.at a.t 0) (cubic_at a.n a.table.now) x _
    (c.row.ensures m a.n (get_or a.list.now.at a.t 0) x (λ e. (cubic_at a.n a.table.now e).quad (get_or a.list.now.at a.s 0) (get_or a.list.now.at a.t 0)) (λ e k. (cubic_at a.n a.table.now e).cube (get_or a.list.now.at a.s 0) (get_or a.list.now.at a.t 0) k) g (next_le a.n x a.list.now.at a.list.now.turn a.list.now.count a.t g q.2)
    (rw (c.vector-seed.ensures, c.index-k.ensures.0) (quad_holds a.n m a.table.now w (get_or a.list.now.at a.s 0) (get_or a.list.now.at a.t 0) o.0 o.1))
    (cell_square a.n x a.list.now.at a.list.now.turn a.list.now.count a.s a.t a.table.now g c.if-s-t.true q.2)
    (λ u l z. let y = later_same a.n a.list.now.at a.list.now.count a.s a.t q.5 c.if-s-t.true u l z in cell_entry a.n m a.table.now w (get_or a.list.now.at a.s 0) (get_or a.list.now.at a.t 0) (get_or a.list.now.at u 0) _ _ o.0 y.0 y.1 (q.5.below u z) k b))

pub row-requires-2 : goal.row-requires-2
row-requires-2 c =
    let a = c.args in let q = c.requires in
    let o = pair_order a.n a.list.now.at a.list.now.count a.s a.t q.5 q.1 q.2 in record { from_le_count = (omega arith, q.3, omega (arith, c.key.ensures.1, c.index.ensures.1, count_le a.n q.0)); by_index = cell_room a.n _ _ _ (get_or a.list.now.at a.s 0) (get_or a.list.now.at a.t 0) a.list.now.count _ a.list.now.at q.5 q.0 o.0 (pair_number a.n (get_or a.list.now.at a.t 0) c.index.result c.index.ensures.0) (ap (λ (y : ℕ). y + (c.index.result - a.n - 1 - (get_or a.list.now.at a.t 0))) c.key.ensures.0) q.4 (later_apart a.n a.list.now.at a.list.now.count a.s a.t q.5 q.1 c.if-s-t.false) }

pub returns : goal.returns
unfolding ListHolds
returns c =
    let a = c.args in let q = c.requires in
    let o = pair_order a.n a.list.now.at a.list.now.count a.s a.t q.5 q.1 q.2 in
    let k = (pair_number a.n (get_or a.list.now.at a.t 0) c.index.result c.index.ensures.0) in
    let b = ap (λ (y : ℕ). y + (c.index.result - a.n - 1 - (get_or a.list.now.at a.t 0))) c.key.ensures.0 in
    λ m x w g.
    cell_sum_lem m a.n (get_or a.list.now.at a.s 0) (get_or a.list.now.at a.t 0) (cubic_at a.n a.table.now) x _
    (c.row-2.ensures m a.n (get_or a.list.now.at a.t 0) x (λ e. (cubic_at a.n a.table.now e).quad (get_or a.list.now.at a.s 0) (get_or a.list.now.at a.t 0)) (λ e k. (cubic_at a.n a.table.now e).cube (get_or a.list.now.at a.s 0) (get_or a.list.now.at a.t 0) k) g (omega arith)
    (rw (c.vector-seed.ensures, c.index-k.ensures.0) (quad_holds a.n m a.table.now w (get_or a.list.now.at a.s 0) (get_or a.list.now.at a.t 0) o.0 o.1))
    (λ e. none_begun _ _)
    (λ u l z. let y = later_apart a.n a.list.now.at a.list.now.count a.s a.t q.5 q.1 c.if-s-t.false u l z in cell_entry a.n m a.table.now w (get_or a.list.now.at a.s 0) (get_or a.list.now.at a.t 0) (get_or a.list.now.at u 0) _ _ o.0 y.0 y.1 (q.5.below u z) k b))

-- `seconds::seed` meets its contract: where b is c, no place begins with b, c, c.
use native.Mathlib.Omega.{arith}
use Rattle.cubic_tables.proofs.OrderLaw.{cubic_count_low}
use Prim.Native.Nat.{◌+◌}
use Rattle.seconds.proofs.CountedLaw.{base_at, base_room, seed_same, seed_near}
use Rattle.seconds.proofs.seed.Goals as goal

pub vector-first-requires : goal.vector-first-requires
vector-first-requires c = omega (arith, cubic_count_low c.args.n)

pub returns-then-b-c : goal.returns-then-b-c
returns-then-b-c c =
    let a = c.args in
    let p = c.requires in
    λ m q w y. seed_same a.n m a.table.now w a.b a.c q p.1 p.2 c.if-b-c.true (rw (← c.index-k.ensures.0) c.vector-first.ensures)

pub overflow_add-base : goal.overflow_add-base
overflow_add-base c =
    let a = c.args in
    let p = c.requires in
    let r = base_room a.n a.b a.c a.c a.base _ p.1 (omega arith) (omega arith) p.2 p.3 p.4 in
    omega arith

pub vector-requires : goal.vector-requires
vector-requires c =
    let a = c.args in
    let p = c.requires in
    let r = base_room a.n a.b a.c a.c a.base _ p.1 (omega arith) (omega arith) p.2 p.3 p.4 in
    omega arith

pub returns : goal.returns
returns c =
    let a = c.args in
    let p = c.requires in
    let k = base_at a.n a.b a.c a.c a.base p.1 (omega arith) (omega arith) p.2 p.3 in
    λ m q w y.
    seed_near a.n m a.table.now w a.b a.c q p.1 p.2 (a.base + a.c) a.y c.if-b-c.false
    (rw (← c.index-k.ensures.0) c.vector-first.ensures) k c.vector.ensures y c.times-near.ensures c.add.ensures

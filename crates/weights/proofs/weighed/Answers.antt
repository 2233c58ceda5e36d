-- `weights::weighed` meets its contract: where b is c, or c the last unknown, there is no entry to add.
use mathlib.Core.Path.{◌≡◌}
use Prim.Native.Nat.{ℕ, suc, ◌+◌, ◌<◌, ◌≤◌}
use native.Mathlib.Omega.{arith}
use lib.ListN.{get_or}
use borrow.Author.Tests.{lt-ltb, le-ltb, ltb-true}
use Rattle.trits.specs.Trit.{Holds}
use Rattle.tables.specs.Words.{entry}
use Rattle.cubic_tables.specs.Words.{cubic_at}
use Rattle.cubic_tables.proofs.OrderLaw.{cubic_count_low}
use Rattle.cubic_tables.proofs.HoldsLaw.{quad_holds, cube_holds}
use Rattle.seconds.proofs.CountedLaw.{base_at, base_room}
use Rattle.weights.proofs.RowLaw.{weighed_law}
use Rattle.weights.proofs.weighed.Goals as goal

pub vector-requires : goal.vector-requires
vector-requires c = omega (arith, cubic_count_low c.args.n)

pub row-far-requires : goal.row-far-requires
row-far-requires c =
    let a = c.args in
    let p = c.requires.n_le_most_unknowns in record { from_le_count = (p.6, p.7, p.4); by_index = λ t l m. let s = c.requires.by_index t l m in let r = base_room a.n a.b a.c (get_or a.list.now.at t 0) a.base _ p.1 (omega arith) (omega arith) s.1 p.3 p.5 in (omega arith, r) }

pub more-near-requires : goal.more-near-requires
more-near-requires c =
    let a = c.args in
    let p = c.requires.n_le_most_unknowns in
    λ t. let l : a.b < a.c = ltb-true _ _ t in base_room a.n a.b a.c a.c a.base _ p.1 (omega arith) l p.2 p.3 p.5

pub more-requires : goal.more-requires
more-requires c =
    let a = c.args in
    let p = c.requires.n_le_most_unknowns in
    λ t. let l : a.c + 1 < a.n = ltb-true _ _ t in let r = base_room a.n a.b a.c (a.c + 1) a.base _ p.1 (omega arith) (omega arith) l p.3 p.5 in omega arith

pub returns : goal.returns
returns c =
    let a = c.args in
    let p = c.requires.n_le_most_unknowns in
    let at = a.list.now.at in
    let tb = a.table.now in
    let n = a.n in
    let b = a.b in
    let d = a.c in
    λ m α g x w lists skips weighs.
    let seed : Holds m (λ e. (cubic_at n tb e).quad b d) c.vector.result = rw (c.vector.ensures, c.index-k.ensures.0) (quad_holds n m tb w b d p.1 p.2) in
    let each : (t : ℕ) → a.from ≤ t → t < a.list.now.count → Holds m (λ e. (cubic_at n tb e).cube b d (get_or at t 0)) (entry tb (a.base + get_or at t 0))
    = λ t l o. let s = c.requires.by_index t l o in let i : d ≤ get_or at t 0 = omega arith in let j : b < get_or at t 0 = omega arith in
    rw (base_at n b d (get_or at t 0) a.base p.1 i j s.1 p.3) (cube_holds n m tb w b d (get_or at t 0) p.1 i j s.1) in
    let near : b < d → Holds m (λ e. (cubic_at n tb e).cube b d d) (entry tb (a.base + d)) = λ l. rw (base_at n b d d a.base p.1 (omega arith) l p.2 p.3) (cube_holds n m tb w b d d p.1 (omega arith) l p.2) in
    let next : suc d < n → Holds m (λ e. (cubic_at n tb e).cube b d (suc d)) (entry tb (a.base + d + 1))
    = λ l. let o : a.base + d + 1 ≡ a.base + suc d = omega arith in rw (o, base_at n b d (suc d) a.base p.1 (omega arith) (omega arith) l p.3) (cube_holds n m tb w b d (suc d) p.1 (omega arith) (omega arith) l) in
    weighed_law n m b d α g x a.w weighs p.1 p.2 at a.list.now.turn a.list.now.count a.from lists skips (λ e. (cubic_at n tb e).quad b d) (λ e k. (cubic_at n tb e).cube b d k)
    (λ i l z. c.row-far.ensures m n i x (λ e. (cubic_at n tb e).quad b d) (λ e k. (cubic_at n tb e).cube b d k) lists l seed z each)
    c.times.ensures
    (λ f u l. c.more-near.ensures.0 m f (λ e. (cubic_at n tb e).cube b d d) u (lt-ltb _ _ l) (near l))
    (λ e. c.more-near.ensures.1 (le-ltb b d (let i : d ≤ b = omega arith in i)))
    (λ f u l. c.more.ensures.0 m f (λ e. (cubic_at n tb e).cube b d (suc d)) u (lt-ltb (d + 1) n (let i : d + 1 < n = omega arith in i)) (next l))
    (λ e. c.more.ensures.1 (le-ltb (d + 1) n (let i : n ≤ d + 1 = omega arith in i)))

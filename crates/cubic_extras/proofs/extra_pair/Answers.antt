-- `cubic_extras::extra_pair` meets its contract.
use mathlib.Core.Path.{◌≡◌}
use Prim.Native.Nat.{◌+◌, ◌<◌}
use native.Mathlib.Omega.{arith}
use Rattle.cubic_tables.specs.Order.{cubic_count, triple_index}
use Rattle.cubic_tables.proofs.OrderLaw.{triple_lt}
use Rattle.brackets.proofs.BracketLaw.{low_count, start_count, known_le, holds_eq, pair_same, pair_other}
use Rattle.trits.proofs.HoldLaw.{holds_add, holds_negate}
use Rattle.brackets.specs.Brackets.{brackets_at}
use Rattle.cubic_extras.proofs.extra_pair.Goals as goal

pub returns-then-b-c : goal.returns-then-b-c
returns-then-b-c c =
    let a = c.args in
    let q = c.requires in
    let n = a.n in
    let b = a.b in
    let x = a.c in
    λ m g w. holds_eq (λ e. pair_same (brackets_at n g e) b x c.if-b-c.true) (holds_negate c.negate.ensures (c.prior.ensures m g (known_le n m g (cubic_count n) (triple_index n b b b) a.table.now (start_count n b (omega (arith, q))) w)))

pub returns : goal.returns
returns c =
    let a = c.args in
    let q = c.requires in
    let n = a.n in
    let b = a.b in
    let x = a.c in
    let i : b ≡ x → ⊥ = c.if-b-c.false in
    let l : b < x = omega (arith, q, i) in
    λ m g w. holds_eq (λ e. pair_other (brackets_at n g e) b x i) (holds_negate c.negate-2.ensures (holds_add c.add.ensures
    (c.high.ensures m g (known_le n m g (cubic_count n) (triple_index n b x x + 1) a.table.now (omega (arith, triple_lt n b x x (omega arith) (omega arith) l q.2)) w))
    (c.low.ensures m g (known_le n m g (cubic_count n) (triple_index n b x x) a.table.now (low_count n b x l q.2) w))))

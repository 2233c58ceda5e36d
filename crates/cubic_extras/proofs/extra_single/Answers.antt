-- `cubic_extras::extra_single` meets its contract.
use Prim.Native.Nat.{◌+◌, ◌-◌, ◌<◌}
use native.Mathlib.Omega.{arith}
use Rattle.cubic_tables.specs.Order.{cubic_count, triple_index}
use Rattle.cubic_tables.proofs.OrderLaw.{triple_lt}
use Rattle.brackets.proofs.BracketLaw.{start_count, known_le, holds_eq, holds_none, single_none, single_some}
use Rattle.trits.proofs.HoldLaw.{holds_add, holds_negate}
use Rattle.brackets.specs.Brackets.{brackets_at}
use Rattle.cubic_extras.proofs.extra_single.Goals as goal

pub returns-then-b-eq0 : goal.returns-then-b-eq0
returns-then-b-eq0 c =
    let a = c.args in
    let q = c.requires in
    let n = a.n in
    let b = a.b in
    λ m g w. holds_eq (λ e. single_none (brackets_at n g e) b c.if-b-eq0.true) (holds_none m)

pub returns : goal.returns
returns c =
    let a = c.args in
    let q = c.requires in
    let n = a.n in
    let b = a.b in
    let t = a.table.now in
    let z : 0 < b = omega (arith, c.if-b-eq0.false) in
    λ m g w. holds_eq (λ e. single_some (brackets_at n g e) b z) (holds_add c.add.ensures (c.prior.ensures m g (known_le n m g (cubic_count n) (triple_index n b b b) t (start_count n b q.1) w))
    (holds_negate c.negate.ensures (c.two-s.ensures m g (known_le n m g (cubic_count n) (triple_index n (b - 1) (b - 1) b + 1) t (omega (arith, triple_lt n (b - 1) (b - 1) b (omega arith) (omega arith) (omega arith) q.1)) w))))

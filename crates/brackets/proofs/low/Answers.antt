-- `brackets::low` meets its contract.
use mathlib.Core.Path.{◌≡◌}
use Prim.Native.Nat.{suc, ◌+◌, ◌-◌, ◌<◌}
use native.Mathlib.Omega.{arith}
use Rattle.cubic_tables.specs.Order.{triple_index}
use Rattle.brackets.proofs.BracketLaw.{row_less, start_le, known_le, low_first, low_later}
use Rattle.brackets.proofs.low.Goals as goal

pub returns-then-b-p : goal.returns-then-b-p
returns-then-b-p c =
    let a = c.args in
    let q = c.requires in
    let n = a.n in
    let b = a.b in
    let x = a.c in
    let t = a.table.now in
    let e : x ≡ suc b = omega (arith, c.if-b-p.true, q) in
    λ m g w. low_first n m g b x c.two.result c.prior.result c.add.result e c.add.ensures
    (c.two.ensures m g (known_le n m g (triple_index n b x x) (triple_index n b b x + 1) t (row_less n b b x x x (omega arith) (omega arith) q.1 q.2 q.1 (omega arith)) w))
    (c.prior.ensures m g (known_le n m g (triple_index n b x x) (triple_index n b b b) t (start_le n b x x (omega arith)) w))

pub returns : goal.returns
returns c =
    let a = c.args in
    let q = c.requires in
    let n = a.n in
    let b = a.b in
    let x = a.c in
    let t = a.table.now in
    let y = x - 1 in
    let e : x ≡ suc y = omega (arith, q) in
    let d : b ≡ y → ⊥ = c.if-b-p.false in
    let l : b < y = omega (arith, q, d) in
    λ m g w. low_later n m g b x y c.two-2.result c.all.result c.add-s.result c.prior-2.result c.add-2.result e d c.add-s.ensures c.add-2.ensures
    (c.two-2.ensures m g (known_le n m g (triple_index n b x x) (triple_index n b b y + 1) t (row_less n b b y x x (omega arith) (omega arith) l (omega arith) q.1 (omega arith)) w))
    (c.all.ensures m g (known_le n m g (triple_index n b x x) (triple_index n b y x + 1) t (row_less n b y x x x (omega arith) (omega arith) q.1 q.2 (omega arith) (omega arith)) w))
    (c.prior-2.ensures m g (known_le n m g (triple_index n b x x) (triple_index n b b b) t (start_le n b x x (omega arith)) w))

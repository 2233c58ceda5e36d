-- `cubic_cells::coefficient` meets its contract.
use mathlib.Core.Path.{◌≡◌}
use Prim.Native.Nat.{◌+◌, ◌<◌}
use native.Mathlib.Omega.{arith}
use Rattle.cubic_tables.specs.Order.{triple_index}
use Rattle.brackets.proofs.BracketLaw.{row_less, start_le, place_le, known_le, holds_whole, coefficient_two, coefficient_same, coefficient_other}
use Rattle.cubic_cells.proofs.coefficient.Goals as goal

pub returns-then-b-c : goal.returns-then-b-c
returns-then-b-c c =
    let a = c.args in
    let q = c.requires in
    let n = a.n in
    let b = a.b in
    let d = a.d in
    let x = a.c in
    let f = a.from.now in
    let t = a.to.now in
    λ m g w k. coefficient_two n m f g b x d c.entry-x.result c.prior-p.result c.add-s.result c.prior.result c.negate.result c.add.result c.negate-then-b-c.result c.if-b-c.true c.add-s.ensures c.negate.ensures c.add.ensures c.negate-then-b-c.ensures
    (holds_whole n m f b x d c.entry-x.result q.1 q.2 q.3 q.4 w c.entry-x.ensures) (c.prior-p.ensures m g (known_le n m g (triple_index n b x d) (triple_index n b b b) t (start_le n b x d q.1) k)) (c.prior.ensures m g (known_le n m g (triple_index n b x d) (triple_index n b b b) t (start_le n b x d q.1) k))

pub returns-then-c-d : goal.returns-then-c-d
returns-then-c-d c =
    let a = c.args in
    let q = c.requires in
    let n = a.n in
    let b = a.b in
    let d = a.d in
    let x = a.c in
    let f = a.from.now in
    let t = a.to.now in
    let i : b ≡ x → ⊥ = c.if-b-c.false in
    let l : b < x = omega (arith, q, i) in
    λ m g w k. coefficient_same n m f g b x d c.entry-x.result c.prior-p.result c.low-l.result c.two.result c.add-s-2.result c.negate-minus.result c.add-v.result c.add-then-c-d.result c.negate-then-c-d.result i c.if-c-d.true c.add-s-2.ensures c.negate-minus.ensures c.add-v.ensures c.add-then-c-d.ensures c.negate-then-c-d.ensures
    (holds_whole n m f b x d c.entry-x.result q.1 q.2 q.3 q.4 w c.entry-x.ensures) (c.prior-p.ensures m g (known_le n m g (triple_index n b x d) (triple_index n b b b) t (start_le n b x d q.1) k)) (c.low-l.ensures m g (known_le n m g (triple_index n b x d) (triple_index n b x x) t (place_le n b x d q.2) k)) (c.two.ensures m g (known_le n m g (triple_index n b x d) (triple_index n b b d + 1) t (row_less n b b d x d (omega arith) (omega arith) q.3 q.4 l q.2) k))

pub returns : goal.returns
returns c =
    let a = c.args in
    let q = c.requires in
    let n = a.n in
    let b = a.b in
    let d = a.d in
    let x = a.c in
    let f = a.from.now in
    let t = a.to.now in
    let i : b ≡ x → ⊥ = c.if-b-c.false in
    let l : b < x = omega (arith, q, i) in
    let o : x < n = omega (arith, q) in
    λ m g w k. coefficient_other n m f g b x d c.entry-x.result c.prior-p.result c.low-l.result c.two.result c.add-s-2.result c.negate-minus.result c.entry.result c.negate-2.result c.add-y.result c.add-v-2.result c.add-2.result i c.if-c-d.false c.add-s-2.ensures c.negate-minus.ensures c.negate-2.ensures c.add-y.ensures c.add-v-2.ensures c.add-2.ensures
    (holds_whole n m f b x d c.entry-x.result q.1 q.2 q.3 q.4 w c.entry-x.ensures) (c.prior-p.ensures m g (known_le n m g (triple_index n b x d) (triple_index n b b b) t (start_le n b x d q.1) k)) (c.low-l.ensures m g (known_le n m g (triple_index n b x d) (triple_index n b x x) t (place_le n b x d q.2) k)) (c.two.ensures m g (known_le n m g (triple_index n b x d) (triple_index n b b d + 1) t (row_less n b b d x d (omega arith) (omega arith) q.3 q.4 l q.2) k)) (holds_whole n m f b x x c.entry.result q.1 (omega arith) l o w c.entry.ensures)

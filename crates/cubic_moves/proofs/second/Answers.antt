-- `cubic_moves::second` meets its contract.
use mathlib.Core.Path.{◌≡◌, refl, ap, ◌∙◌}
use Prim.Native.Nat.{ℕ, ◌+◌, ◌<◌}
use native.Mathlib.Omega.{arith}
use Rattle.trits.specs.Words.{add_of}
use Rattle.positions.specs.Positions.{lowest_of}
use Rattle.tables.specs.Words.{entry}
use Rattle.cubic_tables.specs.Order.{pair_of}
use Rattle.cubic_moves.proofs.MoveLaw.{third_lt}
use Rattle.cubic_moves.proofs.second.Goals as goal

pub returns-then-rest-eq0 : goal.returns-then-rest-eq0
returns-then-rest-eq0 c = record { two = (λ h. (refl, c.vector.ensures, refl)); three = (λ h. absurd (omega (arith, h, c.if-rest-eq0))); count = omega arith }

pub overflow_add-d : goal.overflow_add-d
overflow_add-d c =
    let a = c.args in
    let z = c.requires.n_le_most_unknowns in
    let h : 0 < a.rest = omega (arith, c.if-rest-eq0) in
    omega (arith, third_lt a.n a.c a.rest h z.2, c.split-f.ensures.position, z.0)

pub pair-requires : goal.pair-requires
pair-requires c =
    let a = c.args in
    let z = c.requires.n_le_most_unknowns in
    let h : 0 < a.rest = omega (arith, c.if-rest-eq0) in
    (z.0, omega arith, omega (arith, third_lt a.n a.c a.rest h z.2, c.split-f.ensures.position))

pub vector-t-requires : goal.vector-t-requires
vector-t-requires c = c.requires.by_index c.pair.result c.pair.ensures.1

pub returns : goal.returns
returns c =
    let a = c.args in
    let u = c.raised.ensures in
    let g = c.split-f.ensures.position in
    let e : c.pair.result ≡ pair_of a.n a.c (a.c + lowest_of 3 a.rest) = c.pair.ensures.0 ∙ ap (λ (m : ℕ). pair_of a.n a.c (a.c + m)) g in record { two = (λ h. absurd (omega (arith, h, c.if-rest-eq0))); three = (λ h. (u.seconds, u.sum.0 ∙ ap (add_of (entry a.seconds.now a.k)) (c.vector-t.ensures ∙ ap (λ (m : ℕ). entry a.table.now (a.kb + m)) e), u.sum.1)); count = omega (arith, u.sum.1) }

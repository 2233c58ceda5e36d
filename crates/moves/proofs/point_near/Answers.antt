-- `moves::point_near` meets its contract: three digits of its own, and those of its block.
use native.Mathlib.Omega.{arith}
use Rattle.moves.proofs.EntryLaw.{near_is, point_small}
use Rattle.moves.proofs.point_near.Goals as goal

pub overflow_add-result : goal.overflow_add-result
overflow_add-result c =
    let a = c.args in
    let e = near_is a.n a.place a.top a.high _ c.requires.0 c.if-place-top.true c.requires.2 c.point_at-low.ensures in
    omega (arith, e, point_small a.n a.place c.requires.1)

pub returns-then-place-top : goal.returns-then-place-top
returns-then-place-top c =
    let a = c.args in
    let e = near_is a.n a.place a.top a.high _ c.requires.0 c.if-place-top.true c.requires.2 c.point_at-low.ensures in
    e

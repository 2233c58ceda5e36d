-- `moves::points` meets its contract: the entries from `from` to before i are turned.
use mathlib.Core.Path.{◌≡◌, refl, sym, ap, ◌∙◌}
use Prim.Native.Nat.{ℕ, ◌-◌, ◌*◌, ◌/◌}
use native.Mathlib.Omega.{arith}
use lib.ListN.{length, length-set}
use Rattle.gray.specs.Numbers.{point_of}
use Rattle.moves.specs.Moves.{turned_in}
use Rattle.moves.proofs.EntryLaw.{turned_none, turned_step, point_small}
use Rattle.moves.proofs.points.Goals as goal

pub returns-then-from-to : goal.returns-then-from-to
returns-then-from-to c =
    let a = c.args in
    let e : 0 ≡ a.to - a.from = omega (arith, c.if-from-to) in
    sym (turned_none (point_of 3 a.n) a.from a.list.now) ∙ ap (λ (k : ℕ). turned_in (point_of 3 a.n) a.from k a.list.now) e

pub overflow_mul-high : goal.overflow_mul-high
overflow_mul-high c =
    omega (arith, c.point_at-first.ensures, point_small (c.args.n - 3) (c.args.place / 27) (omega (arith, c.requires)))

pub loop-i-init : goal.loop-i-init
loop-i-init c =
    let a = c.args in
    let e : 0 ≡ a.from - a.from = omega arith in
    (omega arith, refl, sym (turned_none (point_of 3 a.n) a.from a.list.now) ∙ ap (λ (k : ℕ). turned_in (point_of 3 a.n) a.from k a.list.now) e)

pub point_near-requires : goal.point_near-requires
point_near-requires c =
    (c.requires.0, c.requires.1, ap (λ (x : ℕ). 27 * x) c.point_at-first.ensures)

pub loop-i-preserved : goal.loop-i-preserved
loop-i-preserved c =
    let l = c.loop-i in
    let a = c.args in
    (omega (arith, l.invariant.0), length-set l.list l.i _ ∙ l.invariant.1, turned_step (point_of 3 a.n) a.from l.i _ a.list.now l.list l.invariant.0 l.invariant.2 c.point_near.ensures)

pub shape_of-list : goal.shape_of-list
shape_of-list c = c.loop-i.invariant.1

pub returns : goal.returns
returns c =
    let l = c.loop-i in
    let a = c.args in
    let e : l.i - a.from ≡ a.to - a.from = omega (arith, l.invariant.0) in
    l.invariant.2 ∙ ap (λ (k : ℕ). turned_in (point_of 3 a.n) a.from k a.list.now) e

-- `seconds::second` meets its contract. The loop's invariant: the entries of b, c and the unknowns below d are counted, and y is what is left of the
-- place over 3 to the d.
use mathlib.Core.Path.{◌≡◌, refl, ap, ◌∙◌}
use Prim.Native.Nat.{ℕ, ◌+◌, ◌/◌, ◌^◌, ◌<◌}
use native.Mathlib.Nat.{div-le_self, one-le-pow}
use native.Mathlib.Omega.{arith}
use Rattle.seconds.proofs.CountedLaw.{base_at, base_room, counted_more, counted_whole, part_next}
use Rattle.seconds.proofs.second.Goals as goal

pub nonzero_div-y : goal.nonzero_div-y
nonzero_div-y c = omega (arith, one-le-pow c.args.c 3 (omega arith))

pub loop-d-init : goal.loop-d-init
loop-d-init c =
    let a = c.args in
    let p = c.requires in
    let e : a.rest / a.power ≡ a.rest / 3 ^ a.c = ap (λ (x : ℕ). a.rest / x) p.6 in
    (ap (λ (x : ℕ). x / 3) e ∙ part_next a.rest a.c, λ m q w r. c.seed-v.ensures m q w (e ∙ ap (λ (x : ℕ). x / 3 ^ a.c) r))

pub overflow_add-base : goal.overflow_add-base
overflow_add-base c =
    let a = c.args in
    let p = c.requires in
    let r = base_room a.n a.b a.c c.loop-d.d a.base _ p.1 (omega arith) (omega arith) (omega arith) p.3 p.4 in
    omega arith

pub vector-requires : goal.vector-requires
vector-requires c =
    let a = c.args in
    let p = c.requires in
    let r = base_room a.n a.b a.c c.loop-d.d a.base _ p.1 (omega arith) (omega arith) (omega arith) p.3 p.4 in
    omega arith

pub loop-d-preserved : goal.loop-d-preserved
loop-d-preserved c =
    let a = c.args in
    let p = c.requires in
    let l = c.loop-d in
    let k = base_at a.n a.b a.c l.d a.base p.1 (omega arith) (omega arith) (omega arith) p.3 in
    let d : l.d < a.n = omega arith in
    let low : a.c < l.d = omega arith in (
      ap (λ (x : ℕ). x / 3) l.invariant.0 ∙ part_next a.rest l.d,
      λ m q w r. counted_more a.n m a.table.now w a.b a.c q p.1 p.2 l.d (a.base + l.d) l.y (l.y / 3) low d k c.vector.ensures
          (l.invariant.0 ∙ ap (λ (x : ℕ). x / 3 ^ l.d) r) refl c.times-w.ensures c.add-v.ensures (l.invariant.1 m q w r),
    )

pub returns : goal.returns
returns c =
    let a = c.args in
    let p = c.requires in
    let l = c.loop-d in
    let e : l.d ≡ a.n = omega arith in
    λ m q w small r. counted_whole a.n m a.table.now w a.b a.c q p.1 p.2 small (rw e at (l.invariant.1 m q w r))

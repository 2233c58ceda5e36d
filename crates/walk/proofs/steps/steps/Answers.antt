-- `walk::steps::steps` meets its contract: each turn is one place of the search.
use mathlib.Core.Path.{◌≡◌, refl}
use Prim.Native.Nat.{◌<◌}
use native.Mathlib.Omega.{arith}
use lib.ListN.{length}
use Rattle.moves.specs.Moves.{headed, product}
use Rattle.walk.specs.Run.{state_of}
use Rattle.moves.proofs.MoveLaw.{step_note}
use Rattle.walk.proofs.WalkedLaw.{state_by, walked_none, walked_one, goes_on, goes_no_more}
use Rattle.walk.proofs.steps.steps.Goals as goal

pub offset_bounds-slots-b : goal.offset_bounds-slots-b
offset_bounds-slots-b c =
    let l = c.loop-f in
    let a = c.args in
    let g = goes_on a.table.now a.n a.end a.budget l.left (length a.list.now) _ _ _ c.requires.sized l.invariant.1 refl c.going.ensures c.loop-f-test.true in
    omega (arith, g.low, c.split-f.ensures.position, c.requires.sized.small)

pub bounds-slots-b : goal.bounds-slots-b
bounds-slots-b c =
    let l = c.loop-f in
    let a = c.args in
    let g = goes_on a.table.now a.n a.end a.budget l.left (length a.list.now) _ _ _ c.requires.sized l.invariant.1 refl c.going.ensures c.loop-f-test.true in
    omega (arith, g.low, c.split-f.ensures.position, c.requires.sized.small)

pub head-h-requires : goal.head-h-requires
head-h-requires c =
    let l = c.loop-f in
    let a = c.args in
    let g = goes_on a.table.now a.n a.end a.budget l.left (length a.list.now) _ _ _ c.requires.sized l.invariant.1 refl c.going.ensures c.loop-f-test.true in
    let z = c.requires.sized in
    let v = c.split-f.ensures in record { sized = record { some = z.some; small = z.small; table = z.table; end = omega arith }; place_bound = (omega (arith, g.place, z.end), v.position, v.whole, g.count) }

pub offset_bounds-slots-b-in-loop-f : goal.offset_bounds-slots-b-in-loop-f
offset_bounds-slots-b-in-loop-f c =
    let l = c.loop-f in
    let a = c.args in
    let g = goes_on a.table.now a.n a.end a.budget l.left (length a.list.now) _ _ _ c.requires.sized l.invariant.1 refl c.going.ensures c.loop-f-test.true in
    omega (arith, g.low, c.split-f.ensures.position, c.requires.sized.small)

pub bounds-slots-b-in-loop-f : goal.bounds-slots-b-in-loop-f
bounds-slots-b-in-loop-f c =
    let l = c.loop-f in
    let a = c.args in
    let g = goes_on a.table.now a.n a.end a.budget l.left (length a.list.now) _ _ _ c.requires.sized l.invariant.1 refl c.going.ensures c.loop-f-test.true in
    omega (arith, g.low, c.split-f.ensures.position, c.requires.sized.small)

pub loop-f-preserved : goal.loop-f-preserved
loop-f-preserved c =
    let l = c.loop-f in
    let a = c.args in
    let g = goes_on a.table.now a.n a.end a.budget l.left (length a.list.now) _ _ _ c.requires.sized l.invariant.1 refl c.going.ensures c.loop-f-test.true in
    let w = l.invariant.1 in
    let st = state_by l.place l.value l.slots l.additions l.found l.list in
    let v = c.split-f in
    let h = c.head-h in
    let m = c.mark-found in
    let T = product a.table.now a.n in
    let b : v.result.position < length l.slots = omega (arith, g.low, v.ensures.position, c.requires.sized.small, w.size) in
    let e = step_note a.n T st (headed st v.result.position h.result) _ _ (h.ensures.state st refl refl refl b) m.ensures.count m.ensures.list in
    (l.invariant.0, walked_one a.table.now a.n a.end a.budget l.left _ st _ w g e)

pub returns : goal.returns
returns c =
    let l = c.loop-f in
    let a = c.args in
    let w = l.invariant.1 in
    let e = goes_no_more a.table.now a.n a.end a.budget l.left (length a.list.now) _ _ _ w refl c.going.ensures c.loop-f-test.false in
    record { state = e; sane = record { place = w.place; found = w.found; additions = w.additions }; less = (omega (arith, w.went, w.less), omega (arith, w.went)) }

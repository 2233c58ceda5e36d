-- `cubic_walk::steps::steps` meets its contract: each turn is one place of the search.
use mathlib.Core.Path.{refl}
use native.Mathlib.Omega.{arith}
use lib.ListN.{length}
use Rattle.gray.specs.Numbers.{point_of}
use Rattle.cubic_moves.specs.Step.{walk_of}
use Rattle.cubic_tables.specs.Words.{triple_at}
use Rattle.cubic_moves.specs.Moves.{headed}
use Rattle.cubic_walk.specs.Run.{state_of}
use Rattle.cubic_moves.proofs.MoveLaw.{step_note}
use Rattle.cubic_moves.proofs.NearLaw.{counts, state_by, step_near, turns}
use Rattle.walks.proofs.WalkedLaw.{walked_none, walked_one, goes_no_more}
use Rattle.cubic_walk.proofs.steps.steps.Goals as goal

pub offset_bounds-slots-b : goal.offset_bounds-slots-b
offset_bounds-slots-b c =
    let l = c.loop-f in
    let a = c.args in
    let g = turns a.table.now a.n a.end c.requires.sized a.budget l.left (length a.list.now) _ _ _ l.invariant.1 refl c.going.ensures c.loop-f-test.true in
    omega (arith, g.low, c.split-f.ensures.position, c.requires.sized.small)

pub bounds-slots-b : goal.bounds-slots-b
bounds-slots-b c =
    let l = c.loop-f in
    let a = c.args in
    let g = turns a.table.now a.n a.end c.requires.sized a.budget l.left (length a.list.now) _ _ _ l.invariant.1 refl c.going.ensures c.loop-f-test.true in
    omega (arith, g.low, c.split-f.ensures.position, c.requires.sized.small)

pub turn-h-requires : goal.turn-h-requires
turn-h-requires c =
    let l = c.loop-f in
    let a = c.args in
    let g = turns a.table.now a.n a.end c.requires.sized a.budget l.left (length a.list.now) _ _ _ l.invariant.1 refl c.going.ensures c.loop-f-test.true in
    let z = c.requires.sized in
    let v = c.split-f.ensures in
    record { sized = record { some = z.some; small = z.small; table = z.table; end = omega arith }; place_bound = (g.far, v.position, v.whole, g.count) }

pub offset_bounds-slots-b-in-loop-f : goal.offset_bounds-slots-b-in-loop-f
offset_bounds-slots-b-in-loop-f c =
    let l = c.loop-f in
    let a = c.args in
    let g = turns a.table.now a.n a.end c.requires.sized a.budget l.left (length a.list.now) _ _ _ l.invariant.1 refl c.going.ensures c.loop-f-test.true in
    omega (arith, g.low, c.split-f.ensures.position, c.requires.sized.small)

pub bounds-slots-b-in-loop-f : goal.bounds-slots-b-in-loop-f
bounds-slots-b-in-loop-f c =
    let l = c.loop-f in
    let a = c.args in
    let g = turns a.table.now a.n a.end c.requires.sized a.budget l.left (length a.list.now) _ _ _ l.invariant.1 refl c.going.ensures c.loop-f-test.true in
    omega (arith, g.low, c.split-f.ensures.position, c.requires.sized.small)

pub loop-f-preserved : goal.loop-f-preserved
loop-f-preserved c =
    let l = c.loop-f in
    let a = c.args in
    let g = turns a.table.now a.n a.end c.requires.sized a.budget l.left (length a.list.now) _ _ _ l.invariant.1 refl c.going.ensures c.loop-f-test.true in
    let st = state_by l.place l.value l.slots l.seconds l.cost l.found l.list in
    let v = c.split-f in
    let h = c.turn-h in
    let m = c.mark-found in
    let T = triple_at a.table.now a.n in
    let e = step_note T a.n st (headed st v.result.position h.result _) _ _ (h.ensures.state st refl refl refl refl) m.ensures.count m.ensures.list in
    (l.invariant.0, walked_one 3 (walk_of a.n T) counts 3 (step_near (point_of 3 a.n) T) a.end a.budget l.left _ st _ l.invariant.1 g.goes e)

pub returns : goal.returns
returns c =
    let l = c.loop-f in
    let a = c.args in
    let w = l.invariant.1 in
    let e = goes_no_more 3 (walk_of a.n (triple_at a.table.now a.n)) counts 3 a.end a.budget l.left (length a.list.now) _ _ _ w refl c.going.ensures c.loop-f-test.false in
    record { state = e; sane = record { place = w.sound.place; found = w.sound.found; additions = w.sound.additions }; less = (omega (arith, w.went, w.less), omega (arith, w.went)) }

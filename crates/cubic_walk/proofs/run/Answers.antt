-- `cubic_walk::run` meets its contract: single places and blocks in turn are one search.
use mathlib.Core.Path.{refl}
use Prim.Native.Nat.{◌<◌}
use native.Mathlib.Omega.{arith}
use lib.ListN.{length}
use Rattle.gray.specs.Numbers.{point_of}
use Rattle.cubic_moves.specs.Step.{walk_of}
use Rattle.cubic_tables.specs.Words.{triple_at}
use Rattle.cubic_walk.specs.Run.{fresh, state_of}
use Rattle.cubic_moves.proofs.NearLaw.{counts, step_near}
use Rattle.walks.proofs.WalkedLaw.{walked_none, walked_on, goes_on, goes_no_more, goes_some}
use Rattle.cubic_walk.proofs.run.Goals as goal

pub steps-a-requires : goal.steps-a-requires
steps-a-requires c =
    let o = c.loop-start.invariant.1.sound in
    record { sized = c.requires.sized; sane_2 = record { place = o.place; found = o.found; additions = o.additions } }

pub leaps-r-requires : goal.leaps-r-requires
leaps-r-requires c = record { sized = c.requires.sized; sane_2 = c.steps-a.ensures.sane }

pub loop-start-smaller : goal.loop-start-smaller
loop-start-smaller c =
    let l = c.loop-start in
    let a = c.args in
    let T = triple_at a.table.now a.n in
    let g = goes_on 3 (walk_of a.n T) counts 3 a.end a.budget l.left (length a.list.now) _ (state_of l.r l.list) _ l.invariant.1 refl c.going.ensures c.loop-start-test.true in
    let f = c.lead-first in
    let h : 0 < f.result = f.ensures.1 g.left in
    let x = c.steps-a in
    let y = c.leaps-r in
    let p : l.r.walker.place < x.result.walker.place = goes_some 3 (walk_of a.n T) counts 3 (step_near (point_of 3 a.n) T) a.end f.result l.left (state_of l.r l.list) (state_of x.result _) g h x.ensures.state in
    omega (arith, p, g.left, x.ensures.less, f.ensures.0)

pub loop-start-preserved : goal.loop-start-preserved
loop-start-preserved c =
    let l = c.loop-start in
    let a = c.args in
    let T = triple_at a.table.now a.n in
    let g = goes_on 3 (walk_of a.n T) counts 3 a.end a.budget l.left (length a.list.now) _ (state_of l.r l.list) _ l.invariant.1 refl c.going.ensures c.loop-start-test.true in
    let f = c.lead-first in
    let h : 0 < f.result = f.ensures.1 g.left in
    let x = c.steps-a in
    let y = c.leaps-r in
    let o = y.ensures.sane in
    (l.invariant.0, walked_on 3 (walk_of a.n T) counts 3 (step_near (point_of 3 a.n) T) a.end f.result a.budget l.left _ (state_of l.r l.list) (state_of x.result _) (state_of y.result _) l.invariant.1 f.ensures.0 x.ensures.state x.auto.list y.ensures.state record { place = o.place; found = o.found; additions = o.additions } y.auto.list y.ensures.less.0 y.ensures.less.1)

pub shape_of-list : goal.shape_of-list
shape_of-list c = c.loop-start.invariant.1.list

pub returns : goal.returns
returns c =
    let l = c.loop-start in
    let a = c.args in
    let w = l.invariant.1 in
    let e = goes_no_more 3 (walk_of a.n (triple_at a.table.now a.n)) counts 3 a.end a.budget l.left (length a.list.now) _ _ _ w refl c.going.ensures c.loop-start-test.false in
    record { state = e; range = (omega (arith, w.went, w.less), w.sound.place) }

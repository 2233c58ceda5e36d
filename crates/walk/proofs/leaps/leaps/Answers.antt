-- `walk::leaps::leaps` meets its contract: each turn is 27 places of the search.
use mathlib.Core.Path.{◌≡◌, refl, ap}
use Prim.Native.Nat.{ℕ}
use native.Mathlib.Omega.{arith}
use lib.ListN.{length}
use borrow.Author.Rules.{rules}
use Rattle.walk.specs.Run.{state_of, search_of}
use Rattle.walk.proofs.LeapsLaw.{kept_none, fits, kept_more, kept_done}
use Rattle.walk.proofs.leaps.leaps.Goals as goal

pub returns-then-not-ready : goal.returns-then-not-ready
returns-then-not-ready c =
    let a = c.args in
    record { state = ap (λ (j : ℕ). search_of a.table.now a.n a.end j (state_of a.r a.list.now)) (omega arith); sane = c.requires.sane_2; less = (omega arith, omega arith) }

pub loop-top-init : goal.loop-top-init
loop-top-init c =
    let a = c.args in
    let y = c.ready.ensures (search rules) in
    let k : length a.r.walker.slots ≡ 20 = c.well_formed.1.1.1.0.1.1.0.1.1.1.1.0.1.0.1 in
    (refl, rw c.opened-x.ensures (kept_none a.table.now a.n a.end c.requires.sized a.budget a.r a.list.now k c.requires.sane_2 y.1 y.2))

pub overflow_add-b : goal.overflow_add-b
overflow_add-b c =
    let l = c.loop-top in
    let a = c.args in
    let k = l.invariant.1 in
    let m : length l.list ≡ length a.list.now = k.walked.list in
    let o = c.room.ensures c.loop-top-test.true in
    let v = c.split-f in
    let f = fits a.table.now a.n a.end c.requires.sized k o.1 v.result.position v.result.rest v.ensures.position v.ensures.whole in
    omega (arith, f.low, c.requires.sized.small)

pub offset_bounds-slots-b : goal.offset_bounds-slots-b
offset_bounds-slots-b c =
    let l = c.loop-top in
    let a = c.args in
    let k = l.invariant.1 in
    let m : length l.list ≡ length a.list.now = k.walked.list in
    let o = c.room.ensures c.loop-top-test.true in
    let v = c.split-f in
    let f = fits a.table.now a.n a.end c.requires.sized k o.1 v.result.position v.result.rest v.ensures.position v.ensures.whole in
    omega (arith, f.low, c.requires.sized.small)

pub bounds-slots-b : goal.bounds-slots-b
bounds-slots-b c =
    let l = c.loop-top in
    let a = c.args in
    let k = l.invariant.1 in
    let m : length l.list ≡ length a.list.now = k.walked.list in
    let o = c.room.ensures c.loop-top-test.true in
    let v = c.split-f in
    let f = fits a.table.now a.n a.end c.requires.sized k o.1 v.result.position v.result.rest v.ensures.position v.ensures.whole in
    omega (arith, f.low, c.requires.sized.small)

pub block27-t-requires : goal.block27-t-requires
block27-t-requires c =
    let l = c.loop-top in
    let a = c.args in
    let k = l.invariant.1 in
    let m : length l.list ≡ length a.list.now = k.walked.list in
    let o = c.room.ensures c.loop-top-test.true in
    let v = c.split-f in
    let f = fits a.table.now a.n a.end c.requires.sized k o.1 v.result.position v.result.rest v.ensures.position v.ensures.whole in
    let z = c.requires.sized in record { sized = record { some = z.some; small = z.small; table = z.table; end = omega arith }; top_value = c.tops-top.ensures; place_nonzero = (k.above, k.aligned, f.end, f.first, f.whole); found_in_bounds = (omega (arith, o, l.invariant.0, m), f.count) }

pub offset_bounds-slots-b-in-loop-top : goal.offset_bounds-slots-b-in-loop-top
offset_bounds-slots-b-in-loop-top c =
    let l = c.loop-top in
    let a = c.args in
    let k = l.invariant.1 in
    let m : length l.list ≡ length a.list.now = k.walked.list in
    let o = c.room.ensures c.loop-top-test.true in
    let v = c.split-f in
    let f = fits a.table.now a.n a.end c.requires.sized k o.1 v.result.position v.result.rest v.ensures.position v.ensures.whole in
    omega (arith, f.low, c.requires.sized.small)

pub bounds-slots-b-in-loop-top : goal.bounds-slots-b-in-loop-top
bounds-slots-b-in-loop-top c =
    let l = c.loop-top in
    let a = c.args in
    let k = l.invariant.1 in
    let m : length l.list ≡ length a.list.now = k.walked.list in
    let o = c.room.ensures c.loop-top-test.true in
    let v = c.split-f in
    let f = fits a.table.now a.n a.end c.requires.sized k o.1 v.result.position v.result.rest v.ensures.position v.ensures.whole in
    omega (arith, f.low, c.requires.sized.small)

pub loop-top-preserved : goal.loop-top-preserved
loop-top-preserved c =
    let l = c.loop-top in
    let a = c.args in
    let k = l.invariant.1 in
    let m : length l.list ≡ length a.list.now = k.walked.list in
    let o = c.room.ensures c.loop-top-test.true in
    let v = c.split-f in
    let f = fits a.table.now a.n a.end c.requires.sized k o.1 v.result.position v.result.rest v.ensures.position v.ensures.whole in
    (l.invariant.0, kept_more a.table.now a.n a.end c.requires.sized k o.1 o.0 (omega (arith, o, l.invariant.0, m)) _ f.first f.three f.low _ _ _ c.block27-t.ensures.state)

pub returns : goal.returns
returns c =
    let l = c.loop-top in
    let a = c.args in
    let k : length a.r.walker.slots ≡ 20 = c.well_formed.1.1.1.0.1.1.0.1.1.1.1.0.1.0.1 in
    let d = kept_done a.table.now a.n a.end c.requires.sized a.r c.closed.result k c.opened-x.ensures l.invariant.1 (c.closed.ensures l.list) in
    record { state = d.state; sane = d.sane; less = (d.from, d.most) }

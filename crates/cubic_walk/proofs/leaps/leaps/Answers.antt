-- `cubic_walk::leaps::leaps` meets its contract: each turn is 27 places of the search.
use mathlib.Core.Path.{◌≡◌, refl, ap}
use Prim.Native.Nat.{ℕ}
use native.Mathlib.Omega.{arith}
use lib.ListN.{length}
use borrow.Author.Rules.{rules}
use Rattle.cubic_walk.specs.Run.{state_of, search_of}
use Rattle.cubic_walk.proofs.LeapsLaw.{kept_none, first, seconds, kept_more, kept_done}
use Rattle.cubic_walk.proofs.leaps.leaps.Goals as goal

pub returns-then-not-ready : goal.returns-then-not-ready
returns-then-not-ready c =
    let a = c.args in
    record { state = ap (λ (j : ℕ). search_of a.table.now a.n a.end j (state_of a.r a.list.now)) (omega arith); sane = c.requires.sane_2; less = (omega arith, omega arith) }

pub keys-k-requires : goal.keys-k-requires
keys-k-requires c =
    let y = c.ready.ensures (search rules) in
    (y.0, c.requires.sized.small)

pub all_keys-all-requires : goal.all_keys-all-requires
all_keys-all-requires c = c.requires.sized.small

pub loop-k-init : goal.loop-k-init
loop-k-init c =
    let a = c.args in
    let y = c.ready.ensures (search rules) in
    let k : length a.r.walker.slots ≡ 20 = c.well_formed.1.1.1.0.1.1.0.1.1.1.1.0.1.0.1 in
    (refl, c.keys-k.ensures, c.all_keys-all.ensures, rw c.opened-x.ensures (kept_none a.table.now a.n a.end c.requires.sized a.budget a.r a.list.now k c.requires.sane_2 y.1 y.2))

pub overflow_add-b : goal.overflow_add-b
overflow_add-b c =
    let l = c.loop-k in
    let a = c.args in
    let k = l.invariant.3 in
    let m : length l.list ≡ length a.list.now = k.walked.list in
    let o = c.room.ensures c.loop-k-test.true in
    let v = c.split-f in
    let f = first a.table.now a.n a.end c.requires.sized k o.1 v.result.position v.result.rest v.ensures.position v.ensures.whole v.ensures.above in
    omega (arith, f.low, c.requires.sized.small)

pub overflow_add-c : goal.overflow_add-c
overflow_add-c c =
    let l = c.loop-k in
    let a = c.args in
    let k = l.invariant.3 in
    let m : length l.list ≡ length a.list.now = k.walked.list in
    let o = c.room.ensures c.loop-k-test.true in
    let v = c.split-f in
    let f = first a.table.now a.n a.end c.requires.sized k o.1 v.result.position v.result.rest v.ensures.position v.ensures.whole v.ensures.above in
    let g = c.split-g in
    let h = seconds a.n l.x _ v.result.rest g.result.position g.result.rest f (omega arith) g.ensures.position g.ensures.whole g.ensures.above in
    omega (arith, h.low, c.requires.sized.small)

pub offset_bounds-slots-b : goal.offset_bounds-slots-b
offset_bounds-slots-b c =
    let l = c.loop-k in
    let a = c.args in
    let k = l.invariant.3 in
    let m : length l.list ≡ length a.list.now = k.walked.list in
    let o = c.room.ensures c.loop-k-test.true in
    let v = c.split-f in
    let f = first a.table.now a.n a.end c.requires.sized k o.1 v.result.position v.result.rest v.ensures.position v.ensures.whole v.ensures.above in
    omega (arith, f.low, c.requires.sized.small)

pub bounds-slots-b : goal.bounds-slots-b
bounds-slots-b c =
    let l = c.loop-k in
    let a = c.args in
    let k = l.invariant.3 in
    let m : length l.list ≡ length a.list.now = k.walked.list in
    let o = c.room.ensures c.loop-k-test.true in
    let v = c.split-f in
    let f = first a.table.now a.n a.end c.requires.sized k o.1 v.result.position v.result.rest v.ensures.position v.ensures.whole v.ensures.above in
    omega (arith, f.low, c.requires.sized.small)

pub offset_bounds-all-b : goal.offset_bounds-all-b
offset_bounds-all-b c =
    let l = c.loop-k in
    let a = c.args in
    let k = l.invariant.3 in
    let m : length l.list ≡ length a.list.now = k.walked.list in
    let o = c.room.ensures c.loop-k-test.true in
    let v = c.split-f in
    let f = first a.table.now a.n a.end c.requires.sized k o.1 v.result.position v.result.rest v.ensures.position v.ensures.whole v.ensures.above in
    omega (arith, f.low, c.requires.sized.small)

pub bounds-all-b : goal.bounds-all-b
bounds-all-b c =
    let l = c.loop-k in
    let a = c.args in
    let k = l.invariant.3 in
    let m : length l.list ≡ length a.list.now = k.walked.list in
    let o = c.room.ensures c.loop-k-test.true in
    let v = c.split-f in
    let f = first a.table.now a.n a.end c.requires.sized k o.1 v.result.position v.result.rest v.ensures.position v.ensures.whole v.ensures.above in
    omega (arith, f.low, c.requires.sized.small)

pub block27-t-requires : goal.block27-t-requires
block27-t-requires c =
    let l = c.loop-k in
    let a = c.args in
    let k = l.invariant.3 in
    let m : length l.list ≡ length a.list.now = k.walked.list in
    let o = c.room.ensures c.loop-k-test.true in
    let v = c.split-f in
    let f = first a.table.now a.n a.end c.requires.sized k o.1 v.result.position v.result.rest v.ensures.position v.ensures.whole v.ensures.above in
    let g = c.split-g in
    let h = seconds a.n l.x _ v.result.rest g.result.position g.result.rest f (omega arith) g.ensures.position g.ensures.whole g.ensures.above in
    let z = c.requires.sized in record { sized = record { some = z.some; small = z.small; table = z.table; end = omega arith }; k_value = (l.invariant.1, l.invariant.2 _ f.low); place_nonzero = (k.above, k.aligned, f.end, h.positions); le_b = (f.three, omega arith, h.low, h.rest); found_in_bounds = (omega (arith, o, l.invariant.0, m), f.count) }

pub offset_bounds-slots-b-in-loop-k : goal.offset_bounds-slots-b-in-loop-k
offset_bounds-slots-b-in-loop-k c =
    let l = c.loop-k in
    let a = c.args in
    let k = l.invariant.3 in
    let m : length l.list ≡ length a.list.now = k.walked.list in
    let o = c.room.ensures c.loop-k-test.true in
    let v = c.split-f in
    let f = first a.table.now a.n a.end c.requires.sized k o.1 v.result.position v.result.rest v.ensures.position v.ensures.whole v.ensures.above in
    omega (arith, f.low, c.requires.sized.small)

pub bounds-slots-b-in-loop-k : goal.bounds-slots-b-in-loop-k
bounds-slots-b-in-loop-k c =
    let l = c.loop-k in
    let a = c.args in
    let k = l.invariant.3 in
    let m : length l.list ≡ length a.list.now = k.walked.list in
    let o = c.room.ensures c.loop-k-test.true in
    let v = c.split-f in
    let f = first a.table.now a.n a.end c.requires.sized k o.1 v.result.position v.result.rest v.ensures.position v.ensures.whole v.ensures.above in
    omega (arith, f.low, c.requires.sized.small)

pub loop-k-preserved : goal.loop-k-preserved
loop-k-preserved c =
    let l = c.loop-k in
    let a = c.args in
    let k = l.invariant.3 in
    let m : length l.list ≡ length a.list.now = k.walked.list in
    let o = c.room.ensures c.loop-k-test.true in
    let v = c.split-f in
    let f = first a.table.now a.n a.end c.requires.sized k o.1 v.result.position v.result.rest v.ensures.position v.ensures.whole v.ensures.above in
    (l.invariant.0, l.invariant.1, l.invariant.2, kept_more a.table.now a.n a.end c.requires.sized k o.1 o.0 (omega (arith, o, l.invariant.0, m)) _ f.three _ _ _ _ c.block27-t.ensures.state)

pub returns : goal.returns
returns c =
    let l = c.loop-k in
    let a = c.args in
    let k : length a.r.walker.slots ≡ 20 = c.well_formed.1.1.1.0.1.1.0.1.1.1.1.0.1.0.1 in
    let d = kept_done a.table.now a.n a.end c.requires.sized a.r c.closed.result k c.opened-x.ensures l.invariant.3 (c.closed.ensures l.list) in
    record { state = d.state; sane = d.sane; less = (d.from, d.most) }

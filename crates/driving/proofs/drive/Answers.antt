-- `driving::drive` keeps its contract and ends: the bytes are counted before each call, and each call but the last examines points.
use mathlib.Core.Path.{refl, sym, ◌∙◌}
use Prim.Native.Nat.{◌≤◌}
use lib.Seq.{length-take-le}
use native.Mathlib.Omega.{arith}
use Rattle.planner.proofs.DriveLaw.{falls}
use Rattle.driving.proofs.CountLaw.{counted_first, sum_fits, short, counted_next, all_taken, totals_told}
use Rattle.driving.proofs.drive.Goals as goal

pub loop-s-init : goal.loop-s-init
loop-s-init c =
    (counted_first c.args.table.now c.args.begun c.args.first c.requires.0 c.requires.4 c.requires.5, refl, refl, c.requires.1, c.requires.2, c.requires.3)

pub next-s-requires : goal.next-s-requires
next-s-requires c =
    let l = c.loop-s in
    (l.invariant.0.standing, c.loop-s-test.true, omega arith, omega (arith, l.invariant.3), omega (arith, l.invariant.4))

pub slice_bounds-send-end-in-loop-s : goal.slice_bounds-send-end-in-loop-s
slice_bounds-send-end-in-loop-s c = sym (length-take-le c.next-s.result.used c.next-s.new.text c.next-s.ensures.0.used)

pub overflow_add-sent : goal.overflow_add-sent
overflow_add-sent c =
    let a = c.args in
    let l = c.loop-s in
    let k = c.next-s in
    let b = k.new.text in
    let most : c.send-got.result ≤ k.result.used = omega (arith, c.send-got.ensures, length-take-le k.result.used b k.ensures.0.used) in
    record { fits = omega (arith, most, sum_fits a.table.now a.begun a.first l.s l.sent l.invariant.0 b k.result c.loop-s-test.true k.ensures.0 (omega (arith, k.auto.text, l.invariant.5))) }

pub returns-then-got-used : goal.returns-then-got-used
returns-then-got-used c =
    let a = c.args in
    let l = c.loop-s in
    let k = c.next-s in
    let b = k.new.text in
    record { all = short a.table.now a.begun a.first l.s l.sent l.invariant.0 b k.result c.loop-s-test.true k.ensures.0 (omega (arith, k.auto.text, l.invariant.5)) c.send-got.result c.if-got-used.true; totals = λ w e. cc }

pub loop-s-smaller : goal.loop-s-smaller
loop-s-smaller c = falls c.args.table.now c.loop-s.s c.next-s.new.text c.next-s.result c.loop-s-test.true c.next-s.ensures.0

pub loop-s-preserved : goal.loop-s-preserved
loop-s-preserved c =
    let a = c.args in
    let l = c.loop-s in
    let k = c.next-s in
    let b = k.new.text in
    let most : c.send-got.result ≤ k.result.used = omega (arith, c.send-got.ensures, length-take-le k.result.used b k.ensures.0.used) in (
      counted_next a.table.now a.begun a.first l.s l.sent l.invariant.0 b k.result c.loop-s-test.true k.ensures.0 (omega (arith, k.auto.text, l.invariant.5)) c.send-got.result most c.if-got-used.false k.ensures.1.over,
      k.auto.list ∙ l.invariant.1,
      k.auto.text ∙ l.invariant.2,
      omega (arith, k.auto.list, l.invariant.3),
      omega (arith, k.auto.list, k.auto.text, l.invariant.4),
      omega (arith, k.auto.text, l.invariant.5),
    )

pub returns : goal.returns
returns c =
    let a = c.args in
    let l = c.loop-s in
    record { all = all_taken a.table.now a.begun a.first l.s l.sent l.invariant.0 c.loop-s-test.false; totals = λ w e. totals_told a.table.now a.begun a.first l.s l.sent l.invariant.0 c.loop-s-test.false w e }

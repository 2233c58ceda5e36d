-- `planner::next` meets its contract.
use mathlib.Core.Path.{sym}
use Prim.Native.Nat.{◌<◌}
use native.Mathlib.Omega.{arith}
use lib.ListN.{length}
use lib.Seq.{length-take-le}
use Rattle.planner.proofs.NextLaw.{not_refused, answered, tellable, went, stepped}
use Rattle.planner.proofs.next.Goals as goal

pub slice_bounds-tell-end : goal.slice_bounds-tell-end
slice_bounds-tell-end c =
    let a = c.args in
    let k = c.search-o in
    (answered a.table.now a.s c.requires.0 a.budget a.list.now (omega (arith, c.requires.2)) (omega (arith, c.requires.3)) k.result _ k.new.list k.ensures.0 k.ensures.1 c.in-Ok.is).fits

pub slice_bounds-tell-end-in-Ok : goal.slice_bounds-tell-end-in-Ok
slice_bounds-tell-end-in-Ok c =
    let a = c.args in
    let k = c.search-o in
    let i = answered a.table.now a.s c.requires.0 a.budget a.list.now (omega (arith, c.requires.2)) (omega (arith, c.requires.3)) k.result _ k.new.list k.ensures.0 k.ensures.1 c.in-Ok.is in
    sym (length-take-le _ k.new.list i.fits)

pub tell-requires : goal.tell-requires
tell-requires c =
    let a = c.args in
    let k = c.search-o in
    let some : 0 < a.budget = omega (arith, c.requires.2) in
    let room : 0 < length a.list.now = omega (arith, c.requires.3) in
    let i = answered a.table.now a.s c.requires.0 a.budget a.list.now some room k.result _ k.new.list k.ensures.0 k.ensures.1 c.in-Ok.is in
    tellable a.table.now a.s c.requires.0 a.budget a.list.now some room _ _ k.new.list i a.text.now c.requires.4

pub returns-in-Ok : goal.returns-in-Ok
returns-in-Ok c =
    let a = c.args in
    let k = c.search-o in
    let some : 0 < a.budget = omega (arith, c.requires.2) in
    let room : 0 < length a.list.now = omega (arith, c.requires.3) in
    let i = answered a.table.now a.s c.requires.0 a.budget a.list.now some room k.result _ k.new.list k.ensures.0 k.ensures.1 c.in-Ok.is in
    let t = c.tell in (
      went a.table.now a.s c.requires.0 a.budget a.list.now some room _ _ k.new.list i a.text.now t.new.text t.result t.ensures c.requires.1,
      stepped a.table.now a.s c.requires.0 a.budget a.list.now some room _ _ k.new.list i a.text.now t.new.text t.result t.ensures,
    )

pub returns-in-Err : goal.returns-in-Err
returns-in-Err c =
    let a = c.args in
    let k = c.search-o in
    absurd (not_refused a.table.now a.s c.requires.0 a.budget a.list.now (omega (arith, c.requires.2)) (omega (arith, c.requires.3)) k.result _ k.ensures.0 c.in-Err.is)

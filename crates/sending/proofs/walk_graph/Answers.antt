-- `sending::walk_graph` keeps its contract.
use native.Mathlib.Omega.{arith}
use Rattle.sending.proofs.EndLaw.{none_walked, walked}
use Rattle.sending.proofs.walk_graph.Goals as goal

pub returns-in_default : goal.returns-in_default
returns-in_default c = none_walked c.args.table.now c.args.s c.args.first c.drive-d.new.text c.drive-d.result.sent

pub put_head-head-requires : goal.put_head-head-requires
put_head-head-requires c =
    let d = c.drive-d in
    omega (arith, d.auto.text, c.requires.1, c.requires.2)

pub put_totals-told-requires : goal.put_totals-told-requires
put_totals-told-requires c =
    let d = c.drive-d in
    let h = c.put_head-head in
    omega (arith, h.ensures.1, h.ensures.0.size, d.auto.text, c.requires.1, c.requires.2)

pub returns : goal.returns
returns c =
    let d = c.drive-d in
    let h = c.put_head-head in
    let p = c.put_totals-told in
    walked c.args.table.now c.args.s c.args.first d.result c.in-Some.totals d.new.text h.new.text p.new.text h.result p.result c.concluded.result d.ensures c.in-Some.is
    h.ensures.0 p.ensures.0 (omega (arith, h.ensures.1, p.ensures.1, d.auto.text, c.requires.1, c.requires.2)) c.concluded.ensures

-- `walk::run` meets its contract: single places, blocks and single places again are one search.
use Prim.Native.Nat.{◌-◌, ◌%◌}
use native.Mathlib.Nat.{min-le_left}
use native.Mathlib.Omega.{arith}
use Rattle.walk.specs.Run.{fresh, state_of}
use Rattle.moves.specs.Moves.{product}
use Rattle.walk.proofs.SearchLaw.{joined}
use Rattle.walk.proofs.run.Goals as goal

pub returns : goal.returns
returns c =
    let a = c.args in
    let f = c.lead.ensures in
    let x = c.steps-a in
    let y = c.leaps-b in
    let u = c.steps in
    let h = min-le_left a.budget (27 - a.w.place % 27) in record {
      state = joined a.n (product a.table.now a.n) a.end a.budget c.lead.result (fresh a.w a.list.now) (state_of x.result _) (state_of y.result _) _
          (omega arith) x.ensures.less.0 y.ensures.less.0 x.ensures.state y.ensures.state u.ensures.state;
      range = (omega (arith, x.ensures.less.0, y.ensures.less.0, u.ensures.less.0), u.ensures.sane.place);
    }

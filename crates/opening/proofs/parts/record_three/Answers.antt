-- `opening::parts::record_three` meets its contract.
use native.Mathlib.Omega.{arith}
use Rattle.given.specs.Told.{told_three}
use Rattle.given.proofs.TableLaw.{within, cubic_table_of}
use Rattle.opening.proofs.SlotsLaw.{power_pos}
use Rattle.opening.proofs.OpenLaw.{opened_three}
use Rattle.opening.proofs.parts.record_three.Goals as goal

pub stood_at-h-requires : goal.stood_at-h-requires
stood_at-h-requires c =
    let n = c.args.table.n in
    let w = within (told_three c.args.table) c.requires.0 in
    (w.least, w.most, omega (arith, c.latest_place-q.ensures, c.requires.1, power_pos n), (cubic_table_of n c.args.table.m c.args.table.words.now c.requires.0).size)

pub returns : goal.returns
returns c =
    let n = c.args.table.n in
    let m = c.args.table.m in
    let t = c.args.table.words.now in
    opened_three n m t c.args.place _ c.stood_at-h.result c.latest_place-q.ensures (c.stood_at-h.ensures m (cubic_table_of n m t c.requires.0))

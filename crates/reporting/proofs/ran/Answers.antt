-- `reporting::ran` meets its contract: the walk from the opened record, reported.
use mathlib.Core.Path.{◌≡◌}
use Prim.Native.Nat.{◌^◌}
use native.Mathlib.Omega.{arith}
use Rattle.given.specs.Told.{told}
use Rattle.given.proofs.TableLaw.{within}
use Rattle.reporting.proofs.RanLaw.{left_place, ran_is}
use Rattle.reporting.proofs.ran.Goals as goal

pub walked-t-requires : goal.walked-t-requires
walked-t-requires c =
    let a = c.args in
    (c.requires.0, c.requires.1, c.power-end.ensures.0 (omega (arith, (within (told a.table) c.requires.0).most)), c.requires.2)

pub reported-requires : goal.reported-requires
reported-requires c =
    let a = c.args in
    let x = c.walked-t in
    omega (arith, left_place (told a.table) a.f.place.0 a.budget a.list.now _ _ x.result x.ensures)

pub returns : goal.returns
returns c =
    let a = c.args in
    let x = c.walked-t in
    let p : c.power-end.result ≡ 3 ^ a.table.n = c.power-end.ensures.0 (omega (arith, (within (told a.table) c.requires.0).most)) in
    ran_is (told a.table) a.f.place.0 a.budget a.list.now _ _ x.result x.ensures _ _ p c.reported.ensures

-- `equations::put_edge` meets its contract.
use mathlib.Core.Path.{◌∙◌}
use Prim.Native.Nat.{◌<◌}
use native.Mathlib.Omega.{arith}
use lib.ListN.{length}
use Rattle.tables.proofs.IndexLaw.{count_is}
use Rattle.equations.proofs.WriteLaw.{joins, marked_length}
use Rattle.equations.proofs.put_edge.Goals as goal

pub mark-requires : goal.mark-requires
mark-requires c =
    let a = c.args in
    let h : 1 < length a.table.now = omega (arith, count_is a.n, c.requires) in
    h

pub returns : goal.returns
returns c =
    let a = c.args in
    let p = c.requires in
    let m1 = c.mark.ensures in
    let m2 = rw c.index.ensures.0 at c.mark-2.ensures in
    let m3 = rw c.index-2.ensures.0 at c.mark-3.ensures in
    let m4 = rw c.index-3.ensures.0 at c.mark-4.ensures in
    record {
      size = marked_length m4 ∙ marked_length m3 ∙ marked_length m2 ∙ marked_length m1;
      words = joins a.n a.a a.b a.e p.1 p.2 p.3 _ _ _ _ _ m1 m2 m3 m4;
    }

-- `listed::nonzero_into` meets its contract. The invariant: the unknowns before k are listed.
use mathlib.Core.Path.{refl}
use native.Mathlib.Nat.{mod-lt}
use native.Mathlib.Omega.{arith}
use Rattle.listed.proofs.ListLaw.{listed_next}
use Rattle.listed.proofs.nonzero_into.Goals as goal

pub loop-k-preserved : goal.loop-k-preserved
loop-k-preserved c =
    let l = c.loop-k in
    let i = l.invariant in
    (omega arith, listed_next l.k _ l.at l.turn l.count i.1 (omega arith) (omega arith) _ _ refl (mod-lt _ (omega arith)) refl)

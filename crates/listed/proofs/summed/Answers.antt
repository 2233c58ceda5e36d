-- `listed::summed` meets its contract. The invariant: what belongs to the listed unknowns before number t is summed.
use mathlib.Core.Path.{◌≡◌, ap, ◌∙◌}
use Prim.Native.Nat.{ℕ}
use native.Mathlib.Omega.{arith}
use lib.ListN.{get_or}
use Rattle.listed.proofs.ListLaw.{listed_rise, row_more}
use Rattle.listed.proofs.summed.Goals as goal

pub loop-t-preserved : goal.loop-t-preserved
loop-t-preserved g c =
    let a = c.args in
    let l = c.loop-t in
    let b = c.loop-t-test.true in
    λ m n i x s h j o y z w.
    let p = listed_rise n x a.list.now.at a.list.now.turn a.list.now.count j a.from l.t (omega arith) b in
    row_more n x a.list.now.at a.list.now.turn a.list.now.count j l.t b i (omega arith) m s h l.v c.turned.result c.add-v.result (l.invariant m n i x s h j o y z w)
    (c.turned.ensures m (x (get_or a.list.now.at l.t 0)) _ (j.digit l.t b).0 (j.digit l.t b).1 (j.mask l.t b) (w l.t c.term.result (omega arith) b c.term.ensures)) c.add-v.ensures

pub returns : goal.returns
returns g c =
    let a = c.args in
    let l = c.loop-t in
    let e : l.t ≡ a.list.now.count = omega (arith, c.loop-t-test.false) in
    λ m n i x s h j o y z w.
    let k : get_or a.list.now.at l.t 0 ≡ n = ap (λ (k : ℕ). get_or a.list.now.at k 0) e ∙ j.last in
    rw k at (l.invariant m n i x s h j o y z w)

-- `blocks::parts::raise_slot` meets its contract: the slot, its two additions, and the parts after them.
use mathlib.Core.Path.{◌∙◌}
use Prim.Native.Nat.{◌<◌}
use native.Mathlib.Omega.{arith}
use lib.ListN.{length}
use Rattle.blocks.specs.Parts.{whole}
use Rattle.blocks.proofs.PartLaw.{headed_bump}
use Rattle.blocks.proofs.parts.raise_slot.Goals as goal

pub returns : goal.returns
returns c =
    let a = c.args in
    let g = c.slot.ensures in
    let m = c.raise-m.ensures in
    let r = c.after.ensures in record {
      state = (λ rest l.
          let long : a.b < length (whole a.x rest l).slots = omega (arith, c.requires) in
          r.state rest l ∙ headed_bump a.b a.t _ (whole a.x rest l) _ long (g rest l) m.0 m.1 m.2);
      went = record { place = omega (arith, r.counts); found = omega (arith, r.counts); additions = omega (arith, r.counts, m.2) };
    }

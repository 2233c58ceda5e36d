-- `cubic_blocks::parts::raise_slot` meets its contract: the slot, three additions, and the parts after them.
use mathlib.Core.Path.{ap, ◌∙◌}
use native.Mathlib.Omega.{arith}
use Rattle.trits.specs.declared.Vector.{Vector}
use Rattle.trits.specs.Words.{add_of}
use Rattle.cubic_blocks.specs.Parts.{whole}
use Rattle.cubic_blocks.proofs.PartLaw.{beside, headed_bump}
use Rattle.cubic_blocks.proofs.parts.raise_slot.Goals as goal

pub returns : goal.returns
returns c =
    let a = c.args in
    let g = c.slot.ensures in
    let u = c.raised-u in
    let m = c.raise-m.ensures in
    let r = c.after.ensures in record {
      state = (λ rest l.
          ap (beside _) (r.state rest l)
          ∙ headed_bump a.b a.k a.t u.result.vector u.result.additions (whole a.x rest a.seconds.now l) _ c.raise-m.result u.ensures.sum.0 u.ensures.sum.1 u.ensures.seconds
          (m.0 ∙ ap (λ (v : Vector). add_of v u.result.vector) (g rest l))
          (m.1 ∙ ap (λ (v : Vector). add_of a.x.value (add_of v u.result.vector)) (g rest l))
          m.2);
      went = record { place = omega (arith, r.counts); found = omega (arith, r.counts); additions = omega (arith, r.counts, m.2, u.ensures.sum.1) };
    }

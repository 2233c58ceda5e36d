-- `cubic_blocks::parts::step0` meets its contract: its move, then its note.
use mathlib.Core.Path.{ap, ◌∙◌}
use native.Mathlib.Omega.{arith}
use Rattle.trits.specs.declared.Vector.{Vector}
use Rattle.cubic_moves.specs.Step.{jot_of, bump}
use Rattle.blocks.specs.Parts as flat
use Rattle.cubic_blocks.specs.Parts.{whole}
use Rattle.cubic_blocks.proofs.PartLaw.{beside, beside_note}
use Rattle.cubic_blocks.proofs.parts.step0.Goals as goal

pub returns : goal.returns
returns c =
    let n = c.note.ensures in
    let m = c.raise_slot-m.ensures in
    let a = c.args in record {
      state = (λ rest.
          ap (beside _) (n.state rest) ∙ beside_note (λ p. p) _ (flat.whole c.raise_slot-m.result rest a.list.now) ∙ ap jot_of (m.state rest a.list.now)
          ∙ ap (λ (t : Vector). jot_of (bump 0 a.k t (whole a.x rest a.seconds.now a.list.now))) c.vector-t.ensures);
      went = record { place = omega (arith, n.went, m.went); found = omega (arith, n.went, m.went); additions = omega (arith, n.went, m.went) };
    }

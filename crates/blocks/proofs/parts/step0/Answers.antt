-- `blocks::parts::step0` meets its contract: its move, then its note.
use mathlib.Core.Path.{ap, ◌∙◌}
use native.Mathlib.Omega.{arith}
use Rattle.blocks.specs.Parts.{jot_of}
use Rattle.blocks.proofs.parts.step0.Goals as goal

pub returns : goal.returns
returns c =
    let n = c.note.ensures in
    let m = c.raise_slot-m.ensures in
    let a = c.args in record { state = (λ rest. n.state rest ∙ ap jot_of (m.state rest a.list.now)); went = record { place = omega (arith, n.went, m.went); found = omega (arith, n.went, m.went); additions = omega (arith, n.went, m.went) } }

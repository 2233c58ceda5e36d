-- `blocks::parts::note` meets its contract.
use native.Mathlib.Omega.{arith}
use Rattle.moves.specs.Step.{note_by}
use Rattle.blocks.proofs.parts.note.Goals as goal

pub returns : goal.returns
unfolding note_by
returns c =
    let m = c.jot-found.ensures in
    record { state = (λ rest. rw (m.count, m.list)); went = record { place = omega (arith, m.bound); found = omega (arith, m.bound); additions = omega (arith, m.bound) } }

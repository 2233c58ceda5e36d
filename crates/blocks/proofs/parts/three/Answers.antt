-- `blocks::parts::three` meets its contract: three notes with two moves between.
use mathlib.Core.Path.{ap, ◌∙◌}
use native.Mathlib.Omega.{arith}
use Rattle.moves.specs.Step.{State, bump}
use Rattle.blocks.specs.Parts.{jot_of, three_of}
use Rattle.blocks.proofs.parts.three.Goals as goal

pub returns : goal.returns
unfolding three_of
returns c =
    let p = c.step0.ensures in
    let q = c.step0-b.ensures in
    let n = c.note-a.ensures in
    let a = c.args in record {
      state = (λ rest.
          p.state rest ∙ ap (λ (s : State). jot_of (bump 0 a.t00 s))
          (q.state rest ∙ ap (λ (s : State). jot_of (bump 0 a.th s)) (n.state rest)));
      went = record { place = omega (arith, p.went, q.went, n.went); found = omega (arith, p.went, q.went, n.went); additions = omega (arith, p.went, q.went, n.went) };
    }

-- `cubic_blocks::parts::three` meets its contract: three notes with two moves between.
use mathlib.Core.Path.{ap, ◌∙◌}
use Prim.Native.Nat.{◌+◌}
use native.Mathlib.Omega.{arith}
use Rattle.tables.specs.Words.{entry}
use Rattle.cubic_moves.specs.Step.{State, jot_of, bump}
use Rattle.blocks.specs.Parts as flat
use Rattle.cubic_blocks.specs.Parts.{three_of}
use Rattle.cubic_blocks.proofs.PartLaw.{beside, beside_note}
use Rattle.cubic_blocks.proofs.parts.three.Goals as goal

pub returns : goal.returns
unfolding three_of
returns c =
    let p = c.step0.ensures in
    let q = c.step0-b.ensures in
    let n = c.note-a.ensures in
    let a = c.args in
    let E = entry a.table.now in record {
      state = (λ rest.
          p.state rest ∙ ap (λ (s : State). jot_of (bump 0 0 (E (a.k0 + a.c)) s))
          (q.state rest ∙ ap (λ (s : State). jot_of (bump 0 a.c (E (a.k0 + a.p)) s)) (ap (beside a.seconds.now) (n.state rest) ∙ beside_note (λ p. p) a.seconds.now (flat.whole a.x rest a.list.now))));
      went = record { place = omega (arith, p.went, q.went, n.went); found = omega (arith, p.went, q.went, n.went); additions = omega (arith, p.went, q.went, n.went) };
    }

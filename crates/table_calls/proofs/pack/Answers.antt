-- `table_calls::pack` meets its contract: the number of the verdict, and the words that the operation left.
use mathlib.Core.Path.{ap, ◌∙◌}
use Rattle.refusals.specs.Refusal.{code_of}
use Rattle.given.specs.declared.Degree.{Degree}
use Rattle.operations.specs.Operations.{packing, packed_into}
use Rattle.table_calls.proofs.pack.Goals as goal

pub returns : goal.returns
returns c =
    let a = c.args in
    let x = c.pack-packed.ensures in
    let z = c.degree_of-degree.ensures in (
      c.code.ensures ∙ ap code_of (x.answer ∙ ap (λ (d : Degree). packing d a.n a.m a.rows.now a.table.now) z),
      x.left ∙ ap (λ (d : Degree). packed_into d a.n a.m a.rows.now a.table.now) z,
    )

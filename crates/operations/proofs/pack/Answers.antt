-- `operations::pack` meets its contract: by the degree.
use mathlib.Core.Path.{sym, ap, ◌∙◌}
use Rattle.refusals.specs.Refusal.{code_of}
use Rattle.given.specs.declared.Degree.{Degree}
use Rattle.tables.specs.Words.{packed}
use Rattle.operations.specs.Operations.{packing, packed_into}
use Rattle.operations.proofs.pack.Goals as goal

pub returns-in-Two : goal.returns-in-Two
unfolding packed
returns-in-Two c =
    let a = c.args in
    let z = c.in-Two.is in
    let x = c.pack.ensures in
    let e = x.answer ∙ sym (ap (λ (d : Degree). packing d a.n a.m a.rows.now a.table.now) z) in
    record { answer = e; left = x.left ∙ sym (ap (λ (d : Degree). packed_into d a.n a.m a.rows.now a.table.now) z); number = ap code_of e }

pub returns-in-Three : goal.returns-in-Three
returns-in-Three c =
    let a = c.args in
    let z = c.in-Three.is in
    let x = c.pack-in-Three.ensures in
    let e = x.answer ∙ sym (ap (λ (d : Degree). packing d a.n a.m a.rows.now a.table.now) z) in
    record { answer = e; left = x.left ∙ sym (ap (λ (d : Degree). packed_into d a.n a.m a.rows.now a.table.now) z); number = ap code_of e }

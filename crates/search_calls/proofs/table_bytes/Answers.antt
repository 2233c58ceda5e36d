-- `search_calls::table_bytes` meets its contract: by the degree.
use mathlib.Core.Path.{sym, ap, ◌∙◌}
use Prim.Native.Nat.{ℕ, ◌*◌}
use native.Mathlib.Omega.{arith}
use Rattle.given.specs.declared.Degree.{Degree}
use Rattle.given.specs.Given.{count_in}
use Rattle.search_calls.proofs.table_bytes.Goals as goal

pub returns-in-Two : goal.returns-in-Two
returns-in-Two c =
    let a = c.args in
    let d = sym c.degree_of-degree.ensures ∙ c.in-Two.is in
    omega (arith, c.words.ensures.0) ∙ sym (ap (λ (x : Degree). 16 * count_in x a.n) d)

pub returns-in-Three : goal.returns-in-Three
returns-in-Three c =
    let a = c.args in
    let d = sym c.degree_of-degree.ensures ∙ c.in-Three.is in
    ap (λ (x : ℕ). 16 * x) c.count.ensures.0 ∙ sym (ap (λ (x : Degree). 16 * count_in x a.n) d)

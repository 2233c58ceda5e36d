-- `cubic_evaluation::value_at` meets its contract: the unknowns that are not 0, and the value at them.
use native.Mathlib.Omega.{arith}
use lib.ListN.{get_or}
use Rattle.listed.proofs.ListLaw.{rising}
use Rattle.cubic_tables.specs.Words.{cubic_at}
use Rattle.cubic_planes.proofs.ValueLaw.{value_mod}
use Rattle.cubic_evaluation.proofs.value_at.Goals as goal

pub value_of-requires : goal.value_of-requires
value_of-requires c =
    let a = c.args in let q = c.requires in
    let k = c.nonzero_into in
    (q.0, omega (arith, k.ensures.1, q.0), q.1, rising a.n _ _ _ _ k.ensures.0)

pub returns : goal.returns
returns c =
    let a = c.args in
    λ m w. value_mod a.n m (cubic_at a.n a.table.now) (λ k. get_or a.x.now k 0) _ (c.value_of.ensures m _ w c.nonzero_into.ensures.0)

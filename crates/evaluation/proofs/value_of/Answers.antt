-- `evaluation::value_of` meets its contract: the terms are the rows of the listed unknowns.
use Rattle.std.proofs.Common.{rules}
use native.Mathlib.Omega.{arith}
use lib.ListN.{get_or}
use Rattle.tables.specs.Words.{Table, poly_at}
use Rattle.tables.proofs.IndexLaw.{count_is}
use Rattle.listed.proofs.ListLaw.{first_begun, list_holds, list_holds_same}
use Rattle.evaluation.specs.Parts.{row_of}
use Rattle.evaluation.proofs.EvaluateLaw.{const_holds, whole_sum}
use Rattle.evaluation.proofs.value_of.Goals as goal

pub vector-requires : goal.vector-requires
vector-requires c = let a = c.args in let q = c.requires in omega (arith, count_is a.n, q.2)

pub returns : goal.returns
returns c =
    let a = c.args in
    λ m x w g.
    whole_sum m a.n (poly_at a.n a.table.now) x _
    (c.summed.ensures m a.n 0 x (λ e. (poly_at a.n a.table.now e).const) (λ e k. row_of (poly_at a.n a.table.now e) a.n k x) g (omega arith)
    (rw c.vector.ensures (const_holds a.n m a.table.now w))
    (λ e. first_begun a.n x a.list.now.at a.list.now.turn a.list.now.count g (λ k. row_of (poly_at a.n a.table.now e) a.n k x))
    (λ t v p q r. list_holds a.n a.list.now (λ m. Table a.n m a.table.now) (λ x e. row_of (poly_at a.n a.table.now e) a.n (get_or a.list.now.at t 0) x) v (search (rules, list_holds_same)) m x w g))

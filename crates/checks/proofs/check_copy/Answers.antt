-- `checks::check_copy` meets its contract: the sizes, and then what its entries say.
use mathlib.Core.Path.{sym, ap, ◌∙◌}
use Prim.Native.Nat.{ℕ}
use borrow.Author.Tests.{not-true, not-false}
use Rattle.tables.specs.Answers.{entries_verdict}
use Rattle.refusals.proofs.RefusalLaw.{said_no, sized_not, sized_next}
use Rattle.checks.proofs.check_copy.Goals as goal

pub returns-then-not-sizes_fit : goal.returns-then-not-sizes_fit
returns-then-not-sizes_fit g c = λ to e. sym (sized_not _ _ _ (said_no _ c.sizes_fit.ensures (not-true _ c.if-not-sizes_fit.true-raw)))

pub count-requires : goal.count-requires
count-requires g c = let w = c.sizes_fit.ensures.0 (not-false _ c.if-not-sizes_fit.false-raw) in (w.least, w.most)

pub returns : goal.returns
returns g c = λ to e.
    let a = c.args in
    c.check_entries.ensures to e ∙ ap (λ (N : ℕ). entries_verdict N a.m a.from.now to) c.count.ensures.0 ∙ sym (sized_next a.n a.m _ (c.sizes_fit.ensures.0 (not-false _ c.if-not-sizes_fit.false-raw)))

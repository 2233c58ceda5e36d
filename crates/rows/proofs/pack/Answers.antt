-- `rows::pack` meets its contract: the sizes, and then what its entries say.
use mathlib.Core.Path.{sym, ap}
use native.Mathlib.Omega.{arith}
use borrow.Author.Tests.{not-true, not-false}
use Rattle.refusals.specs.Refusal.{Verdict}
use Rattle.refusals.specs.Refusal.{code_of, after}
use Rattle.refusals.proofs.RefusalLaw.{said_no, sized_not}
use Rattle.tables.specs.Words.{packed_rows}
use Rattle.rows.proofs.AnswerLaw.{entries_is}
use Rattle.rows.proofs.pack.Goals as goal

pub returns-then-not-sizes_fit : goal.returns-then-not-sizes_fit
returns-then-not-sizes_fit g c =
    let a = c.args in
    let e = sized_not a.n a.m _ (said_no _ c.sizes_fit.ensures (not-true _ c.if-not-sizes_fit.true-raw)) in
    record { answer = sym e; left = sym (ap (λ (v : Verdict). after v a.table.now (packed_rows (g.D.Monomials.many a.n) a.m a.rows.now)) e); number = ap code_of (sym e) }

pub count-requires : goal.count-requires
count-requires g c = let w = c.sizes_fit.ensures.0 (not-false _ c.if-not-sizes_fit.false-raw) in (w.least, w.most)

pub pack_entries-requires : goal.pack_entries-requires
pack_entries-requires g c = ((c.sizes_fit.ensures.0 (not-false _ c.if-not-sizes_fit.false-raw)).wide, omega (arith, c.count.ensures.1))

pub returns : goal.returns
returns g c =
    let a = c.args in
    let p = c.pack_entries in
    let s = c.sizes_fit.ensures.0 (not-false _ c.if-not-sizes_fit.false-raw) in
    let k = entries_is (g.D.Monomials.many a.n) a.n a.m a.rows.now a.table.now _ _ _ s c.count.ensures.0 p.ensures.value p.ensures.left in
    record { answer = k.0; left = k.1; number = k.2 }

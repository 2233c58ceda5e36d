-- `cubic_value::value_after` meets its contract. The loop's invariant: all entries that begin with an unknown below b are added, y is what is left of the
-- place over 3 to the b, and the listed unknowns from `from` on are those past b.
use mathlib.Core.Path.{◌≡◌, sym, ap, ◌∙◌, subst}
use Prim.Native.Nat.{ℕ, ◌+◌, ◌/◌}
use native.Mathlib.Nat.{pow-zero, div-one}
use native.Mathlib.Omega.{arith}
use Rattle.trits.specs.Trit.{Holds}
use Rattle.tables.proofs.IndexLaw.{count_is}
use Rattle.cubic_tables.specs.Words.{cubic_at}
use Rattle.cubic_tables.proofs.OrderLaw.{cubic_count_low}
use Rattle.weights.specs.Parts.{Ready}
use Rattle.cubic_value.specs.Parts.{value_to}
use Rattle.seconds.proofs.CountedLaw.{part_next}
use Rattle.weights.proofs.RowLaw.{ready_first, ready_skip}
use Rattle.cubic_value.proofs.SumLaw.{value_first, value_more, value_whole}
use Rattle.cubic_value.proofs.value_after.Goals as goal

pub vector-v-requires : goal.vector-v-requires
vector-v-requires c = omega (arith, cubic_count_low c.args.n, count_is c.args.n)

pub loop-b-init : goal.loop-b-init
loop-b-init c =
    let a = c.args in
    let l = c.nonzero-list.result in
    let one = ready_first a.n 0 a.q c.digits_at-x.result l.at l.turn l.count c.digits_at-x.ensures.0 c.digits_at-x.ensures.1 c.nonzero-list.ensures.0 in
    (sym (ap (λ (w : ℕ). a.q / w) (pow-zero 3) ∙ div-one a.q), omega arith, one, λ m w. value_first a.n m a.table.now a.q w c.vector-v.ensures)

pub part-p-requires : goal.part-p-requires
part-p-requires c =
    let a = c.args in
    let p = c.requires in
    let o = c.loop-b in
    let l = c.nonzero-list.result in
    let more : Ready a.n 0 a.q l.at l.turn l.count (o.b + 2) c.skip-from.result
    = let e : o.b + 1 + 1 ≡ o.b + 2 = omega arith in subst (λ (k : ℕ). Ready a.n 0 a.q l.at l.turn l.count k c.skip-from.result) e
    (ready_skip a.n 0 a.q l.at l.turn l.count (o.b + 1) o.from c.skip-from.result c.skip-from.ensures.0 o.invariant.2) in
    (p.1, omega arith, p.3, o.invariant.0, omega arith, more)

pub loop-b-preserved : goal.loop-b-preserved
loop-b-preserved c =
    let a = c.args in
    let p = c.requires in
    let o = c.loop-b in
    let l = c.nonzero-list.result in
    let more : Ready a.n 0 a.q l.at l.turn l.count (o.b + 2) c.skip-from.result
    = let e : o.b + 1 + 1 ≡ o.b + 2 = omega arith in subst (λ (k : ℕ). Ready a.n 0 a.q l.at l.turn l.count k c.skip-from.result) e
    (ready_skip a.n 0 a.q l.at l.turn l.count (o.b + 1) o.from c.skip-from.result c.skip-from.ensures.0 o.invariant.2) in
    let i : o.b + 2 ≡ o.b + 1 + 1 = omega arith in (
      ap (λ (y : ℕ). y / 3) o.invariant.0 ∙ part_next a.q o.b,
      c.skip-from.ensures.1,
      subst (λ (k : ℕ). Ready a.n 0 a.q l.at l.turn l.count k c.skip-from.result) i more,
      λ m w. value_more a.n m a.table.now a.q o.b c.add-v.ensures (o.invariant.3 m w) (c.part-p.ensures m w),
    )

pub returns : goal.returns
returns c =
    let a = c.args in
    let p = c.requires in
    let o = c.loop-b in
    let i : o.b ≡ a.n = omega (arith, o.auto.b-end, c.requires.1, c.loop-b-test.false) in
    λ m w. value_whole a.n m a.table.now a.q p.2 (subst (λ (k : ℕ). Holds m (λ e. value_to (cubic_at a.n a.table.now e) a.n a.q k) o.v) i (o.invariant.3 m w))

-- `cubic_value::later` meets its contract. The loop's invariant: the rows of b and the unknowns below c are added, z is what is left of the place over 3 to
-- the c, and the listed unknowns from f on are those past c.
use mathlib.Core.Path.{◌≡◌, ap, ap₂, ◌∙◌, subst}
use mathlib.Core.List.{[], ◌∷◌}
use Prim.Native.Nat.{ℕ, ◌+◌, ◌-◌, ◌/◌}
use native.Mathlib.Omega.{arith}
use Rattle.residues.specs.Sums.{sum}
use Rattle.trits.specs.Trit.{Holds}
use Rattle.held.specs.Visits.{gathered, visits}
use Rattle.tables.proofs.IndexLaw.{count_is}
use Rattle.cubic_tables.specs.Words.{cubic_at}
use Rattle.cubic_tables.proofs.OrderLaw.{cubic_count_low}
use Rattle.weights.specs.Parts.{Ready}
use Rattle.cubic_value.specs.Parts.{later_to}
use Rattle.seconds.proofs.CountedLaw.{pair_low, part_next}
use Rattle.weights.proofs.RowLaw.{ready_skip, ready_late}
use Rattle.shares.proofs.ShareLaw.{weighs_later}
use Rattle.cubic_value.proofs.SumLaw.{later_first, later_more}
use Rattle.cubic_value.proofs.later.Goals as goal

pub vector-v-requires : goal.vector-v-requires
vector-v-requires c = omega (arith, cubic_count_low c.args.n, count_is c.args.n)

pub loop-c-init : goal.loop-c-init
loop-c-init c =
    let a = c.args in
    let p = c.requires in
    let i : a.b + 3 ≡ a.b + 2 + 1 = omega arith in (
      p.3,
      p.5.skips.some,
      subst (λ (k : ℕ). Ready a.n 0 a.q a.list.now.at a.list.now.turn a.list.now.count k a.from) i p.5,
      λ m w. later_first a.n m a.table.now a.b (a.b + 2) a.q w (omega arith) (ap (λ (y : ℕ). y) (let e : a.b + 2 ≡ a.b + 2 = omega arith in e)) c.vector-v.ensures,
    )

pub overflow_sub-base : goal.overflow_sub-base
overflow_sub-base c = omega (arith, pair_low c.args.n c.loop-c.c)

pub weighed-r-requires : goal.weighed-r-requires
weighed-r-requires c =
    let a = c.args in
    let p = c.requires in
    let o = c.loop-c in
    let more : Ready a.n 0 a.q a.list.now.at a.list.now.turn a.list.now.count (o.c + 2) c.skip-f.result
    = let e : o.c + 1 + 1 ≡ o.c + 2 = omega arith in subst (λ (k : ℕ). Ready a.n 0 a.q a.list.now.at a.list.now.turn a.list.now.count k c.skip-f.result) e
    (ready_skip a.n 0 a.q a.list.now.at a.list.now.turn a.list.now.count (o.c + 1) o.f c.skip-f.result c.skip-f.ensures.0 o.invariant.2) in record { n_le_most_unknowns = (p.0, omega arith, omega arith, ap₂ (λ (x y : ℕ). x + (y - o.c)) c.key-kb.ensures.0 c.pair.ensures.0, omega arith, p.2, c.skip-f.ensures.1, p.4); by_index = ready_late a.n 0 a.q a.list.now.at a.list.now.turn a.list.now.count (o.c + 2) c.skip-f.result more }

pub loop-c-preserved : goal.loop-c-preserved
loop-c-preserved c =
    let a = c.args in
    let p = c.requires in
    let o = c.loop-c in
    let more : Ready a.n 0 a.q a.list.now.at a.list.now.turn a.list.now.count (o.c + 2) c.skip-f.result
    = let e : o.c + 1 + 1 ≡ o.c + 2 = omega arith in subst (λ (k : ℕ). Ready a.n 0 a.q a.list.now.at a.list.now.turn a.list.now.count k c.skip-f.result) e
    (ready_skip a.n 0 a.q a.list.now.at a.list.now.turn a.list.now.count (o.c + 1) o.f c.skip-f.result c.skip-f.ensures.0 o.invariant.2) in
    let i : o.c + 2 ≡ o.c + 1 + 1 = omega arith in
    let g = c.weigh-w.ensures in
    let ws = weighs_later a.n a.b o.c a.q o.z more.x c.weigh-w.result (omega arith) o.invariant.0 more.digits g.0 g.1 g.2 in (
      ap (λ (y : ℕ). y / 3) o.invariant.0 ∙ part_next a.q o.c,
      c.skip-f.ensures.1,
      subst (λ (k : ℕ). Ready a.n 0 a.q a.list.now.at a.list.now.turn a.list.now.count k c.skip-f.result) i more,
      λ m w. later_more a.n m a.table.now a.b o.c a.q o.auto.c c.add-v.ensures (o.invariant.3 m w)
          (c.weighed-r.ensures m (visits 3 (o.c ∷ []) a.q) (λ d. gathered 3 (o.c ∷ []) (visits 3 (o.c ∷ d ∷ [])) a.q) more.x w more.lists more.skips ws),
    )

pub returns : goal.returns
returns c =
    let a = c.args in
    let o = c.loop-c in
    let i : o.c ≡ a.n = omega (arith, o.auto.c-end, c.requires.1, c.loop-c-test.false) in
    λ m w. subst (λ (k : ℕ). Holds m (λ e. (cubic_at a.n a.table.now e).lin a.b + sum (k - (a.b + 2)) (λ j. later_to (cubic_at a.n a.table.now e) a.n a.b (a.b + 2 + j) a.q)) o.v) i (o.invariant.3 m w)

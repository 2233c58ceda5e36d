-- `cubic_slots::rows` meets its contract. The loop's invariant: the rows of b and the unknowns below c are added, y is what is left of the place over 3 to
-- the c, and the listed unknowns from `from` on are those past c.
use mathlib.Core.Path.{◌≡◌, ap, ap₂, ◌∙◌, subst}
use Prim.Native.Nat.{ℕ, ◌+◌, ◌-◌, ◌/◌, ◌<◌}
use mathlib.Core.List.{[], ◌∷◌}
use native.Mathlib.Nat.{one-le-pow}
use native.Mathlib.Omega.{arith}
use Rattle.trits.specs.Trit.{Holds}
use Rattle.held.specs.Visits.{gathered, visits}
use Rattle.cubic_tables.specs.Words.{cubic_at}
use Rattle.weights.specs.Parts.{Ready}
use Rattle.cubic_slots.specs.Parts.{slot_to}
use Rattle.seconds.proofs.CountedLaw.{pair_low, part_next}
use Rattle.weights.proofs.WeightLaw.{weighs_other}
use Rattle.weights.proofs.RowLaw.{ready_first, ready_skip, ready_late}
use Rattle.cubic_slots.proofs.SlotLaw.{slot_more}
use Rattle.cubic_slots.proofs.rows.Goals as goal

pub nonzero_div-y : goal.nonzero_div-y
nonzero_div-y c = omega (arith, one-le-pow (c.args.b + 1) 3 (omega arith))

pub loop-c-init : goal.loop-c-init
loop-c-init c =
    let a = c.args in
    let p = c.requires in
    let l = c.nonzero-list.result in
    let one = ready_first a.n a.b a.rest c.digits_at-x.result l.at l.turn l.count c.digits_at-x.ensures.0 c.digits_at-x.ensures.1 c.nonzero-list.ensures.0 in (
      ap (λ (y : ℕ). a.rest / y) p.3,
      omega arith,
      ready_skip a.n a.b a.rest l.at l.turn l.count (a.b + 1) 0 c.skip-from.result c.skip-from.ensures.0 one,
      λ m q w e h. h,
    )

pub overflow_sub-base : goal.overflow_sub-base
overflow_sub-base c = omega (arith, pair_low c.args.n c.loop-c.c)

pub weighed-r-requires : goal.weighed-r-requires
weighed-r-requires c =
    let a = c.args in
    let o = c.loop-c in
    let l = c.nonzero-list.result in
    let more : Ready a.n a.b a.rest l.at l.turn l.count (o.c + 2) c.skip-from-in-loop-c.result
    = let e : o.c + 1 + 1 ≡ o.c + 2 = omega arith in subst (λ (k : ℕ). Ready a.n a.b a.rest l.at l.turn l.count k c.skip-from-in-loop-c.result) e
    (ready_skip a.n a.b a.rest l.at l.turn l.count (o.c + 1) o.from c.skip-from-in-loop-c.result c.skip-from-in-loop-c.ensures.0 o.invariant.2) in
    let p = c.requires in record { n_le_most_unknowns = (p.0, omega arith, omega arith, ap₂ (λ (x y : ℕ). x + (y - o.c)) c.key-kb.ensures.0 c.pair.ensures.0, omega arith, p.2, omega arith, omega arith); by_index = ready_late a.n a.b a.rest l.at l.turn l.count (o.c + 2) c.skip-from-in-loop-c.result more }

pub loop-c-preserved : goal.loop-c-preserved
loop-c-preserved c =
    let a = c.args in
    let o = c.loop-c in
    let l = c.nonzero-list.result in
    let more : Ready a.n a.b a.rest l.at l.turn l.count (o.c + 2) c.skip-from-in-loop-c.result
    = let e : o.c + 1 + 1 ≡ o.c + 2 = omega arith in subst (λ (k : ℕ). Ready a.n a.b a.rest l.at l.turn l.count k c.skip-from-in-loop-c.result) e
    (ready_skip a.n a.b a.rest l.at l.turn l.count (o.c + 1) o.from c.skip-from-in-loop-c.result c.skip-from-in-loop-c.ensures.0 o.invariant.2) in
    let p = c.requires in
    let i : o.c + 2 ≡ o.c + 1 + 1 = omega arith in
    let low : a.b < o.c = omega arith in (
      ap (λ (y : ℕ). y / 3) o.invariant.0 ∙ part_next a.rest o.c,
      omega arith,
      subst (λ (k : ℕ). Ready a.n a.b a.rest l.at l.turn l.count k c.skip-from-in-loop-c.result) i more,
      λ m q w e h.
          let ws = weighs_other a.n a.b o.c q a.rest o.y more.x c.weigh-w.result low e o.invariant.0 (λ d k j. more.digits d (omega arith) j) c.weigh-w.ensures.0 c.weigh-w.ensures.1 c.weigh-w.ensures.2 in
          slot_more a.n m a.table.now a.b q o.c c.add-v.ensures (o.invariant.3 m q w e h)
          (c.weighed-r.ensures m (visits 3 (a.b ∷ o.c ∷ []) q) (λ d. gathered 3 (a.b ∷ o.c ∷ []) (visits 3 (a.b ∷ o.c ∷ d ∷ [])) q) more.x w more.lists more.skips ws),
    )

pub returns : goal.returns
returns c =
    let a = c.args in
    let o = c.loop-c in
    let i : o.c ≡ a.n = omega (arith, o.auto.c-end, c.requires.1, c.loop-c-test.false) in
    λ m q w e h. subst (λ (k : ℕ). Holds m (λ e. slot_to (cubic_at a.n a.table.now e) a.n a.b q k) o.v) i (o.invariant.3 m q w e h)

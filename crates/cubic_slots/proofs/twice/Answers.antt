-- `cubic_slots::twice` meets its contract.
use mathlib.Core.Path.{◌≡◌, ap, ap₂, ◌∙◌, subst}
use mathlib.Core.List.{[], ◌∷◌}
use Prim.Native.Nat.{ℕ, suc, ◌+◌, ◌-◌, ◌*◌, ◌^◌, ◌≤◌}
use native.Mathlib.Nat.{mul-le-mul_right}
use native.Mathlib.Numerals.{add-one}
use native.Mathlib.Omega.{arith}
use Rattle.residues.proofs.ModLaw.{crefl, cof, ◌⨾◌}
use Rattle.gray.specs.Numbers.{point_digit}
use Rattle.held.specs.Visits.{gathered, visits}
use Rattle.cubic_tables.proofs.OrderLaw.{cubic_count_low}
use Rattle.tables.proofs.IndexLaw.{count_is}
use Rattle.seconds.proofs.CountedLaw.{pair_low, power_small}
use Rattle.weights.specs.Parts.{Ready}
use Rattle.weights.proofs.WeightLaw.{weighs_twice}
use Rattle.weights.proofs.RowLaw.{ready_first, ready_skip, ready_late}
use Rattle.cubic_slots.proofs.SlotLaw.{slot_first, slot_more}
use Rattle.cubic_slots.proofs.twice.Goals as goal

pub overflow_mul-up : goal.overflow_mul-up
overflow_mul-up c =
    let a = c.args in
    let p = c.requires in
    let s : 3 ^ (a.b + 1) ≤ 3 ^ 20 = power_small (a.b + 1) (omega arith) in
    let u : a.up ≤ 3 ^ 20 = omega arith in
    let l = mul-le-mul_right a.k u in
    omega arith

pub overflow_sub-base : goal.overflow_sub-base
overflow_sub-base c = omega (arith, pair_low c.args.n c.args.b)

pub weighed-v-requires : goal.weighed-v-requires
weighed-v-requires c =
    let a = c.args in
    let l = c.nonzero-list.result in
    let r = a.up * a.k in
    let one = ready_first a.n a.b r c.digits_at-x.result l.at l.turn l.count c.digits_at-x.ensures.0 c.digits_at-x.ensures.1 c.nonzero-list.ensures.0 in
    let two : Ready a.n a.b r l.at l.turn l.count (a.b + 2) c.skip-from.result
    = let e : a.b + 1 + 1 ≡ a.b + 2 = omega arith in subst (λ (k : ℕ). Ready a.n a.b r l.at l.turn l.count k c.skip-from.result) e (ready_skip a.n a.b r l.at l.turn l.count (a.b + 1) 0 c.skip-from.result c.skip-from.ensures.0 one) in
    let p = c.requires in record { n_le_most_unknowns = (p.0, omega arith, p.1, ap₂ (λ (x y : ℕ). x + (y - a.b)) c.key.ensures.0 c.pair.ensures.0, omega arith, p.2, omega arith, omega arith); by_index = ready_late a.n a.b r l.at l.turn l.count (a.b + 2) c.skip-from.result two }

pub vector-requires : goal.vector-requires
vector-requires c = omega (arith, cubic_count_low c.args.n, count_is c.args.n)

pub returns : goal.returns
returns c =
    let a = c.args in
    let l = c.nonzero-list.result in
    let r = a.up * a.k in
    let one = ready_first a.n a.b r c.digits_at-x.result l.at l.turn l.count c.digits_at-x.ensures.0 c.digits_at-x.ensures.1 c.nonzero-list.ensures.0 in
    let two : Ready a.n a.b r l.at l.turn l.count (a.b + 2) c.skip-from.result
    = let e : a.b + 1 + 1 ≡ a.b + 2 = omega arith in subst (λ (k : ℕ). Ready a.n a.b r l.at l.turn l.count k c.skip-from.result) e (ready_skip a.n a.b r l.at l.turn l.count (a.b + 1) 0 c.skip-from.result c.skip-from.ensures.0 one) in
    let p = c.requires in
    λ m q w e.
    let u : r ≡ 3 ^ suc a.b * a.k = ap (λ (y : ℕ). y * a.k) (p.3 ∙ ap (λ (y : ℕ). 3 ^ y) (add-one a.b)) in
    let ws = weighs_twice a.n a.b q a.k two.x _ e (λ d h j. two.digits d (omega arith) j ⨾ cof (ap (λ (y : ℕ). point_digit 3 y d) u)) (crefl a.k) c.low_sum.ensures.0 in
    slot_more a.n m a.table.now a.b q a.b c.add.ensures (slot_first a.n m a.table.now a.b q w p.1 c.vector.ensures)
    (c.weighed-v.ensures m (visits 3 (a.b ∷ a.b ∷ []) q) (λ d. gathered 3 (a.b ∷ a.b ∷ []) (visits 3 (a.b ∷ a.b ∷ d ∷ [])) q) two.x w two.lists two.skips ws)

-- `cubic_value::own_row` meets its contract.
use mathlib.Core.Path.{sym, ap, ap₂}
use mathlib.Core.List.{[], ◌∷◌}
use Prim.Native.Nat.{ℕ, ◌+◌, ◌-◌, ◌%◌}
use native.Mathlib.Omega.{arith}
use Rattle.trits.proofs.HoldLaw.{holds_ext}
use Rattle.held.specs.Visits.{gathered, visits}
use Rattle.cubic_tables.specs.Words.{cubic_at}
use Rattle.seconds.proofs.CountedLaw.{pair_low}
use Rattle.weights.proofs.RowLaw.{ready_late}
use Rattle.shares.proofs.ShareLaw.{weighs_own}
use Rattle.cubic_value.proofs.SumLaw.{pair_is}
use Rattle.cubic_value.proofs.own_row.Goals as goal

pub overflow_sub-base : goal.overflow_sub-base
overflow_sub-base c = omega (arith, pair_low c.args.n c.args.b)

pub weighed-requires : goal.weighed-requires
weighed-requires c =
    let a = c.args in
    let p = c.requires in record { n_le_most_unknowns = (p.0, omega arith, p.1, ap₂ (λ (x y : ℕ). x + (y - a.b)) c.key.ensures.0 c.pair.ensures.0, omega arith, p.2, p.5.skips.some, p.4); by_index = ready_late a.n 0 a.q a.list.now.at a.list.now.turn a.list.now.count (a.b + 2) a.from p.5 }

pub returns : goal.returns
returns c =
    let a = c.args in
    let p = c.requires in
    let o = c.own-w.ensures in
    let ws = weighs_own a.n a.b a.q a.y p.5.x c.own-w.result p.3 p.5.digits o.0 o.1 in
    λ m w. holds_ext (λ e k. ap (λ (y : ℕ). y % 3) (sym (pair_is (cubic_at a.n a.table.now e) a.n a.b a.b a.q)))
    (c.weighed.ensures m (gathered 3 (a.b ∷ []) (visits 3 (a.b ∷ a.b ∷ [])) a.q) (λ d. gathered 3 (a.b ∷ []) (gathered 3 (a.b ∷ a.b ∷ []) (visits 3 (a.b ∷ a.b ∷ d ∷ []))) a.q) p.5.x w p.5.lists p.5.skips ws)

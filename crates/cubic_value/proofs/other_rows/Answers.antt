-- `cubic_value::other_rows` meets its contract.
use mathlib.Core.Path.{◌≡◌, sym, ap, ap₂, ◌∙◌, subst}
use mathlib.Core.List.{[], ◌∷◌}
use Prim.Native.Nat.{ℕ, suc, ◌+◌, ◌-◌, ◌*◌, ◌/◌, ◌%◌, ◌^◌}
use native.Mathlib.Numerals.{add-one}
use native.Mathlib.Omega.{arith}
use Rattle.residues.proofs.ModLaw.{cof, ◌⨾◌}
use Rattle.trits.specs.Trit.{Holds}
use Rattle.trits.proofs.HoldLaw.{holds_ext}
use Rattle.held.specs.Visits.{gathered, visits}
use Rattle.cubic_tables.specs.Words.{cubic_at}
use Rattle.weights.specs.Parts.{Ready, Weighs}
use Rattle.cubic_value.specs.Parts.{pair_to}
use Rattle.seconds.proofs.CountedLaw.{pair_low, part_next}
use Rattle.weights.proofs.RowLaw.{ready_skip, ready_late}
use Rattle.shares.proofs.ShareLaw.{weighs_beside}
use Rattle.cubic_value.proofs.SumLaw.{pair_is, others_whole}
use Rattle.cubic_value.proofs.other_rows.Goals as goal

pub overflow_sub-base : goal.overflow_sub-base
overflow_sub-base c = omega (arith, pair_low c.args.n (c.args.b + 1))

pub weighed-side-requires : goal.weighed-side-requires
weighed-side-requires c =
    let a = c.args in
    let p = c.requires in
    let more : Ready a.n 0 a.q a.list.now.at a.list.now.turn a.list.now.count (a.b + 3) c.skip-f.result
    = let e : a.b + 2 + 1 ≡ a.b + 3 = omega arith in subst (λ (k : ℕ). Ready a.n 0 a.q a.list.now.at a.list.now.turn a.list.now.count k c.skip-f.result) e
    (ready_skip a.n 0 a.q a.list.now.at a.list.now.turn a.list.now.count (a.b + 2) a.from c.skip-f.result c.skip-f.ensures.0 p.5) in
    let e : a.b + 3 ≡ a.b + 1 + 2 = omega arith in record { n_le_most_unknowns = (p.0, omega arith, p.1, ap₂ (λ (x y : ℕ). x + (y - (a.b + 1))) c.key.ensures.0 c.pair.ensures.0, omega arith, p.2, c.skip-f.ensures.1, p.4); by_index = ready_late a.n 0 a.q a.list.now.at a.list.now.turn a.list.now.count (a.b + 1 + 2) c.skip-f.result (subst (λ (k : ℕ). Ready a.n 0 a.q a.list.now.at a.list.now.turn a.list.now.count k c.skip-f.result) e more) }

pub later-far-requires : goal.later-far-requires
later-far-requires c =
    let a = c.args in
    let p = c.requires in
    let more : Ready a.n 0 a.q a.list.now.at a.list.now.turn a.list.now.count (a.b + 3) c.skip-f.result
    = let e : a.b + 2 + 1 ≡ a.b + 3 = omega arith in subst (λ (k : ℕ). Ready a.n 0 a.q a.list.now.at a.list.now.turn a.list.now.count k c.skip-f.result) e
    (ready_skip a.n 0 a.q a.list.now.at a.list.now.turn a.list.now.count (a.b + 2) a.from c.skip-f.result c.skip-f.ensures.0 p.5) in
    let e : a.b + 1 + 1 ≡ a.b + 2 = omega arith in
    (p.0, p.1, p.2, ap (λ (y : ℕ). y / 3 / 3) p.3 ∙ ap (λ (y : ℕ). y / 3) (part_next a.q a.b) ∙ part_next a.q (a.b + 1) ∙ ap (λ (k : ℕ). a.q / 3 ^ k) e, p.4, more)

pub returns : goal.returns
returns c =
    let a = c.args in
    let p = c.requires in
    let more : Ready a.n 0 a.q a.list.now.at a.list.now.turn a.list.now.count (a.b + 3) c.skip-f.result
    = let e : a.b + 2 + 1 ≡ a.b + 3 = omega arith in subst (λ (k : ℕ). Ready a.n 0 a.q a.list.now.at a.list.now.turn a.list.now.count k c.skip-f.result) e
    (ready_skip a.n 0 a.q a.list.now.at a.list.now.turn a.list.now.count (a.b + 2) a.from c.skip-f.result c.skip-f.ensures.0 p.5) in
    let e : a.b + 3 ≡ a.b + 1 + 2 = omega arith in
    let here : Ready a.n 0 a.q a.list.now.at a.list.now.turn a.list.now.count (a.b + 1 + 2) c.skip-f.result = subst (λ (k : ℕ). Ready a.n 0 a.q a.list.now.at a.list.now.turn a.list.now.count k c.skip-f.result) e more in
    let g = c.beside-w.ensures in
    let w0 = weighs_beside a.n a.b a.q a.y here.x c.beside-w.result p.3 here.digits g.0 g.1 g.2 in
    let ws = subst (λ (j : ℕ). Weighs a.n a.b j (gathered 3 (a.b ∷ []) (visits 3 (a.b ∷ j ∷ [])) a.q) (λ d. gathered 3 (a.b ∷ []) (gathered 3 (a.b ∷ j ∷ []) (visits 3 (a.b ∷ j ∷ d ∷ []))) a.q) here.x c.beside-w.result) (sym (add-one a.b)) w0 in
    λ m w.
    let side = c.weighed-side.ensures m (gathered 3 (a.b ∷ []) (visits 3 (a.b ∷ (a.b + 1) ∷ [])) a.q) (λ d. gathered 3 (a.b ∷ []) (gathered 3 (a.b ∷ (a.b + 1) ∷ []) (visits 3 (a.b ∷ (a.b + 1) ∷ d ∷ []))) a.q) here.x w here.lists here.skips ws in
    let row : Holds m (λ e. pair_to (cubic_at a.n a.table.now e) a.n a.b (suc a.b) a.q) c.weighed-side.result
    = holds_ext (λ e k. ap (λ (y : ℕ). y % 3) (sym (pair_is (cubic_at a.n a.table.now e) a.n a.b (a.b + 1) a.q) ∙ ap (λ (c : ℕ). pair_to (cubic_at a.n a.table.now e) a.n a.b c a.q) (add-one a.b))) side in
    others_whole a.n m a.table.now a.b a.q c.weigh-u.result.whole p.1 (c.weigh-u.ensures.0 ⨾ cof (ap (λ (y : ℕ). y + 2 * (y / 3)) p.3)) c.times.ensures c.add.ensures (c.later-far.ensures m w) row

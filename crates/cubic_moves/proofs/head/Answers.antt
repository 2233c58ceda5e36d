-- `cubic_moves::head` meets its contract: by the number of positions, two, or three and more.
use mathlib.Core.Path.{sym, ap, ap₂, ◌∙◌}
use mathlib.Core.List.{List}
use mathlib.Core.Logic.{by_cases}
use Prim.Native.Nat.{ℕ, ◌+◌, ◌<◌}
use native.Mathlib.Decide.{ℕ_discrete}
use native.Mathlib.Omega.{arith}
use lib.ListN.{length}
use Rattle.trits.specs.declared.Vector.{Vector}
use Rattle.trits.specs.Words.{add_of}
use Rattle.tables.specs.Words.{entry, put_at}
use Rattle.positions.specs.Positions.{lowest_of}
use Rattle.cubic_tables.specs.Order.{pair_of}
use Rattle.cubic_tables.specs.Words.{triple_at}
use Rattle.cubic_moves.specs.Moves.{headed}
use Rattle.cubic_tables.proofs.PairLaw.{key_room}
use Rattle.cubic_moves.proofs.MoveLaw.{head_two, head_three}
use Rattle.cubic_moves.proofs.head.Goals as goal

pub second-u-requires : goal.second-u-requires
second-u-requires c =
    let a = c.args in
    let z = c.requires.sized in
    let q = c.requires.kb_value in
    record { n_le_most_unknowns = (z.small, q.2, q.3, c.pair-k.ensures.2, omega (arith, q.4)); by_index = key_room a.n a.b a.kb (length a.table.now) z.small (omega (arith, q.1, q.2)) q.0 z.table }

pub returns : goal.returns
returns c =
    let a = c.args in
    let k = c.pair-k.ensures.0 in
    let u = c.second-u in
    let p = c.raise.ensures in
    let z = c.requires.kb_value in
    let T = triple_at a.table.now a.n in record {
      state = (λ st hv ha hw hs.
          let ps = p.0 ∙ ap (λ (v : Vector). add_of v u.result.vector) (sym hs) in
          let qv = p.1 ∙ ap₂ add_of (sym hv) (sym p.0) in
          by_cases (ℕ_discrete a.rest 0)
          (λ e.
          let o = u.ensures.two e in
          head_two T a.b a.c a.rest st _ u.result.vector e
          (o.1 ∙ ap (λ (w : List ℕ). entry w c.pair-k.result) (sym hw) ∙ ap (entry st.seconds) k) ps qv (omega (arith, o.2, p.2, ha))
          ∙ ap (headed st a.b _) (hw ∙ sym o.0))
          (λ e.
          let h : 0 < a.rest = omega arith in
          let o = u.ensures.three h in
          head_three T a.b a.c a.rest st _ u.result.vector _ h
          (o.0 ∙ ap (λ (w : List ℕ). put_at w c.pair-k.result u.result.vector) (sym hw) ∙ ap (λ (m : ℕ). put_at st.seconds m u.result.vector) k)
          (o.1 ∙ ap (λ (w : List ℕ). add_of (entry w c.pair-k.result) (entry a.table.now (a.kb + pair_of a.n a.c (a.c + lowest_of 3 a.rest)))) (sym hw)
          ∙ ap (λ (m : ℕ). add_of (entry st.seconds m) (entry a.table.now (a.kb + pair_of a.n a.c (a.c + lowest_of 3 a.rest)))) k
          ∙ ap (λ (m : ℕ). add_of (entry st.seconds (pair_of 20 a.b a.c)) (entry a.table.now (m + pair_of a.n a.c (a.c + lowest_of 3 a.rest)))) z.0)
          ps qv (omega (arith, o.2, p.2, ha))));
      count = omega (arith, u.ensures.count, p.2);
    }

-- `blocks::parts::nine` meets its contract: what the rows left make of the parts stays the same.
use mathlib.Core.Path.{◌≡◌, refl, sym, ap, ◌∙◌}
use Prim.Native.Nat.{ℕ, suc, ◌+◌, ◌-◌}
use native.Mathlib.Omega.{arith}
use Rattle.moves.specs.Step.{bump}
use Rattle.blocks.specs.Parts.{whole, rows_of, nine_of}
use Rattle.blocks.proofs.PartLaw.{rows_more, rows_none}
use Rattle.blocks.proofs.parts.nine.Goals as goal

pub loop-k-preserved : goal.loop-k-preserved
loop-k-preserved c =
    let g = c.three-y in
    let l = c.loop-k in
    let a = c.args in
    let t = a.top in
    let m = c.raise_slot-y.ensures in
    let w = l.invariant.1 in
    let e = g.ensures.went in
    let v = m.went in
    let h : 2 - l._k ≡ suc (2 - (l._k + 1)) = omega (arith, c.loop-k-test) in (
      omega (arith, g.auto, l.invariant.0),
      record { place = omega arith; found = omega arith; additions = omega arith },
      (λ rest.
          ap (rows_of (2 - (l._k + 1)) t.t01 t.t11 t.t00 t.t01 t.t11) (m.state rest _ ∙ ap (bump 1 l.a1) (g.ensures.state rest))
          ∙ sym (rows_more t.t00 t.t01 t.t11 (2 - l._k) (2 - (l._k + 1)) l.a0 l.a1 (whole l.y rest l.list) h) ∙ l.invariant.2 rest),
    )

pub returns : goal.returns
unfolding nine_of
returns c =
    let g = c.three in
    let l = c.loop-k in
    let a = c.args in
    let t = a.top in
    let w = l.invariant.1 in
    let e = g.ensures.went in
    let k : l._k ≡ 2 = omega (arith, c.loop-k-test, l.auto) in
    let j : 2 - l._k ≡ 0 = omega arith in record {
      state = (λ rest.
          g.ensures.state rest ∙ sym (rows_none t.t00 t.t01 t.t11 l.a0 l.a1 (whole l.y rest l.list))
          ∙ ap (λ (i : ℕ). rows_of i l.a0 l.a1 t.t00 t.t01 t.t11 (whole l.y rest l.list)) (sym j) ∙ l.invariant.2 rest);
      went = record { place = omega arith; found = omega arith; additions = omega arith };
    }

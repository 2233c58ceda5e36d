-- `blocks::parts::big` meets its contract: what the legs left make of the parts stays the same.
use mathlib.Core.Path.{◌≡◌, refl, sym, ap, ◌∙◌}
use Prim.Native.Nat.{ℕ, suc, ◌-◌}
use native.Mathlib.Omega.{arith}
use Rattle.moves.specs.Step.{bump}
use Rattle.blocks.specs.Parts.{whole, legs_of}
use Rattle.blocks.proofs.PartLaw.{legs_more, legs_none}
use Rattle.blocks.proofs.parts.big.Goals as goal

pub returns-then-left-eq0 : goal.returns-then-left-eq0
returns-then-left-eq0 c =
    let g = c.nine-y in
    let l = c.loop-left in
    let a = c.args in
    let w = l.invariant.2 in
    let e = g.ensures.went in record {
      state = (λ rest.
          g.ensures.state rest ∙ sym (legs_none l.a0 l.a1 l.a2 a.top (whole l.y rest l.list))
          ∙ ap (λ (k : ℕ). legs_of k l.a0 l.a1 l.a2 a.top (whole l.y rest l.list)) (sym c.if-left-eq0.true) ∙ l.invariant.3 rest);
      went = record { place = omega (arith, c.if-left-eq0); found = omega (arith, c.if-left-eq0); additions = omega (arith, c.if-left-eq0) };
    }

pub loop-left-preserved : goal.loop-left-preserved
loop-left-preserved c =
    let g = c.nine-y in
    let l = c.loop-left in
    let a = c.args in
    let m = c.raise_slot-y.ensures in
    let w = l.invariant.2 in
    let e = g.ensures.went in
    let v = m.went in
    let h : l.left ≡ suc (l.left - 1) = omega (arith, c.if-left-eq0) in
    let i = l.invariant.0 in (
      omega arith,
      omega (arith, g.auto, l.invariant.1),
      record { place = omega arith; found = omega arith; additions = omega arith },
      (λ rest.
          ap (legs_of (l.left - 1) a.top.t02 a.top.t12 a.top.t22 a.top) (m.state rest _ ∙ ap (bump 2 l.a2) (g.ensures.state rest))
          ∙ sym (legs_more l.left (l.left - 1) l.a0 l.a1 l.a2 a.top (whole l.y rest l.list) h) ∙ l.invariant.3 rest),
    )

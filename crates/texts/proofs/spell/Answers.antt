-- `texts::spell` meets its contract: the digits that are left come before those that stand.
use mathlib.Core.Path.{◌≡◌, sym, ap, ◌∙◌}
use mathlib.Core.List.{List, [], ◌++◌, append-nil}
use Prim.Native.Nat.{ℕ, suc, ◌-◌, ◌/◌, ◌≤◌, ◌<◌}
use native.Mathlib.Omega.{arith}
use lib.ListN.{drop, set, length-set}
use Rattle.texts.specs.Text.{decimal_in}
use Rattle.texts.proofs.TextLaw.{drop_all, spell_first, spell_fits, spell_turn, spell_last}
use Rattle.texts.proofs.spell.Goals as goal

pub loop-rest-init : goal.loop-rest-init
loop-rest-init c =
    let a = c.args in
    let e : drop 20 a.bytes.now ≡ [] = drop_all a.bytes.now 20 (sym c.requires) in
    (omega arith, c.requires, omega arith, ap (λ (m : List ℕ). decimal_in 20 a.x ++ m) e ∙ append-nil (decimal_in 20 a.x))

pub overflow_sub-i : goal.overflow_sub-i
overflow_sub-i c =
    let l = c.loop-rest in
    omega (arith, spell_first l.i l.rest (omega arith) l.invariant.2)

pub loop-rest-preserved : goal.loop-rest-preserved
loop-rest-preserved c =
    let l = c.loop-rest in
    let a = c.args in
    let t : 10 ≤ l.rest = omega arith in
    let g : 1 ≤ l.i = spell_first l.i l.rest t l.invariant.2 in (
      omega arith,
      omega (arith, length-set l.bytes l.i c.glyph.result),
      spell_fits l.i l.rest g l.invariant.2,
      ap (λ (v : ℕ). decimal_in (suc (l.i - 1)) (l.rest / 10) ++ drop (suc (l.i - 1)) (set l.bytes l.i v)) c.glyph.ensures
          ∙ spell_turn l.bytes l.i l.rest (decimal_in 20 a.x) (omega arith) g t l.invariant.3,
    )

pub shape_of-bytes : goal.shape_of-bytes
shape_of-bytes c =
    let l = c.loop-rest in
    let a = c.args in
    length-set l.bytes l.i c.glyph-2.result ∙ l.invariant.1 ∙ sym c.requires

pub returns : goal.returns
returns c =
    let l = c.loop-rest in
    let a = c.args in
    let t : l.rest < 10 = omega arith in (
      l.invariant.0,
      length-set l.bytes l.i c.glyph-2.result ∙ l.invariant.1,
      ap (λ (v : ℕ). drop l.i (set l.bytes l.i v)) c.glyph-2.ensures
          ∙ spell_last l.bytes l.i l.rest (decimal_in 20 a.x) (omega arith) t l.invariant.3,
    )

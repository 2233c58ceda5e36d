-- `balanced::to_balanced` meets its contract: the point turned by one, less the upper end.
use mathlib.Core.Path.{sym, ap₂, ◌∙◌}
use Rattle.refusals.specs.Refusal.{done}
use Prim.Native.Nat.{ℕ, ◌-◌, ◌/◌}
use native.Mathlib.Omega.{arith}
use lib.IntN.{pos, ◌-ℤ◌}
use Rattle.gray.proofs.TurnLaw.{power_small}
use Rattle.balanced.proofs.TurnLaw.{turned_word}
use Rattle.gray.proofs.AnswerLaw.{done_so}
use Rattle.balanced.proofs.AnswerLaw.{balanced_meets}
use Rattle.balanced.proofs.BalancedLaw.{half_is, balanced_is}
use Rattle.balanced.proofs.SignLaw.{held_minus}
use Rattle.balanced.proofs.to_balanced.Goals as goal

pub minus-requires : goal.minus-requires
minus-requires c =
    let a = c.args in
    let d = done_so a.n a.x.0 (sym c.convertible.ensures ∙ c.in_ok-convertible.was) in
    let e = c.power.ensures.0 (omega (arith, d.0.most)) in
    (turned_word _ _ _ _ d.0.most c.turn-raised.ensures, omega (arith, power_small a.n d.0.most))

pub returns : goal.returns
returns c =
    let a = c.args in
    let v = sym c.convertible.ensures ∙ c.in_ok-convertible.was in
    let d = done_so a.n a.x.0 v in
    let e = c.power.ensures.0 (omega (arith, d.0.most)) in
    let all = balanced_meets done _ _ _ v
    (held_minus c.minus.result c.turn-raised.result ((c.power.result - 1) / 2)
    (turned_word _ _ _ _ d.0.most c.turn-raised.ensures) (omega (arith, power_small a.n d.0.most)) c.minus.ensures
    ∙ ap₂ (λ (x y : ℕ). pos x -ℤ pos y) c.turn-raised.ensures (half_is a.n _ e) ∙ sym (balanced_is a.n a.x.0)) in record { answer = all.0; number = all.1 }

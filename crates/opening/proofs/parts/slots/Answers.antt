-- `opening::parts::slots` meets its contract: after b turns the slots below b hold their changes.
use mathlib.Core.Path.{◌≡◌, ap, ◌∙◌}
use Prim.Native.Nat.{ℕ, ◌+◌, ◌-◌, ◌*◌, ◌^◌}
use native.Mathlib.Omega.{arith}
use Rattle.positions.specs.Positions.{latest}
use Rattle.gray.specs.Numbers.{point_digit}
use Rattle.opening.proofs.PlaceLaw.{latest_none}
use Rattle.given.proofs.TableLaw.{power_le}
use Rattle.opening.proofs.SlotsLaw.{filled_next, filled_whole, power_pos, power_next}
use Rattle.opening.proofs.parts.slots.Goals as goal

pub before_move-w-requires : goal.before_move-w-requires
before_move-w-requires c =
    let l = c.loop-b in
    omega (arith, l.invariant.0, power_pos l.b, power_le l.b (omega arith), c.requires)

pub overflow_mul-power : goal.overflow_mul-power
overflow_mul-power c =
    let l = c.loop-b in
    omega (arith, l.invariant.0, power_le l.b (omega arith))

pub loop-b-preserved : goal.loop-b-preserved
loop-b-preserved c =
    let a = c.args in
    let l = c.loop-b in
    let w : c.before_move-w.result ≡ latest 3 l.b a.q - 1 = c.before_move-w.ensures l.b l.invariant.0 in
    let e = c.saturating_sub.ensures in (
      ap (λ (x : ℕ). x * 3) l.invariant.0 ∙ power_next l.b,
      l.invariant.0 ∙ ap (λ (x : ℕ). 3 ^ x) (less l.b),
      filled_next a.n a.c.now a.q l.b l.s _ (omega arith)
          (λ m t. c.change.ensures m (point_digit 3 (latest 3 l.b a.q - 1)) t (λ k h. latest_none l.b a.q k h)
          (λ k g h. c.digits_at-x.ensures.0 k (omega (arith, e)) h ∙ ap (λ (x : ℕ). point_digit 3 x k) w)) l.invariant.2,
    )
  where
    less : (b : ℕ) → b ≡ b + 1 - 1
    less b = omega arith

pub returns : goal.returns
returns c =
    let l = c.loop-b in
    filled_whole _ _ _ l.b l.s (omega (arith, c.loop-b-test.false)) l.invariant.2

-- `gray::digits::digits_at` meets its contract: before turn k the digits below k stand, and what is left is the place without them.
use mathlib.Core.Path.{◌≡◌, ap, ◌∙◌}
use Prim.Native.Nat.{ℕ, ◌+◌, ◌-◌, ◌/◌, ◌%◌, ◌^◌}
use native.Mathlib.Omega.{arith}
use native.Mathlib.Nat.{one-le-pow}
use Rattle.gray.specs.Numbers.{point_digit}
use Rattle.gray.proofs.RestLaw.{rest_next, digit_here, stored_next}
use Rattle.gray.proofs.digits.digits_at.Goals as goal

pub nonzero_div-rest : goal.nonzero_div-rest
nonzero_div-rest c = omega (arith, c.requires.2, one-le-pow c.args.from 3 (omega arith))

pub loop-k-preserved : goal.loop-k-preserved
loop-k-preserved c =
    let l = c.loop-k in
    let next : (p : ℕ) → (l.rest ≡ p / 3 ^ l.k) → (l.rest % 3 + 3 - l.rest / 3 % 3) % 3 ≡ point_digit 3 p l.k
    = λ p e. ap (λ (x : ℕ). (x % 3 + 3 - x / 3 % 3) % 3) e ∙ digit_here p l.k in
    λ p e. let i = l.invariant p e in
    (ap (λ (x : ℕ). x / 3) i.0 ∙ rest_next p l.k, stored_next (point_digit 3 p) _ l.k _ l.d (omega arith) (omega arith) (next p i.0) i.1)

pub returns : goal.returns
returns c =
    let l = c.loop-k in
    let s = (l.invariant c.args.p.0 (ap (λ (x : ℕ). c.args.p.0 / x) c.requires.2)).1 in
    (λ k g h. s.here k g (omega arith), λ k z. s.none k (λ g h. z g (omega arith)))

use mathlib.Core.Path.{◌≡◌}
use Prim.Native.Nat.{ℕ, ◌/◌, ◌^◌}
use Rattle.gray.specs.Numbers.{point_digit}
use Rattle.gray.proofs.RestLaw.{Stored}
use Rattle.gray.proofs.digits.digits_at.Given as goal

abbrev pub invariant-loop-k : goal.invariant-loop-k
invariant-loop-k l =
    (p : ℕ) → l.initial.rest ≡ p / 3 ^ l.from → (l.rest ≡ p / 3 ^ l.k) × Stored (point_digit 3 p) l.from l.k l.d

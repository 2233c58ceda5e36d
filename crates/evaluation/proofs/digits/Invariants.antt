use mathlib.Core.Path.{◌≡◌}
use Prim.Native.Nat.{ℕ, ◌/◌, ◌^◌, ◌<◌}
use lib.ListN.{length, get_or}
use Rattle.gray.specs.Numbers.{digit}
use Rattle.evaluation.proofs.digits.Given as goal

abbrev pub invariant-loop-digit : goal.invariant-loop-digit
invariant-loop-digit l = (length l.digit-items ≡ 20) × (l.rest ≡ l.x / 3 ^ l.digit-index) × ((j : ℕ) → j < l.digit-index → get_or l.digit-items j 0 ≡ digit 3 l.x j)

-- Finite sums, and the number 1 where two indices are equal.
use Rattle.std.specs.Prelude.{ℕ, zero, suc, ◌+◌}

-- h 0 + .. + h (n - 1)
unfoldable pub sum : ℕ → (ℕ → ℕ) → ℕ
sum zero h = 0
sum (suc n) h = sum n h + h n

-- 1 where a is b, and 0 otherwise
unfoldable pub same : ℕ → ℕ → ℕ
same zero zero = 1
same zero (suc b) = 0
same (suc a) zero = 0
same (suc a) (suc b) = same a b

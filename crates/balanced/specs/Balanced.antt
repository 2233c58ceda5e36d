-- Balanced numbers: a point read with digit 2 as -1, and the way back.
use Rattle.std.specs.Prelude.{ℕ, zero, suc, ◌+◌, ◌-◌, ◌/◌, ◌%◌, ◌^◌, ℤ, pos, negsuc, nat_abs, ◌+ℤ◌, ◌*ℤ◌}
use Rattle.gray.specs.Numbers.{digit, number}

-- a digit read balanced
unfoldable pub signed_digit : ℕ → ℤ
signed_digit zero = pos 0
signed_digit (suc zero) = pos 1
signed_digit (suc (suc d)) = negsuc 0

-- the balanced number of point x, for n unknowns
unfoldable pub balanced_of : ℕ → ℕ → ℤ
balanced_of zero x = pos 0
balanced_of (suc n) x = signed_digit (x % 3) +ℤ pos 3 *ℤ balanced_of n (x / 3)

-- the upper end of the balanced numbers; the lower one is minus it
unfoldable pub half_of : ℕ → ℕ
half_of n = (3 ^ n - 1) / 2

-- the number of n digits, each a more than that of x modulo 3
unfoldable pub turned : ℕ → ℕ → ℕ → ℕ
turned a n x = number 3 n (λ k. (digit 3 x k + a) % 3)

-- the point whose balanced number is y: raised by the upper end, each digit of y is one larger
unfoldable pub unbalanced_of : ℕ → ℤ → ℕ
unbalanced_of n y = turned 2 n (nat_abs (y +ℤ pos (half_of n)))

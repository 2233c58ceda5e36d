-- Numbers in base 3 that counting places comes to, modulo 3: for proofs and for code that opens a record.
use Rattle.std.specs.Prelude.{ℕ, ◌+◌, ◌-◌, ◌*◌, ◌/◌, ◌%◌, ◌^◌}

-- how often digit l of the point has moved after place y
unfoldable pub turns_of : ℕ → ℕ → ℕ
turns_of l y = y / 3 ^ l - y / 3 ^ l / 3

-- that of digit 0, summed over the places below k, modulo 3
unfoldable pub low_sum : ℕ → ℕ
low_sum k = k % 3 / 2 + 2 * (k * (k / 3))

-- sums of weights over the numbers below k, modulo 3: those of a position and the next one, of the same position twice, and of two neighbours of low_sum
unfoldable pub next_sum : ℕ → ℕ
next_sum k = k % 3 * (2 * low_sum (k / 3)) + k % 3 / 2 * (k / 3 - k / 3 / 3)

unfoldable pub same_sum : ℕ → ℕ
same_sum k = k / 3 + k % 3 * (k / 3 * (k / 3)) + k % 3 / 2 * (k / 3)

unfoldable pub lows_sum : ℕ → ℕ
lows_sum k = 2 * (k / 3) + (k % 3 + 1) / 2 * (2 * (k / 3)) + k % 3 / 2

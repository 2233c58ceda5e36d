-- Places and points in base q: digits, numbers from digits, and the Gray map both ways.
use Rattle.std.specs.Prelude.{ℕ, zero, suc, ◌+◌, ◌-◌, ◌*◌, ◌/◌, ◌%◌, ◌^◌}
use Rattle.residues.specs.Sums.{sum}

-- digit k of a number
unfoldable pub digit : ℕ → ℕ → ℕ → ℕ
digit q p k = p / q ^ k % q

-- the number with the n digits f 0, f 1, ..
unfoldable pub number : ℕ → ℕ → (ℕ → ℕ) → ℕ
number q zero f = 0
number q (suc n) f = f 0 + q * number q n (λ k. f (suc k))

-- digit k of the point at place p: digit k of p minus digit k + 1 of p
unfoldable pub point_digit : ℕ → ℕ → ℕ → ℕ
point_digit q p k = (digit q p k + q - digit q p (k + 1)) % q

-- the point at place p, for n unknowns
unfoldable pub point_of : ℕ → ℕ → ℕ → ℕ
point_of q n p = number q n (point_digit q p)

-- digit k of the place of point x: the sum of the digits of x from k upward
unfoldable pub place_digit : ℕ → ℕ → ℕ → ℕ → ℕ
place_digit q n x k = sum (n - k) (λ d. digit q x (k + d)) % q

-- the place of point x, for n unknowns
unfoldable pub place_of : ℕ → ℕ → ℕ → ℕ
place_of q n x = number q n (place_digit q n x)

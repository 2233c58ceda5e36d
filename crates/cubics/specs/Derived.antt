-- What the proofs use of a polynomial of degree 3: its value with the highest unknown apart, its first differences, which have degree 2, and their polar form.
use Rattle.std.specs.Prelude.{ℕ, zero, suc, ◌+◌, ◌*◌}
use Rattle.residues.specs.Sums.{sum}
use Rattle.polynomials.specs.Poly.{Poly, eval, slope}
use Rattle.cubics.specs.Cubic.{Cubic}

-- the terms in which n is the highest unknown, over xn
unfoldable pub row : Cubic → ℕ → Poly
row f n = record { const = f.lin n; lin = λ i. f.quad i n; quad = λ i j. f.cube i j n }

unfoldable pub eval3 : Cubic → ℕ → (ℕ → ℕ) → ℕ
eval3 f zero x = f.const
eval3 f (suc n) x = eval3 f n x + x n * eval (row f n) (suc n) x

-- 0 where k is below b, 1 where it is b, 2 where it is above
unfoldable pub order : ℕ → ℕ → ℕ
order zero zero = 1
order zero (suc b) = 0
order (suc k) zero = 2
order (suc k) (suc b) = order k b

abbrev pub pick : ℕ → ℕ → ℕ → ℕ → ℕ
pick zero below at above = below
pick (suc zero) below at above = at
pick (suc (suc o)) below at above = above

-- the first difference in the direction b
unfoldable pub derived : Cubic → ℕ → Poly
derived f b = record {
  const = (row f b).const + ((row f b).lin b + (row f b).quad b b);
  lin = λ k. pick (order k b) ((row f b).lin k + slope (row f b) b k)
      ((row f b).lin b + slope (row f b) b b + ((row f b).lin b + (row f b).quad b b))
      ((row f k).lin b + (row f k).quad b b);
  quad = λ i k. pick (order k b) ((row f b).quad i k) ((row f b).quad i b + slope (row f b) b i) (slope (row f k) b i);
}

-- what a polynomial of degree 2 has at x + w beyond its values at x and at w, less the constant
unfoldable pub bil : Poly → ℕ → (ℕ → ℕ) → (ℕ → ℕ) → ℕ
bil h zero x w = 0
bil h (suc n) x w = bil h n x w + x n * sum (suc n) (λ i. h.quad i n * w i) + w n * sum (suc n) (λ i. h.quad i n * x i)

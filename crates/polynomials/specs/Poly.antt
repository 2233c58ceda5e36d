-- A polynomial of degree 2 modulo q, its value, its first differences, and its table of differences.
use Rattle.std.specs.Prelude.{ℕ, zero, suc, ◌+◌, ◌-◌, ◌*◌, ◌%◌, min, max}
use Rattle.residues.specs.Sums.{sum, same}

-- the coefficients: that of xi and xj is quad i j, for i ≤ j
pub record Poly : Type 0 where
  pub const : ℕ
  pub lin : ℕ → ℕ
  pub quad : ℕ → ℕ → ℕ

-- the value at x, for n unknowns: the sum over the monomials, in document 01's order
unfoldable pub value_of : Poly → ℕ → (ℕ → ℕ) → ℕ
value_of f n x = f.const + sum n (λ i. f.lin i * x i) + sum n (λ i. sum (n - i) (λ d. f.quad i (i + d) * (x i * x (i + d))))

-- x with one more at b, modulo q
unfoldable pub bumped : ℕ → ℕ → (ℕ → ℕ) → ℕ → ℕ
bumped q b x k = (x k + same k b) % q

-- a function of points after adding 1 to unknown b, minus the function
unfoldable pub change_by : ℕ → ((ℕ → ℕ) → ℕ) → ℕ → (ℕ → ℕ) → ℕ
change_by q F b x = (F (bumped q b x) + (q - 1) * F x) % q

-- that of a polynomial's value
abbrev pub change_of : ℕ → Poly → ℕ → ℕ → (ℕ → ℕ) → ℕ
change_of q f n b x = change_by q (value_of f n) b x

-- the value again, with the terms of the highest unknown apart: what inductions over n use
unfoldable pub eval : Poly → ℕ → (ℕ → ℕ) → ℕ
eval f zero x = f.const
eval f (suc n) x = eval f n x + x n * (f.lin n + sum (suc n) (λ i. f.quad i n * x i))

-- how the first difference in the direction b changes where xi grows by one
unfoldable pub slope : Poly → ℕ → ℕ → ℕ
slope f b i = f.quad (min b i) (max b i) * (1 + same i b)

-- the first difference in the direction b at x
unfoldable pub diff : Poly → ℕ → ℕ → (ℕ → ℕ) → ℕ
diff f n b x = f.lin b + f.quad b b + sum n (λ i. slope f b i * x i)

-- the coefficient of the unknown before i and i
unfoldable pub prev : Poly → ℕ → ℕ
prev f zero = 0
prev f (suc i) = f.quad i (suc i)

-- the table of differences
unfoldable pub table_of : ℕ → Poly → Poly
table_of q f = record {
  const = f.const % q;
  lin = λ i. (f.lin i + f.quad i i + (q - 1) * prev f i) % q;
  quad = λ i j. elim (same i j) [
    | zero ↦ (f.quad i j + 2 * f.quad i i + 2 * ((q - 1) * prev f i)) % q
    | suc s ↦ (2 * f.quad i i + (q - 1) * prev f i) % q
  ];
}

-- back again, where 2 * half is 1 modulo q: the coefficient of the unknown before i and i, then all
unfoldable pub prev_of : ℕ → Poly → ℕ → ℕ
prev_of q t zero = 0
prev_of q t (suc i) = (t.quad i (suc i) + prev_of q t i + (q - 1) * t.quad i i) % q

unfoldable pub back_of : ℕ → ℕ → Poly → Poly
back_of q half t = record {
  const = t.const % q;
  lin = λ i. (t.lin i + prev_of q t i + (q - 1) * (half * (t.quad i i + prev_of q t i))) % q;
  quad = λ i j. elim (same i j) [
    | zero ↦ (t.quad i j + prev_of q t i + (q - 1) * t.quad i i) % q
    | suc s ↦ half * (t.quad i i + prev_of q t i) % q
  ];
}

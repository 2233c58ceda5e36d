-- Cubic word tables: high then low for each monomial, equation e at bit e.
use Rattle.std.specs.Prelude.{List, [], ◌∷◌, ℕ, zero, suc, ◌+◌, ℤ}
use Rattle.residues.specs.Sums.{same}
use Rattle.trits.specs.declared.Vector.{Vector}
use Rattle.trits.specs.Trit.{trit, of_trits}
use Rattle.gray.specs.Numbers.{digit}
use Rattle.tables.specs.Monomials.{index_of}
use Rattle.tables.specs.Words.{entry, tabled, Entries, packed_rows}
use Rattle.cubics.specs.Cubic.{Cubic, cubic_of}
use Rattle.held.specs.Held as held
use Rattle.cubics.specs.Whole.{back_cubic}
use Rattle.cubic_tables.specs.Order.{cubic_count, triple_index, key_of, pair_of, cubic_nth}

-- a legal cubic table of n unknowns and m equations: of the exact length, every pair legal
abbrev pub CubicTable : ℕ → ℕ → List ℕ → Type 0
CubicTable n m t = Entries (cubic_count n) m t

-- equation e of the system whose coefficients a table holds; xi·xi·xi has none
unfoldable pub cubic_at : ℕ → List ℕ → ℕ → Cubic
cubic_at n t e = record {
  const = trit (entry t 0) e;
  lin = λ i. trit (entry t (1 + i)) e;
  quad = λ i j. trit (entry t (index_of n i j)) e;
  cube = λ i j k. elim (same i k) [ zero ↦ trit (entry t (triple_index n i j k)) e | suc s ↦ 0 ];
}

-- the entry of the product of unknowns b, c, d: at the number of the pair c, d, after the key of b
abbrev pub triple_at : List ℕ → ℕ → ℕ → ℕ → ℕ → Vector
triple_at t n b c d = entry t (key_of n b + pair_of n c d)

-- the table of a system of m equations: entry k holds coefficient k of each
unfoldable pub cubic_words : ℕ → ℕ → (ℕ → Cubic) → List ℕ
cubic_words n m F = tabled (cubic_count n) (λ k. of_trits m (λ e. cubic_nth n (F e) k))

-- signed rows as words, m rows of all the coefficients
unfoldable pub cubic_packed : ℕ → ℕ → List ℤ → List ℕ
cubic_packed n m rows = packed_rows (cubic_count n) m rows

-- the table of differences of a cubic over F3: for each list of positions the change at the place that has exactly these
unfoldable pub table_cubic : ℕ → Cubic → Cubic
table_cubic n f = record {
  const = held.entry 3 (held.along 3 (cubic_of f n)) [];
  lin = λ b. held.entry 3 (held.along 3 (cubic_of f n)) (b ∷ []);
  quad = λ b c. held.entry 3 (held.along 3 (cubic_of f n)) (b ∷ c ∷ []);
  cube = λ b c d. held.entry 3 (held.along 3 (cubic_of f n)) (b ∷ c ∷ d ∷ []);
}

-- the table of differences of a coefficient table, and back
unfoldable pub cubic_differences : ℕ → ℕ → List ℕ → List ℕ
cubic_differences n m c = cubic_words n m (λ e. table_cubic n (cubic_at n c e))

unfoldable pub cubic_coefficients : ℕ → ℕ → List ℕ → List ℕ
cubic_coefficients n m t = cubic_words n m (λ e. back_cubic n (cubic_at n t e))

-- the value of each equation of a coefficient table at point number x
unfoldable pub cubic_values : ℕ → ℕ → List ℕ → ℕ → Vector
cubic_values n m c x = of_trits m (λ e. cubic_of (cubic_at n c e) n (digit 3 x))

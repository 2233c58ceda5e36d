-- The products of three of a word table in brackets, and what they are in a table of differences and back.
use Rattle.std.specs.Prelude.{◌≡◌, List, ℕ, zero, suc, ◌+◌, ◌*◌, ◌≤◌, ◌<◌}
use Rattle.residues.specs.Sums.{same}
use Rattle.trits.specs.Trit.{trit}
use Rattle.tables.specs.Monomials.{count_of}
use Rattle.tables.specs.Words.{entry}
use Rattle.cubics.specs.Triples.{Triples, prev3, low3, high3}
use Rattle.cubic_tables.specs.Order.{triple_index}
use Rattle.cubic_tables.specs.Words.{CubicTable}

-- the entries of equation e as they stand
unfoldable pub entries_at : ℕ → List ℕ → ℕ → Triples
entries_at n t e = record { two = λ b d. trit (entry t (triple_index n b b d)) e; all = λ b c d. trit (entry t (triple_index n b c d)) e }

-- the brackets of equation e: twice the coefficient where two unknowns are the same
unfoldable pub brackets_at : ℕ → List ℕ → ℕ → Triples
brackets_at n t e = record {
  two = λ b k. 2 * trit (entry t (triple_index n b b k)) e;
  all = λ b c k. elim (same c k) [ zero ↦ trit (entry t (triple_index n b c k)) e | suc s ↦ 2 * trit (entry t (triple_index n b c k)) e ];
}

-- the number of b, c, d
unfoldable pub cell_of : Triples → ℕ → ℕ → ℕ → ℕ
cell_of t b c d = elim (same b c) [ zero ↦ t.all b c d | suc s ↦ t.two b d ]

-- the coefficient of b, c, d from the entries e of the differences and the brackets t of the coefficients before it
unfoldable pub back_cell : Triples → Triples → ℕ → ℕ → ℕ → ℕ
back_cell t e b c d = elim (same b c) [
  | zero ↦ elim (same c d) [
    | zero ↦ e.all b c d + 2 * e.all b c c + low3 t b c + 2 * (t.two b d + prev3 t b d)
    | suc s ↦ 2 * (e.all b c d + low3 t b c + 2 * (t.two b d + prev3 t b d))
  ]
  | suc s ↦ 2 * (e.two b d + prev3 t b d + 2 * prev3 t b b)
]

-- what the products of three add to the differences of xb, and of xb·xc
unfoldable pub extra_single : Triples → ℕ → ℕ
extra_single t zero = 0
extra_single t (suc a) = prev3 t (suc a) (suc a) + 2 * t.two a (suc a)

unfoldable pub extra_pair : Triples → ℕ → ℕ → ℕ
extra_pair t b c = elim (same b c) [ zero ↦ 2 * (high3 t b c c + low3 t b c) | suc s ↦ 2 * prev3 t b b ]

-- the products of three before number k stand in t as they do in the legal table g
pub record Known (n m : ℕ) (g : List ℕ) (k : ℕ) (t : List ℕ) : Type 0 where
  pub table : CubicTable n m g
  pub same : (j : ℕ) → count_of n ≤ j → j < k → entry t j ≡ entry g j

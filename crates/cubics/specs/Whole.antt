-- The way back from a cubic table over F3. A table is a `Cubic` too: the entries of no position, one, two and three.
use Rattle.std.specs.Prelude.{ℕ, zero, suc, ◌+◌, ◌*◌, [], ◌∷◌}
use Rattle.residues.specs.Sums.{same}
use Rattle.polynomials.specs.Poly.{Poly, back_of}
use Rattle.held.specs.Held.{entry, along}
use Rattle.cubics.specs.Cubic.{Cubic, cubes_of}
use Rattle.cubics.specs.Triples.{Triples, back_of3}

-- coefficients from brackets: 2 is 1 / 2, and x³ is x
unfoldable pub cubes_from : Triples → ℕ → ℕ → ℕ → ℕ
cubes_from t i j k = elim (same i j) [
  | zero ↦ elim (same j k) [ zero ↦ t.all i j k | suc s ↦ 2 * t.all i j j ]
  | suc s ↦ elim (same j k) [ zero ↦ 2 * t.two i k | suc u ↦ 0 ]
]

abbrev pub entries_of : Cubic → Triples
entries_of t = record { two = λ b d. t.cube b b d; all = t.cube }

-- the cubes alone
abbrev pub cubes_back : Cubic → Cubic
cubes_back t = record { const = 0; lin = λ i. 0; quad = λ i j. 0; cube = cubes_from (back_of3 (entries_of t)) }

-- the table of the part of degree 2: what the cubes add is taken off
abbrev pub low_table : ℕ → Cubic → Poly
low_table n t = record {
  const = t.const;
  lin = λ b. t.lin b + 2 * entry 3 (along 3 (cubes_of (cubes_back t) n)) (b ∷ []);
  quad = λ b c. t.quad b c + 2 * entry 3 (along 3 (cubes_of (cubes_back t) n)) (b ∷ c ∷ []);
}

-- the system of the table t
unfoldable pub back_cubic : ℕ → Cubic → Cubic
back_cubic n t = record {
  const = (back_of 3 2 (low_table n t)).const;
  lin = (back_of 3 2 (low_table n t)).lin;
  quad = (back_of 3 2 (low_table n t)).quad;
  cube = (cubes_back t).cube;
}

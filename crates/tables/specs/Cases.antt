-- Document 01's starred cases of tables: the edge equation x0² + x0 x1 + x1² + 2 at n = 2.
use Rattle.std.specs.Prelude.{◌≡◌, List, [], ◌∷◌, map, ℕ, ℤ, pos}
use Rattle.trits.specs.Trit.{trit}
use Rattle.tables.specs.Words.{entry, packed, differences_of, coefficients_of}

-- its row of signed numbers
unfoldable pub edge_row : List ℤ
edge_row = pos 2 ∷ pos 0 ∷ pos 0 ∷ pos 1 ∷ pos 1 ∷ pos 1 ∷ []

-- the trits of equation 0 of a table of 6 entries
unfoldable pub trits : List ℕ → List ℕ
trits t = map (λ k. trit (entry t k) 0) (0 ∷ 1 ∷ 2 ∷ 3 ∷ 4 ∷ 5 ∷ [])

pub record Starred : Type 0 where
  pub coefficients : trits (packed 2 1 edge_row) ≡ 2 ∷ 0 ∷ 0 ∷ 1 ∷ 1 ∷ 1 ∷ []
  pub differences : trits (differences_of 2 1 (packed 2 1 edge_row)) ≡ 2 ∷ 1 ∷ 0 ∷ 2 ∷ 0 ∷ 1 ∷ []
  pub words : differences_of 2 1 (packed 2 1 edge_row) ≡ 1 ∷ 1 ∷ 1 ∷ 0 ∷ 0 ∷ 0 ∷ 1 ∷ 1 ∷ 0 ∷ 0 ∷ 1 ∷ 0 ∷ []
  pub back : coefficients_of 2 1 (1 ∷ 1 ∷ 1 ∷ 0 ∷ 0 ∷ 0 ∷ 1 ∷ 1 ∷ 0 ∷ 0 ∷ 1 ∷ 0 ∷ []) ≡ packed 2 1 edge_row

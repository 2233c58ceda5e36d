-- What the parts of the slots give: for the code alone; a reader goes by specs/Slots.
use Rattle.std.specs.Prelude.{[], ◌∷◌, ℕ, ◌+◌, ◌*◌}
use Rattle.residues.specs.Sums.{sum}
use Rattle.held.specs.Visits.{gathered, visits}
use Rattle.cubics.specs.Cubic.{Cubic}

-- of a table f the entry of b, c, and those of b, c and each unknown, each as often as it was added to slot b up to place q
unfoldable pub row_to : Cubic → ℕ → ℕ → ℕ → ℕ → ℕ
row_to f n b c q = visits 3 (b ∷ c ∷ []) q * f.quad b c + sum n (λ d. gathered 3 (b ∷ c ∷ []) (visits 3 (b ∷ c ∷ d ∷ [])) q * f.cube b c d)

-- the entry of b, and the rows of b and each unknown below c
unfoldable pub slot_to : Cubic → ℕ → ℕ → ℕ → ℕ → ℕ
slot_to f n b q c = f.lin b + sum c (λ k. row_to f n b k q)

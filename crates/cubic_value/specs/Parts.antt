-- What the parts of the value give: for the code alone; a reader goes by the contract of value_after.
use Rattle.std.specs.Prelude.{[], ◌∷◌, ℕ, ◌+◌, ◌*◌}
use Rattle.residues.specs.Sums.{sum}
use Rattle.held.specs.Visits.{gathered, visits}
use Rattle.cubics.specs.Cubic.{Cubic}

-- of a table f the entry of b, c, and those of b, c and each unknown, each as often as it has come to the value up to place q
unfoldable pub pair_to : Cubic → ℕ → ℕ → ℕ → ℕ → ℕ
pair_to f n b c q = gathered 3 (b ∷ []) (visits 3 (b ∷ c ∷ [])) q * f.quad b c + sum n (λ d. gathered 3 (b ∷ []) (gathered 3 (b ∷ c ∷ []) (visits 3 (b ∷ c ∷ d ∷ []))) q * f.cube b c d)

-- the same entries, as often as those of c, and of c and each unknown, have come to it
unfoldable pub later_to : Cubic → ℕ → ℕ → ℕ → ℕ → ℕ
later_to f n b c q = visits 3 (c ∷ []) q * f.quad b c + sum n (λ d. gathered 3 (c ∷ []) (visits 3 (c ∷ d ∷ [])) q * f.cube b c d)

-- the entry of b, and all that begin with b
unfoldable pub part_to : Cubic → ℕ → ℕ → ℕ → ℕ
part_to f n b q = visits 3 (b ∷ []) q * f.lin b + sum n (λ c. pair_to f n b c q)

-- the constant, and all that begin with an unknown below b
unfoldable pub value_to : Cubic → ℕ → ℕ → ℕ → ℕ
value_to f n q b = f.const + sum b (λ k. part_to f n k q)

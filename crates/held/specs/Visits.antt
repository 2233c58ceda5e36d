-- Counting places by their first positions: for proofs and for code that opens a record; what is held is said in specs/Held.
use Rattle.std.specs.Prelude.{true, false, List, ℕ, zero, suc, ◌+◌}
use Rattle.positions.specs.Positions.{positions}
use Rattle.held.specs.Held.{begins}

-- the sum of h over those of the places 1 to p that begin with L
unfoldable pub gathered : ℕ → List ℕ → (ℕ → ℕ) → ℕ → ℕ
gathered q L h zero = 0
gathered q L h (suc p) = elim (begins L (positions q (suc p))) [ true ↦ gathered q L h p + h (suc p) | false ↦ gathered q L h p ]

-- how many of them there are
unfoldable pub visits : ℕ → List ℕ → ℕ → ℕ
visits q L p = gathered q L (λ u. 1) p

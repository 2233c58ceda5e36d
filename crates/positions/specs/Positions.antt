-- Positions of a number in base q: which digit moves, and when a digit moved last.
use Rattle.std.specs.Prelude.{List, [], ◌∷◌, ℕ, zero, suc, ◌+◌, ◌-◌, ◌*◌, ◌/◌, ◌%◌, ◌^◌}
use Rattle.residues.specs.Sums.{same}

-- the position of the lowest nonzero digit of p, for p above 0; the second argument bounds how far to look
unfoldable pub lowest_in : ℕ → ℕ → ℕ → ℕ
lowest_in q zero p = 0
lowest_in q (suc k) p = elim (p % q) [ zero ↦ suc (lowest_in q k (p / q)) | suc d ↦ 0 ]

unfoldable pub lowest_of : ℕ → ℕ → ℕ
lowest_of q p = lowest_in q p p

-- the positions of p: that of its lowest nonzero digit, then those of p less q to that position
unfoldable pub positions_in : ℕ → ℕ → ℕ → List ℕ
positions_in q zero p = []
positions_in q (suc k) zero = []
positions_in q (suc k) (suc r) = lowest_of q (suc r) ∷ positions_in q k (suc r - q ^ lowest_of q (suc r))

unfoldable pub positions : ℕ → ℕ → List ℕ
positions q p = positions_in q p p

-- d times the position l, before ps
unfoldable pub reps : ℕ → ℕ → List ℕ → List ℕ
reps zero l ps = ps
reps (suc d) l ps = l ∷ reps d l ps

-- the latest place up to p at which unknown b moves, or the first of all
unfoldable pub latest : ℕ → ℕ → ℕ → ℕ
latest q b zero = q ^ b
latest q b (suc p) = elim (same b (lowest_of q (suc p))) [ zero ↦ latest q b p | suc s ↦ suc p ]

-- the place just before q ^ b * suc y, by digits: those of y, and b digits q - 1 below them
unfoldable pub before : ℕ → ℕ → ℕ → ℕ
before q zero y = y
before q (suc b) y = q * before q b y + (q - 1)

-- the y of the latest move of b, from x, the place less its b lowest digits
unfoldable pub last_of : ℕ → ℕ → ℕ
last_of q x = elim (x % q) [ zero ↦ x - 2 | suc d ↦ x - 1 ]

-- What a place costs in a walk, in additions.
use Rattle.std.specs.Prelude.{ℕ, ◌^◌, min, length}
use Rattle.positions.specs.Positions.{positions}
use Rattle.residues.specs.Sums.{sum}

-- the additions of place p in base q and degree d: one for each position of p, at most d
-- (in degree 2: none at place 0, one at a power of q, two elsewhere)
unfoldable pub cost_of : ℕ → ℕ → ℕ → ℕ
cost_of q d p = min d (length (positions q p))

-- those of all places of n digits
unfoldable pub cost_all : ℕ → ℕ → ℕ → ℕ
cost_all q d n = sum (q ^ n) (cost_of q d)

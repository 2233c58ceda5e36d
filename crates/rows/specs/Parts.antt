-- A table into which a part of one row is packed.
use Rattle.std.specs.Prelude.{◌≡◌, List, ℕ, ◌≤◌, ◌<◌, ℤ, pos, length, get_or}
use Rattle.residues.specs.Residue.{floor_mod}
use Rattle.trits.specs.Words.{Put}
use Rattle.tables.specs.Words.{entry}

-- new is old with the remainders of the first k numbers of a row as trit e of the first k entries
pub record RowPacked (row : List ℤ) (e k : ℕ) (old new : List ℕ) : Type 0 where
  pub size : length new ≡ length old
  pub packed : (j : ℕ) → j < k → Put (entry old j) e (floor_mod 3 (get_or row j (pos 0))) (entry new j)
  pub kept : (j : ℕ) → k ≤ j → entry new j ≡ entry old j

-- What the parts of the code say: for the code alone; a reader goes by specs/Listed.
use Rattle.std.specs.Prelude.{Bool, true, false, ◌≡◌, ◌⊎◌, ℕ, ◌<◌, Ok, Err}
use Rattle.walks.specs.declared.Report.{Report}
use Rattle.walks.specs.declared.Stop.TheVariants.{Ended}
use Rattle.outcomes.specs.Search.{Answer}

-- what a call did: nothing where it was refused
abbrev pub did_of : Answer → Report
did_of (Ok r) = r
did_of (Err f) = record { stop = Ended; points = 0; additions = 0; found = 0 }

-- what the test says of whether there is a next piece
pub record GoesOn (place end left room : ℕ) (r : Bool) : Type 0 where
  pub on : r ≡ true → (place ≡ end → ⊥) × (0 < left) × (0 < room)
  pub off : r ≡ false → (place ≡ end) ⊎ (left ≡ 0) ⊎ (room ≡ 0)

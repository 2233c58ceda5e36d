-- What is worked out for the record of a cubic table: for the code alone; a reader goes by given/specs/Slots.
use Rattle.std.specs.Prelude.{◌≡◌, ℕ}
use Rattle.given.specs.Given.{Given}
use Rattle.given.specs.Slots.{value_at, slots_at, seconds_at}
use Rattle.cubic_opening.specs.declared.Stood.{Stood}

-- value, slots and second slots after place q
pub record At (g : Given) (q : ℕ) (r : Stood) : Type 0 where
  pub value : r.value ≡ value_at g q
  pub slots : r.slots ≡ slots_at g q 0 20
  pub seconds : r.seconds ≡ seconds_at g q 0 20

-- A record that fits a table is the one opened at its place.
use mathlib.Core.Path.{◌≡◌}
use mathlib.Core.Bool.{true}
use Prim.Native.Nat.{◌^◌, ◌≤◌}
use lib.Dec.{leb}
use borrow.Author.Tests.{leb-true}
use Rattle.trits.proofs.Bits.{and_left, and_right}
use Rattle.given.specs.Given.{Given}
use Rattle.opening.specs.declared.Record.{Record}
use Rattle.opening.specs.Opened.{opened_at}
use Rattle.outcomes.specs.Search.{same_record, fits}
use Rattle.outcomes.proofs.RecordLaw.{record_same}

module _ (g : Given) where
  pub fits_place : (r : Record) → fits g r ≡ true → r.place.0 ≤ 3 ^ g.n
  fits_place r h = leb-true _ _ (and_left (leb r.place.0 (3 ^ g.n)) (same_record r (opened_at g r.place.0)) h)

  pub fits_opened : (r : Record) → fits g r ≡ true → r ≡ opened_at g r.place.0
  fits_opened r h = record_same r (opened_at g r.place.0) (and_right (leb r.place.0 (3 ^ g.n)) (same_record r (opened_at g r.place.0)) h)

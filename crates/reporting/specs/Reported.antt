-- What is reported of a walk: for the code alone; a reader goes by outcomes/specs/Search.
use Rattle.std.specs.Prelude.{ℕ, ◌-◌, Ok}
use Rattle.walks.specs.Calls.{stop_from}
use Rattle.outcomes.specs.declared.Moved.{Moved}
use Rattle.walking.specs.declared.Went.{Went}

-- the answer of a walk from place p up to place e, with a list of c entries
abbrev pub reported_of : ℕ → ℕ → ℕ → Went → Moved
reported_of p e c w =
    record {
      answer = Ok (record { stop = stop_from w.first.place.0 e w.found c; points = w.first.place.0 - p; additions = w.additions; found = w.found });
      first = w.first;
    }

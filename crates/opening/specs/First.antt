-- A record in two parts: all but the second slots, and the words that are lent for these.
use Rattle.std.specs.Prelude.{Bool, true, ◌&&◌, List, [], ◌∷◌, ℕ, eqb, replicate}
use Rattle.given.specs.declared.Degree.{Degree}
use Rattle.given.specs.declared.Degree.TheVariants.{Two, Three}
use Rattle.opening.specs.declared.First.{First}
use Rattle.opening.specs.declared.Record.{Record}

-- whether numbers are all zero
unfoldable pub all_zero : List ℕ → Bool
all_zero [] = true
all_zero (x ∷ xs) = eqb x 0 && all_zero xs

-- how many words are lent for second slots: in degree 2 none, for there they are all zero
abbrev pub lent_words : Degree → ℕ
lent_words Two = 0
lent_words Three = 420

-- the second slots for which the words s are lent
abbrev pub seconds_from : Degree → List ℕ → List ℕ
seconds_from Two s = replicate 420 0
seconds_from Three s = s

-- the first part of a record, and the record of a first part and of the words lent
abbrev pub first_of : Record → First
first_of r = record { n = r.n; m = r.m; place = r.place; value = r.value; slots = r.slots }

abbrev pub whole_of : Degree → First → List ℕ → Record
whole_of d f s = record { n = f.n; m = f.m; place = f.place; value = f.value; slots = f.slots; seconds = seconds_from d s }

-- a first part with second slots
abbrev pub with_seconds : First → List ℕ → Record
with_seconds f s = record { n = f.n; m = f.m; place = f.place; value = f.value; slots = f.slots; seconds = s }

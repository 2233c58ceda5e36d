-- What the conversions answer, in document 01's numbers and values.
use Rattle.std.specs.Prelude.{List, [], ◌∷◌, ℕ, ◌^◌, leb, Ok, Err, Result}
use Rattle.refusals.specs.declared.Refusal.{Refusal}
use Rattle.refusals.specs.declared.Refusal.TheVariants.{Range}
use Rattle.gray.specs.declared.Point.{Point}
use Rattle.gray.specs.declared.Place.{Place}
use Rattle.refusals.specs.Refusal.{Verdict, number_of, refuse, sized_unknowns, done}

-- a point, or a place, or why there is none
abbrev pub PointAnswer : Type 0
PointAnswer = Result Point Refusal

abbrev pub PlaceAnswer : Type 0
PlaceAnswer = Result Place Refusal

-- whether place or point x of n unknowns is converted: refusal 1, then 4 at 3 to the n or more
abbrev pub convert_verdict : ℕ → ℕ → Verdict
convert_verdict n x = sized_unknowns n (refuse (leb (3 ^ n) x) Range done)

-- the answer: the value, or the refusal alone
abbrev pub point_from : Verdict → ℕ → PointAnswer
point_from (Ok _) x = Ok (record { 0 = x })
point_from (Err r) x = Err r

abbrev pub place_from : Verdict → ℕ → PlaceAnswer
place_from (Ok _) p = Ok (record { 0 = p })
place_from (Err r) p = Err r

-- document 01's number and values of each answer: 0 and the value, or the refusal's number and no value
abbrev pub told : {A : Type 0} → Verdict → A → ℕ × List A
told (Ok _) value = (0, value ∷ [])
told (Err r) value = (number_of r, [])

abbrev pub point_told : PointAnswer → ℕ × List ℕ
point_told (Ok x) = (0, x.0 ∷ [])
point_told (Err r) = (number_of r, [])

abbrev pub place_told : PlaceAnswer → ℕ × List ℕ
place_told (Ok p) = (0, p.0 ∷ [])
place_told (Err r) = (number_of r, [])

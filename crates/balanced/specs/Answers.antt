-- What the conversions of balanced numbers answer, in document 01's numbers and values.
use Rattle.std.specs.Prelude.{List, [], ◌∷◌, ℕ, ℤ, pos, neg_ℤ, Ok, Err, Result}
use Rattle.std.specs.Int.Signed.{lt_z}
use Rattle.refusals.specs.declared.Refusal.{Refusal}
use Rattle.refusals.specs.declared.Refusal.TheVariants.{Range}
use Rattle.refusals.specs.Refusal.{Verdict, number_of, refuse, sized_unknowns, done}
use Rattle.balanced.specs.Balanced.{half_of}

-- a balanced number, or why there is none
abbrev pub BalancedAnswer : Type 0
BalancedAnswer = Result ℤ Refusal

-- whether balanced number y is converted: refusal 1, then 4 outside its ends
abbrev pub balanced_verdict : ℕ → ℤ → Verdict
balanced_verdict n y = sized_unknowns n (refuse (lt_z y (neg_ℤ (pos (half_of n)))) Range (refuse (lt_z (pos (half_of n)) y) Range done))

-- the answer: the value, or the refusal alone
abbrev pub balanced_from : Verdict → ℤ → BalancedAnswer
balanced_from (Ok _) y = Ok y
balanced_from (Err r) y = Err r

-- document 01's number and values of each answer
abbrev pub balanced_told : BalancedAnswer → ℕ × List ℤ
balanced_told (Ok y) = (0, y ∷ [])
balanced_told (Err r) = (number_of r, [])

-- Lent words: the questions before they are written, and what is left in them by each answer.
use Rattle.std.specs.Prelude.{not, List, [], ◌∷◌, ℕ, eqb, ℤ, Ok, Err, Result}
use Rattle.refusals.specs.declared.Refusal.{Refusal}
use Rattle.refusals.specs.declared.Refusal.TheVariants.{Length}
use Rattle.refusals.specs.Refusal.{Verdict}
use Rattle.refusals.specs.Refusal.{done, refuse, sized, sized_unknowns}
use Rattle.trits.specs.declared.Vector.{Vector}
use Rattle.gray.specs.Answers.{PointAnswer}
use Rattle.gray.specs.Answers.{PlaceAnswer}
use Rattle.balanced.specs.Answers.{BalancedAnswer}
use Rattle.tables.specs.Answers.{Evaluated}
use Rattle.tables.specs.Answers.{evaluated_words}

-- 1, then 2 of a result that has count entries and is to have wanted, then v
abbrev pub room : ℕ → ℕ → ℕ → ℕ → Verdict → Verdict
room n m count wanted v = sized n m (refuse (not (eqb count wanted)) Length v)

-- the same where no m is given, and one entry is wanted
abbrev pub single : ℕ → ℕ → Verdict → Verdict
single n count v = sized_unknowns n (refuse (not (eqb count 1)) Length v)

-- whether an answer is a value, or why it is none
abbrev pub judged : {A : Type 0} → Result A Refusal → Verdict
judged (Ok _) = done
judged (Err r) = Err r

-- what each answer leaves in them; its number is in gray/specs/Answers, balanced/specs/Answers and tables/specs/Answers
abbrev pub point_put : PointAnswer → List ℕ → List ℕ
point_put (Ok x) old = x.0 ∷ []
point_put (Err r) old = old

abbrev pub place_put : PlaceAnswer → List ℕ → List ℕ
place_put (Ok p) old = p.0 ∷ []
place_put (Err r) old = old

abbrev pub balanced_put : BalancedAnswer → List ℤ → List ℤ
balanced_put (Ok y) old = y ∷ []
balanced_put (Err r) old = old

abbrev pub vector_words : Vector → List ℕ
vector_words v = evaluated_words (Ok v)

abbrev pub value_put : Evaluated → List ℕ → List ℕ
value_put (Ok v) old = vector_words v
value_put (Err r) old = old

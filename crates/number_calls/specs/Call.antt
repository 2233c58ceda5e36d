-- What the conversions into lent words give: document 01's number, and the words after, which a refusal leaves as they were.
use Rattle.std.specs.Prelude.{List, [], ◌∷◌, ℕ, ℤ, length}
use Rattle.refusals.specs.Refusal.{Verdict}
use Rattle.refusals.specs.Refusal.{after}
use Rattle.gray.specs.Numbers.{point_of, place_of}
use Rattle.gray.specs.Answers.{convert_verdict}
use Rattle.balanced.specs.Balanced.{balanced_of, unbalanced_of}
use Rattle.balanced.specs.Answers.{balanced_verdict}
use Rattle.lent.specs.Lent.{single}

-- the conversions, into one word or one signed number
abbrev pub convert_call : ℕ → ℕ → ℕ → Verdict
convert_call n x count = single n count (convert_verdict n x)

abbrev pub point_after : ℕ → ℕ → List ℕ → List ℕ
point_after n p old = after (convert_call n p (length old)) old (point_of 3 n p ∷ [])

abbrev pub place_after : ℕ → ℕ → List ℕ → List ℕ
place_after n x old = after (convert_call n x (length old)) old (place_of 3 n x ∷ [])

abbrev pub balanced_after : ℕ → ℕ → List ℤ → List ℤ
balanced_after n x old = after (convert_call n x (length old)) old (balanced_of n x ∷ [])

abbrev pub unbalanced_call : ℕ → ℤ → ℕ → Verdict
unbalanced_call n y count = single n count (balanced_verdict n y)

abbrev pub unbalanced_after : ℕ → ℤ → List ℕ → List ℕ
unbalanced_after n y old = after (unbalanced_call n y (length old)) old (unbalanced_of n y ∷ [])

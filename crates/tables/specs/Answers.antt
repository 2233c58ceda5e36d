-- What each operation on tables answers, and what it leaves in the table that it was lent. Refusals in document 01's order.
use Rattle.std.specs.Prelude.{◌≡◌, not, List, [], ◌∷◌, ℕ, ◌*◌, ◌^◌, ◌<◌, eqb, ltb, leb, ℤ, length, Ok, Err, Result}
use Rattle.refusals.specs.declared.Refusal.{Refusal}
use Rattle.refusals.specs.declared.Refusal.TheVariants.{Length, Pair, Range}
use Rattle.refusals.specs.Refusal.{Verdict, number_of, code_of, refuse, sized, after, done}
use Rattle.refusals.specs.Limits.{Within}
use Rattle.trits.specs.declared.Vector.{Vector}
use Rattle.trits.specs.Trit.{Legal}
use Rattle.tables.specs.Monomials.{count_of}
use Rattle.tables.specs.Words.{entry, Entries, legal_front, packed, differences_of, coefficients_of, values_at}

-- the value of each equation at a point, or why there is none
abbrev pub Evaluated : Type 0
Evaluated = Result Vector Refusal

-- refusal 2: a table of N entries, of n unknowns, is not of its exact length
abbrev pub long_of : ℕ → List ℕ → Verdict → Verdict
long_of N t v = refuse (not (eqb (length t) (2 * N))) Length v

abbrev pub long : ℕ → List ℕ → Verdict → Verdict
long n t v = long_of (count_of n) t v

-- refusal 3: an illegal pair, with the number of the first
abbrev pub paired_of : ℕ → ℕ → List ℕ → Verdict → Verdict
paired_of N m t v = refuse (ltb (legal_front m t) N) (Pair (legal_front m t)) v

abbrev pub paired : ℕ → ℕ → List ℕ → Verdict → Verdict
paired n m t v = paired_of (count_of n) m t v

-- what is asked of a table of N entries and n unknowns, and then v
abbrev pub checked_then : ℕ → ℕ → ℕ → List ℕ → Verdict → Verdict
checked_then N n m t v = sized n m (long_of N t (paired_of N m t v))

-- a word table by itself
abbrev pub checked_of : ℕ → ℕ → List ℕ → Verdict
checked_of n m t = checked_then (count_of n) n m t done

-- what it has to be, in document 01's words: n and m within their limits, of the exact length, every pair legal
pub record AcceptedOf (N n m : ℕ) (t : List ℕ) : Type 0 where
  pub sizes : Within n m
  pub table : Entries N m t

abbrev pub Accepted : ℕ → ℕ → List ℕ → Type 0
Accepted n m t = AcceptedOf (count_of n) n m t

-- entry k of a table of N entries is its first illegal one
pub record FirstIllegalOf (N m : ℕ) (t : List ℕ) (k : ℕ) : Type 0 where
  pub inside : k < N
  pub before : (j : ℕ) → j < k → Legal m (entry t j)
  pub itself : Legal m (entry t k) → ⊥

abbrev pub FirstIllegal : ℕ → ℕ → List ℕ → ℕ → Type 0
FirstIllegal n m t k = FirstIllegalOf (count_of n) m t k

-- signed rows of N numbers into a table of N entries, and of n unknowns
abbrev pub rows_verdict : ℕ → ℕ → List ℤ → List ℕ → Verdict
rows_verdict N m rows t = refuse (not (eqb (length rows) (m * N))) Length (long_of N t done)

abbrev pub pack_verdict : ℕ → ℕ → List ℤ → List ℕ → Verdict
pack_verdict n m rows t = sized n m (rows_verdict (count_of n) m rows t)

abbrev pub pack_after : ℕ → ℕ → List ℤ → List ℕ → List ℕ
pack_after n m rows t = after (pack_verdict n m rows t) t (packed n m rows)

-- from one table into another, of N entries each, and of n unknowns
abbrev pub entries_verdict : ℕ → ℕ → List ℕ → List ℕ → Verdict
entries_verdict N m from to = long_of N from (long_of N to (paired_of N m from done))

abbrev pub copy_verdict : ℕ → ℕ → List ℕ → List ℕ → Verdict
copy_verdict n m from to = sized n m (entries_verdict (count_of n) m from to)

abbrev pub differences_after : ℕ → ℕ → List ℕ → List ℕ → List ℕ
differences_after n m c t = after (copy_verdict n m c t) t (differences_of n m c)

abbrev pub coefficients_after : ℕ → ℕ → List ℕ → List ℕ → List ℕ
coefficients_after n m t c = after (copy_verdict n m t c) c (coefficients_of n m t)

-- evaluation of a table of N entries at a point, and of n unknowns
abbrev pub point_verdict : ℕ → ℕ → ℕ → List ℕ → ℕ → Verdict
point_verdict N n m c x = checked_then N n m c (refuse (leb (3 ^ n) x) Range done)

abbrev pub evaluate_verdict : ℕ → ℕ → List ℕ → ℕ → Verdict
evaluate_verdict n m c x = point_verdict (count_of n) n m c x

-- the value where nothing is refused
abbrev pub valued : Verdict → Vector → Evaluated
valued (Ok _) v = Ok v
valued (Err r) v = Err r

abbrev pub evaluate_of : ℕ → ℕ → List ℕ → ℕ → Evaluated
evaluate_of n m c x = valued (evaluate_verdict n m c x) (values_at n m c x)

-- document 01's number of each answer: 0 for a value
abbrev pub evaluated_code : Evaluated → ℕ
evaluated_code (Ok v) = 0
evaluated_code (Err r) = number_of r

-- and its values: high and low word, or none
abbrev pub evaluated_words : Evaluated → List ℕ
evaluated_words (Ok v) = v.high ∷ v.low ∷ []
evaluated_words (Err r) = []

abbrev pub words_from : Verdict → Vector → List ℕ
words_from (Ok _) v = v.high ∷ v.low ∷ []
words_from (Err r) v = []

-- what an evaluation with this verdict and value has to tell by them
pub record TellsOf (u : Verdict) (v : Vector) (r : Evaluated) : Type 0 where
  pub number : evaluated_code r ≡ code_of u
  pub values : evaluated_words r ≡ words_from u v

abbrev pub Tells : ℕ → ℕ → List ℕ → ℕ → Evaluated → Type 0
Tells n m c x r = TellsOf (evaluate_verdict n m c x) (values_at n m c x) r

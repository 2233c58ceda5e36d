-- What the operations on tables of either degree answer and leave, by the degree that is told.
use Rattle.std.specs.Prelude.{List, ℕ, ℤ}
use Rattle.refusals.specs.Refusal.{Verdict}
use Rattle.trits.specs.declared.Vector.{Vector}
use Rattle.tables.specs.Words.{values_at}
use Rattle.tables.specs.Answers.{Evaluated}
use Rattle.tables.specs.Answers.{pack_verdict, pack_after, copy_verdict, differences_after, coefficients_after, evaluate_verdict, valued, TellsOf}
use Rattle.cubic_tables.specs.Words.{cubic_values}
use Rattle.cubic_tables.specs.Answers.{cubic_pack_verdict, cubic_pack_after, cubic_copy, cubic_differences_after, cubic_coefficients_after, cubic_evaluate_verdict}
use Rattle.given.specs.declared.Degree.{Degree}
use Rattle.given.specs.declared.Degree.TheVariants.{Two, Three}
use Rattle.given.specs.Given.{Given}

-- signed rows into a table
abbrev pub packing : Degree → ℕ → ℕ → List ℤ → List ℕ → Verdict
packing Two n m rows t = pack_verdict n m rows t
packing Three n m rows t = cubic_pack_verdict n m rows t

abbrev pub packed_into : Degree → ℕ → ℕ → List ℤ → List ℕ → List ℕ
packed_into Two n m rows t = pack_after n m rows t
packed_into Three n m rows t = cubic_pack_after n m rows t

-- from one table into another: differences, and back
abbrev pub copying : Degree → ℕ → ℕ → List ℕ → List ℕ → Verdict
copying Two n m from to = copy_verdict n m from to
copying Three n m from to = cubic_copy n m from to

abbrev pub differences_into : Degree → ℕ → ℕ → List ℕ → List ℕ → List ℕ
differences_into Two n m c t = differences_after n m c t
differences_into Three n m c t = cubic_differences_after n m c t

abbrev pub coefficients_into : Degree → ℕ → ℕ → List ℕ → List ℕ → List ℕ
coefficients_into Two n m t c = coefficients_after n m t c
coefficients_into Three n m t c = cubic_coefficients_after n m t c

-- evaluation at a point
abbrev pub evaluating : Degree → ℕ → ℕ → List ℕ → ℕ → Verdict
evaluating Two n m c x = evaluate_verdict n m c x
evaluating Three n m c x = cubic_evaluate_verdict n m c x

abbrev pub value_in : Degree → ℕ → ℕ → List ℕ → ℕ → Vector
value_in Two n m c x = values_at n m c x
value_in Three n m c x = cubic_values n m c x

abbrev pub evaluated_in : Degree → ℕ → ℕ → List ℕ → ℕ → Evaluated
evaluated_in d n m c x = valued (evaluating d n m c x) (value_in d n m c x)

-- what it has to tell
abbrev pub TellsIn : Degree → ℕ → ℕ → List ℕ → ℕ → Evaluated → Type 0
TellsIn d n m c x r = TellsOf (evaluating d n m c x) (value_in d n m c x) r

-- ---- the same, of a table as it is told
abbrev pub copying_told : Given → List ℕ → Verdict
copying_told g to = copying g.degree g.n g.m g.words to

abbrev pub differences_told : Given → List ℕ → List ℕ
differences_told g t = differences_into g.degree g.n g.m g.words t

abbrev pub coefficients_told : Given → List ℕ → List ℕ
coefficients_told g c = coefficients_into g.degree g.n g.m g.words c

abbrev pub evaluated_told : Given → ℕ → Evaluated
evaluated_told g x = evaluated_in g.degree g.n g.m g.words x

abbrev pub TellsTold : Given → ℕ → Evaluated → Type 0
TellsTold g x r = TellsIn g.degree g.n g.m g.words x r

-- What the operations on tables give where the length of a table tells its degree: document 01's number, and the words after, which a
-- refusal leaves as they were. For rows it is the table that is lent, from one table into another the first.
use Rattle.std.specs.Prelude.{List, ℕ, ℤ, length}
use Rattle.refusals.specs.Refusal.{Verdict, after, done}
use Rattle.given.specs.Given.{degree_told, table_told, table_verdict}
use Rattle.operations.specs.Operations.{packing, packed_into, copying, differences_into, coefficients_into, evaluating, value_in}
use Rattle.lent.specs.Lent.{room, vector_words}

-- a table by itself
abbrev pub check_call : ℕ → ℕ → List ℕ → Verdict
check_call n m t = table_verdict (table_told n m t) done

-- signed rows into a table
abbrev pub pack_call : ℕ → ℕ → List ℤ → List ℕ → Verdict
pack_call n m rows t = packing (degree_told n (length t)) n m rows t

abbrev pub pack_left : ℕ → ℕ → List ℤ → List ℕ → List ℕ
pack_left n m rows t = packed_into (degree_told n (length t)) n m rows t

-- from one table into another
abbrev pub copy_call : ℕ → ℕ → List ℕ → List ℕ → Verdict
copy_call n m from to = copying (degree_told n (length from)) n m from to

abbrev pub differences_left : ℕ → ℕ → List ℕ → List ℕ → List ℕ
differences_left n m c t = differences_into (degree_told n (length c)) n m c t

abbrev pub coefficients_left : ℕ → ℕ → List ℕ → List ℕ → List ℕ
coefficients_left n m t c = coefficients_into (degree_told n (length t)) n m t c

-- evaluation at a point, into two words
abbrev pub evaluate_call : ℕ → ℕ → List ℕ → ℕ → List ℕ → Verdict
evaluate_call n m c x value = room n m (length value) 2 (evaluating (degree_told n (length c)) n m c x)

abbrev pub evaluate_after : ℕ → ℕ → List ℕ → ℕ → List ℕ → List ℕ
evaluate_after n m c x value = after (evaluate_call n m c x value) value (vector_words (value_in (degree_told n (length c)) n m c x))

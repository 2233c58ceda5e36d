-- What the operations on cubic tables answer, and what they leave in the table that they were lent: as in degree 2, with the new lengths.
use Rattle.std.specs.Prelude.{List, ℕ, ℤ}
use Rattle.refusals.specs.Refusal.{Verdict, sized, after, done}
use Rattle.tables.specs.Answers.{Evaluated}
use Rattle.tables.specs.Answers.{checked_then, rows_verdict, entries_verdict, point_verdict, valued, TellsOf}
use Rattle.cubic_tables.specs.Order.{cubic_count}
use Rattle.cubic_tables.specs.Words.{cubic_packed, cubic_differences, cubic_coefficients, cubic_values}

-- a cubic word table by itself
abbrev pub cubic_checked : ℕ → ℕ → List ℕ → Verdict
cubic_checked n m t = checked_then (cubic_count n) n m t done

-- signed rows into a table
abbrev pub cubic_pack_verdict : ℕ → ℕ → List ℤ → List ℕ → Verdict
cubic_pack_verdict n m rows t = sized n m (rows_verdict (cubic_count n) m rows t)

abbrev pub cubic_pack_after : ℕ → ℕ → List ℤ → List ℕ → List ℕ
cubic_pack_after n m rows t = after (cubic_pack_verdict n m rows t) t (cubic_packed n m rows)

-- from one table into another
abbrev pub cubic_copy : ℕ → ℕ → List ℕ → List ℕ → Verdict
cubic_copy n m from to = sized n m (entries_verdict (cubic_count n) m from to)

abbrev pub cubic_differences_after : ℕ → ℕ → List ℕ → List ℕ → List ℕ
cubic_differences_after n m c t = after (cubic_copy n m c t) t (cubic_differences n m c)

abbrev pub cubic_coefficients_after : ℕ → ℕ → List ℕ → List ℕ → List ℕ
cubic_coefficients_after n m t c = after (cubic_copy n m t c) c (cubic_coefficients n m t)

-- evaluation at a point
abbrev pub cubic_evaluate_verdict : ℕ → ℕ → List ℕ → ℕ → Verdict
cubic_evaluate_verdict n m c x = point_verdict (cubic_count n) n m c x

abbrev pub cubic_evaluate : ℕ → ℕ → List ℕ → ℕ → Evaluated
cubic_evaluate n m c x = valued (cubic_evaluate_verdict n m c x) (cubic_values n m c x)

-- what it has to tell
abbrev pub CubicTells : ℕ → ℕ → List ℕ → ℕ → Evaluated → Type 0
CubicTells n m c x r = TellsOf (cubic_evaluate_verdict n m c x) (cubic_values n m c x) r

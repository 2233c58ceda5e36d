-- The entries of a legal cubic table hold its numbers.
use mathlib.Core.Path.{sym, ap}
use mathlib.Core.List.{List}
use Prim.Native.Nat.{ℕ, ◌+◌, ◌%◌, ◌≤◌, ◌<◌}
use native.Mathlib.Omega.{arith}
use Rattle.trits.specs.Trit.{trit, Holds}
use Rattle.trits.proofs.HoldLaw.{is_holds, holds_ext}
use Rattle.tables.specs.Monomials.{index_of}
use Rattle.tables.specs.Words.{entry}
use Rattle.tables.proofs.IndexLaw.{count_is, index_lt}
use Rattle.tables.proofs.VectorLaw.{of_self}
use Rattle.cubic_tables.specs.Order.{cubic_count, triple_index}
use Rattle.cubic_tables.specs.Words.{CubicTable, cubic_at}
use Rattle.cubic_tables.proofs.OrderLaw.{triple_lt, cubic_count_low}
use Rattle.cubic_tables.proofs.WordsLaw.{const_at, lin_at, quad_at, cube_at}

module _ (n m : ℕ) (t : List ℕ) (table : CubicTable n m t) where
  own : (k : ℕ) → k < cubic_count n → Holds m (trit (entry t k)) (entry t k)
  own k l = is_holds (of_self m (entry t k) (table.legal k l))

  pub const_holds : Holds m (λ e. (cubic_at n t e).const) (entry t 0)
  const_holds = holds_ext (λ e l. ap (λ (y : ℕ). y % 3) (sym (const_at n t e))) (own 0 (omega (arith, cubic_count_low n, count_is n)))

  pub lin_holds : (i : ℕ) → i < n → Holds m (λ e. (cubic_at n t e).lin i) (entry t (1 + i))
  lin_holds i h = holds_ext (λ e l. ap (λ (y : ℕ). y % 3) (sym (lin_at n t e i))) (own (1 + i) (omega (arith, cubic_count_low n, count_is n)))

  pub quad_holds : (i j : ℕ) → i ≤ j → j < n → Holds m (λ e. (cubic_at n t e).quad i j) (entry t (index_of n i j))
  quad_holds i j h k = holds_ext (λ e l. ap (λ (y : ℕ). y % 3) (sym (quad_at n t e i j))) (own (index_of n i j) (omega (arith, cubic_count_low n, index_lt n i j h k)))

  pub cube_holds : (i j k : ℕ) → i ≤ j → j ≤ k → i < k → k < n → Holds m (λ e. (cubic_at n t e).cube i j k) (entry t (triple_index n i j k))
  cube_holds i j k a b c d = holds_ext (λ e l. ap (λ (y : ℕ). y % 3) (sym (cube_at n t e i j k c))) (own (triple_index n i j k) (triple_lt n i j k a b c d))

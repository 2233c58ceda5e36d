use Prim.Native.Nat.{ℕ, ◌<◌}
use Rattle.trits.specs.Trit.{Legal}
use Rattle.tables.specs.Words.{entry}
use Rattle.checks.proofs.legal_front.Given as goal

abbrev pub invariant-loop-k : goal.invariant-loop-k
invariant-loop-k l = (j : ℕ) → j < l.k → Legal l.m (entry l.table j)

use Prim.Native.Nat.{ℕ}
use Rattle.tables.specs.Words.{Table, differences_of}
use Rattle.turns.specs.Parts.{Filled}
use Rattle.differences.proofs.differences_into.Given as goal

abbrev pub invariant-loop-i : goal.invariant-loop-i
invariant-loop-i l = (m : ℕ) → Table l.n m l.from → Filled (differences_of l.n m l.from) l.n l.i l.to

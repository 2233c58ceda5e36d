use mathlib.Core.List.{List}
use Prim.Native.Nat.{ℕ}
use Rattle.tables.specs.Monomials.{count_of}
use Rattle.tables.specs.Words.{Written}
use Rattle.cubic_tables.specs.Order.{triple_index}
use Rattle.cubic_tables.specs.Words.{CubicTable}
use Rattle.cubic_turns.specs.Parts.{Made}
use Rattle.cubic_turns.proofs.planes.Given as goal

abbrev pub invariant-loop-c : goal.invariant-loop-c
invariant-loop-c l = (m : ℕ) → (g old : List ℕ) → CubicTable l.n m l.from → CubicTable l.n m g → Made l.n m l.back l.from g → Written g (count_of l.n) (triple_index l.n l.b l.b l.b) old l.initial.to → Written g (count_of l.n) (triple_index l.n l.b l.c l.c) old l.to

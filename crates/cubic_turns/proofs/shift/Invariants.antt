use mathlib.Core.List.{List}
use Prim.Native.Nat.{ℕ, ◌+◌, ◌<◌}
use Rattle.trits.specs.Trit.{Legal}
use Rattle.tables.specs.Monomials.{count_of, index_of}
use Rattle.tables.specs.Words.{entry, Written}
use Rattle.cubic_tables.specs.Order.{cubic_count}
use Rattle.brackets.specs.Brackets.{Known}
use Rattle.cubic_turns.specs.Parts.{Shifted}
use Rattle.cubic_turns.proofs.shift.Given as goal

abbrev pub invariant-loop-b : goal.invariant-loop-b
invariant-loop-b l = (m : ℕ) → (h g old : List ℕ) → Known l.n m h (cubic_count l.n) l.cubes → ((k : ℕ) → k < count_of l.n → Legal m (entry l.from k)) → Shifted l.n m l.back h l.from g → Written g 0 (1 + l.n) old l.initial.to → Written g 0 (index_of l.n l.b l.b) old l.to

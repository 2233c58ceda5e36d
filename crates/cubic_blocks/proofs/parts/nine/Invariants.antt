use mathlib.Core.Path.{◌≡◌}
use mathlib.Core.List.{List}
use Prim.Native.Nat.{ℕ, ◌-◌, ◌*◌}
use lib.ListN.{length}
use Rattle.trits.specs.declared.Vector.{Vector}
use Rattle.tables.specs.Words.{entry}
use Rattle.blocks.specs.Parts.{Went}
use Rattle.cubic_blocks.specs.Parts.{whole, Fits, rows_of}
use Rattle.cubic_blocks.proofs.PartLaw.{left}
use Rattle.cubic_blocks.proofs.parts.nine.Given as goal

abbrev pub invariant-loop-j : goal.invariant-loop-j
invariant-loop-j l =
    (length l.list ≡ length l.initial.list) × Went l.initial.y l.y (3 * l.j) (9 * l.j - 3 * (l.j - 2)) × Fits l.table l.k l.at l.q
    × ((rest : List Vector) → left (λ (i : ℕ). rows_of (entry l.table) l.k i l.at l.q) (3 - l.j) (whole l.y rest l.seconds l.list) ≡ rows_of (entry l.table) l.k 2 l.initial.at l.initial.q (whole l.initial.y rest l.initial.seconds l.initial.list))

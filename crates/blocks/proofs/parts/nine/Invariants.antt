use mathlib.Core.Path.{◌≡◌}
use mathlib.Core.List.{List}
use Prim.Native.Nat.{◌-◌, ◌*◌, ◌≤◌}
use lib.ListN.{length}
use Rattle.trits.specs.declared.Vector.{Vector}
use Rattle.blocks.specs.Parts.{whole, Went, rows_of}
use Rattle.blocks.proofs.parts.nine.Given as goal

abbrev pub invariant-loop-k : goal.invariant-loop-k
invariant-loop-k l =
    (length l.list ≡ length l.initial.list) × Went l.initial.y l.y (3 * l._k) (6 * l._k)
    × ((rest : List Vector) → rows_of (2 - l._k) l.a0 l.a1 l.top.t00 l.top.t01 l.top.t11 (whole l.y rest l.list) ≡ rows_of 2 l.initial.a0 l.initial.a1 l.top.t00 l.top.t01 l.top.t11 (whole l.initial.y rest l.initial.list))

use mathlib.Core.Path.{◌≡◌}
use mathlib.Core.List.{List}
use Prim.Native.Nat.{◌-◌, ◌*◌, ◌≤◌}
use lib.ListN.{length}
use Rattle.trits.specs.declared.Vector.{Vector}
use Rattle.blocks.specs.Parts.{whole, Went, legs_of}
use Rattle.blocks.proofs.parts.big.Given as goal

abbrev pub invariant-loop-left : goal.invariant-loop-left
invariant-loop-left l =
    (l.left ≤ 2) × (length l.list ≡ length l.initial.list) × Went l.initial.y l.y (9 * (2 - l.left)) (18 * (2 - l.left))
    × ((rest : List Vector) → legs_of l.left l.a0 l.a1 l.a2 l.top (whole l.y rest l.list) ≡ legs_of 2 l.initial.a0 l.initial.a1 l.initial.a2 l.top (whole l.initial.y rest l.initial.list))

abbrev pub decreases-loop-left : goal.decreases-loop-left
decreases-loop-left l = l.left

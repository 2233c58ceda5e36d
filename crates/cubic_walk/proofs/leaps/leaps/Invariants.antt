use mathlib.Core.Path.{◌≡◌}
use Prim.Native.Nat.{ℕ, ◌<◌}
use lib.ListN.{length, get_or}
use Rattle.cubic_tables.specs.Order.{key_of}
use Rattle.cubic_blocks.specs.Parts.{keys_of}
use Rattle.cubic_walk.proofs.LeapsLaw.{Kept}
use Rattle.cubic_walk.proofs.leaps.leaps.Given as goal

abbrev pub invariant-loop-k : goal.invariant-loop-k
invariant-loop-k l =
    (l.len ≡ length l.initial.list) × (l.k ≡ keys_of l.n) × ((i : ℕ) → i < l.n → get_or l.all i 0 ≡ key_of l.n i) × Kept l.table l.n l.end l.budget l.left l.initial.list l.list l.initial.slots l.slots l.initial.seconds l.seconds l.initial.x l.x

abbrev pub decreases-loop-k : goal.decreases-loop-k
decreases-loop-k l = l.left

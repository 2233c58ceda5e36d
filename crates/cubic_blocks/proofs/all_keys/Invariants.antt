use mathlib.Core.Path.{◌≡◌}
use Prim.Native.Nat.{ℕ, ◌-◌, ◌≤◌, ◌<◌}
use lib.ListN.{length, get_or}
use Rattle.cubic_tables.specs.Order.{key_of}
use Rattle.cubic_blocks.proofs.all_keys.Given as goal

abbrev pub invariant-loop-b : goal.invariant-loop-b
invariant-loop-b l = (length l.r ≡ 20) × ((i : ℕ) → i < l.b → get_or l.r i 0 ≡ key_of l.n i)

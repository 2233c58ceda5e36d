use Prim.Native.Nat.{◌%◌, ◌≤◌}
use lib.ListN.{get_or}
use Rattle.listed.specs.Lists.{Lists}
use Rattle.listed.proofs.nonzero_into.Given as goal

abbrev pub invariant-loop-k : goal.invariant-loop-k
invariant-loop-k l = (l.count ≤ l.k) × Lists l.k (λ j. get_or l.x j 0 % 3) l.at l.turn l.count

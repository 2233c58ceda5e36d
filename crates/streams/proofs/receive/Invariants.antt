-- `streams::receive` keeps its contract and ends: each turn leaves less room or fewer tries.
use Rattle.std.proofs.Common.{length, ◌-◌, ◌≤◌, ◌≡◌, ◌+◌}
use Rattle.streams.proofs.receive.Given as goal

abbrev pub invariant-loop-done : goal.invariant-loop-done
invariant-loop-done g l = (l.done ≤ length l.buf) × (length l.buf ≡ length l.initial.buf) × (1 ≤ l.tries)

abbrev pub decreases-loop-done : goal.decreases-loop-done
decreases-loop-done g l = (length l.buf - l.done) + l.tries

use mathlib.Core.Path.{◌≡◌}
use Prim.Native.Nat.{◌+◌, ◌-◌, ◌≤◌}
use lib.ListN.{length, drop}
use Rattle.lines.specs.Lines.{lines_of}
use Rattle.graphs.specs.Scans.{state_of, Held}
use Rattle.graphs.specs.Reading.{read_lines, start}
use Rattle.scans.proofs.read_lines.Given as goal

abbrev pub invariant-loop-at : goal.invariant-loop-at
invariant-loop-at l = (l.at ≤ length l.text + 1) × (l.line ≤ l.at + 1) × Held l.g l.seen × (read_lines l.line (state_of l.g) (lines_of (drop l.at l.text)) ≡ read_lines 1 start (lines_of l.text))

abbrev pub decreases-loop-at : goal.decreases-loop-at
decreases-loop-at l = length l.text + 1 - l.at

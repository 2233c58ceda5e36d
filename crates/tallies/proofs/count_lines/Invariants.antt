use mathlib.Core.Path.{◌≡◌}
use mathlib.Core.List.{List}
use Prim.Native.Nat.{ℕ, ◌+◌, ◌-◌, ◌≤◌}
use lib.ListN.{length, drop}
use Rattle.lines.specs.Lines.{lines_of}
use Rattle.shapes.specs.declared.Shape.{Shape}
use Rattle.tallies.specs.Tallies.{as_comment, as_edge, as_turned, sum_lines}
use Rattle.tallies.proofs.count_lines.Given as goal

-- a count before byte `at`, of lines that f counts
abbrev pub So : List ℕ → (Shape → ℕ) → ℕ → ℕ → Type 0
So text f at n = (n ≤ at) × (n + sum_lines f (lines_of (drop at text)) ≡ sum_lines f (lines_of text))

abbrev pub invariant-loop-at : goal.invariant-loop-at
invariant-loop-at l = (l.at ≤ length l.text + 1) × So l.text as_comment l.at l.t.comments × So l.text as_edge l.at l.t.edges × So l.text as_turned l.at l.t.turned

abbrev pub decreases-loop-at : goal.decreases-loop-at
decreases-loop-at l = length l.text + 1 - l.at

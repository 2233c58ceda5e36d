use mathlib.Core.Path.{◌≡◌}
use mathlib.Core.List.{◌++◌}
use Prim.Native.Nat.{◌+◌, ◌-◌, ◌*◌, ◌≤◌}
use lib.ListN.{length, take, drop}
use Rattle.graphs.specs.Scans.{cells}
use Rattle.tidying.specs.Tidy.{edges_text, flagged, tidy_from, tidy_of}
use Rattle.tidying.proofs.put_cells.Given as goal

abbrev pub invariant-loop-c : goal.invariant-loop-c
invariant-loop-c l = (l.at ≤ l.next) × (l.next ≤ l.at + 44 * l.c) × (length l.page ≡ length l.initial.page) × (take l.next l.page ++ edges_text (tidy_from (flagged l.seen) l.c (cells - l.c)) ≡ take l.at l.initial.page ++ edges_text (tidy_of (flagged l.seen))) × (drop l.next l.page ≡ drop l.next l.initial.page)

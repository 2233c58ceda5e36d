-- What is told at the end of a run, and when. `sent` is what the program has added up. That it adds up what `streams::send` answered
-- for standard output is read and tested: no contract can say that a call was made.
use Rattle.std.specs.Prelude.{List, ℕ, ◌+◌, length}
use Rattle.endings.specs.declared.Ending.{Ending}
use Rattle.endings.specs.Endings.{Tells}
use Rattle.planner.specs.declared.Session.{Session}
use Rattle.planner.specs.Output.{output_of, told_of, left_of, walk_told}

-- what is to be told for the input is told exactly if the output's bytes were all taken and it was well at its end; nothing is told otherwise
abbrev pub Ends : List ℕ → List ℕ → Ending → Type 0
Ends input b r = Tells (length (output_of input)) (told_of input) b r

-- ---- the parts of a run
-- the same for the walk of a graph, before which `first` bytes were taken
abbrev pub Walks : List ℕ → Session → ℕ → List ℕ → Ending → Type 0
Walks t s first b r = Tells (first + length (left_of t s)) (walk_told t s) b r

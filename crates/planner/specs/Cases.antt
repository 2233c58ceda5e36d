-- Document 01's own example of the output, and of a refusal, as bytes.
use Rattle.std.specs.Prelude.{◌≡◌, List, [], ◌∷◌, ◌++◌, ℕ}
use Rattle.planner.specs.Output.{output_of, told_of}

-- "p edge 2 1"
abbrev pub problem : List ℕ
problem = 112 ∷ 32 ∷ 101 ∷ 100 ∷ 103 ∷ 101 ∷ 32 ∷ 50 ∷ 32 ∷ 49 ∷ 10 ∷ []

-- "e 1 2" and "e 1 1"
abbrev pub edge : List ℕ
edge = 101 ∷ 32 ∷ 49 ∷ 32 ∷ 50 ∷ 10 ∷ []

abbrev pub loop : List ℕ
loop = 101 ∷ 32 ∷ 49 ∷ 32 ∷ 49 ∷ 10 ∷ []

-- "vars 2 eqs 1"
abbrev vars : List ℕ
vars = 118 ∷ 97 ∷ 114 ∷ 115 ∷ 32 ∷ 50 ∷ 32 ∷ 101 ∷ 113 ∷ 115 ∷ 32 ∷ 49 ∷ 10 ∷ []

-- "1 1 10"
abbrev first : List ℕ
first = 49 ∷ 32 ∷ 49 ∷ 32 ∷ 49 ∷ 48 ∷ 10 ∷ []

-- "2 2 20"
abbrev second : List ℕ
second = 50 ∷ 32 ∷ 50 ∷ 32 ∷ 50 ∷ 48 ∷ 10 ∷ []

-- "3 5 21"
abbrev third : List ℕ
third = 51 ∷ 32 ∷ 53 ∷ 32 ∷ 50 ∷ 49 ∷ 10 ∷ []

-- "4 3 01"
abbrev fourth : List ℕ
fourth = 52 ∷ 32 ∷ 51 ∷ 32 ∷ 48 ∷ 49 ∷ 10 ∷ []

-- "6 7 12"
abbrev sixth : List ℕ
sixth = 54 ∷ 32 ∷ 55 ∷ 32 ∷ 49 ∷ 50 ∷ 10 ∷ []

-- "8 6 02"
abbrev eighth : List ℕ
eighth = 56 ∷ 32 ∷ 54 ∷ 32 ∷ 48 ∷ 50 ∷ 10 ∷ []

-- "points 9 additions 14 found 6 ended"
abbrev totals : List ℕ
totals = 112 ∷ 111 ∷ 105 ∷ 110 ∷ 116 ∷ 115 ∷ 32 ∷ 57 ∷ 32 ∷ 97 ∷ 100 ∷ 100 ∷ 105 ∷ 116 ∷ 105 ∷ 111 ∷ 110 ∷ 115 ∷ 32 ∷ 49 ∷ 52 ∷ 32 ∷ 102 ∷ 111 ∷ 117 ∷ 110 ∷ 100 ∷ 32 ∷ 54 ∷ 32 ∷ 101 ∷ 110 ∷ 100 ∷ 101 ∷ 100 ∷ 10 ∷ []

-- "refused 13 line 2"
abbrev refusal : List ℕ
refusal = 114 ∷ 101 ∷ 102 ∷ 117 ∷ 115 ∷ 101 ∷ 100 ∷ 32 ∷ 49 ∷ 51 ∷ 32 ∷ 108 ∷ 105 ∷ 110 ∷ 101 ∷ 32 ∷ 50 ∷ 10 ∷ []

pub record Cases : Type 0 where
  pub output : output_of (problem ++ edge) ≡ vars ++ (first ++ (second ++ (third ++ (fourth ++ (sixth ++ (eighth ++ totals))))))
  pub refused : output_of (problem ++ loop) ≡ refusal
  pub told_ended : told_of (problem ++ edge) ≡ vars ++ totals
  pub told_refused : told_of (problem ++ loop) ≡ refusal

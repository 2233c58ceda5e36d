-- The edge equation at n = 2, computed from the definitions: its six zeros in order, 14 additions, and calls that stop early.
use mathlib.Core.Path.{◌≡◌, refl}
use mathlib.Core.List.{List, [], ◌∷◌}
use Prim.Native.Nat.{ℕ}
use Rattle.trits.specs.Words.{add_of}
use Rattle.positions.specs.Positions.{lowest_in, lowest_of, positions_in, positions}
use Rattle.gray.specs.Numbers.{digit, number, point_digit, point_of}
use Rattle.tables.specs.Monomials.{row_start, index_of}
use Rattle.tables.specs.Words.{entry}
use Rattle.walks.specs.Walk.{step_of, run_of}
use Rattle.moves.specs.Step.{State, push, lift, bump, move_of, note_by}
use Rattle.walk.specs.Run.{search_of}

-- its table of differences
edge : List ℕ
edge = 1 ∷ 1 ∷ 1 ∷ 0 ∷ 0 ∷ 0 ∷ 1 ∷ 1 ∷ 0 ∷ 0 ∷ 1 ∷ 0 ∷ []

start : List ℕ → State
start l =
    record {
      place = 0;
      value = record { high = 1; low = 1 };
      slots = record { high = 1; low = 0 } ∷ record { high = 0; low = 0 } ∷ [];
      additions = 0;
      found = 0;
      list = l;
    }

record Is (s : State) (place additions found : ℕ) (list : List ℕ) : Type 0 where
  at : s.place ≡ place
  count : s.additions ≡ additions
  zeros : s.found ≡ found
  after : s.list ≡ list

whole_walk : Is (search_of edge 2 9 9 (start (7 ∷ 7 ∷ 7 ∷ 7 ∷ 7 ∷ 7 ∷ 77 ∷ []))) 9 14 6 (1 ∷ 2 ∷ 5 ∷ 3 ∷ 7 ∷ 6 ∷ 77 ∷ [])
unfolding edge start add_of lowest_in lowest_of positions_in positions digit number point_digit point_of step_of run_of row_start index_of entry push lift bump move_of note_by
whole_walk = record { at = refl; count = refl; zeros = refl; after = refl }

budget_of_four : Is (search_of edge 2 9 4 (start (7 ∷ 7 ∷ 7 ∷ 7 ∷ []))) 4 4 3 (1 ∷ 2 ∷ 5 ∷ 7 ∷ [])
unfolding edge start add_of lowest_in lowest_of positions_in positions digit number point_digit point_of step_of run_of row_start index_of entry push lift bump move_of note_by
budget_of_four = record { at = refl; count = refl; zeros = refl; after = refl }

list_of_three : Is (search_of edge 2 9 9 (start (7 ∷ 7 ∷ 7 ∷ []))) 4 4 3 (1 ∷ 2 ∷ 5 ∷ [])
unfolding edge start add_of lowest_in lowest_of positions_in positions digit number point_digit point_of step_of run_of row_start index_of entry push lift bump move_of note_by
list_of_three = record { at = refl; count = refl; zeros = refl; after = refl }

no_list : Is (search_of edge 2 9 9 (start [])) 0 0 0 []
unfolding edge start add_of lowest_in lowest_of positions_in positions digit number point_digit point_of step_of run_of row_start index_of entry push lift bump move_of note_by
no_list = record { at = refl; count = refl; zeros = refl; after = refl }

-- x0² x1 + 2 at n = 2, computed from the definitions: its two zeros in order, 17 additions, and calls that stop early.
use mathlib.Core.Path.{◌≡◌, refl}
use mathlib.Core.List.{List, [], ◌∷◌}
use Prim.Native.Nat.{ℕ, zero, suc}
use Rattle.trits.specs.Words.{add_of}
use Rattle.positions.specs.Positions.{lowest_in, lowest_of, positions_in, positions}
use Rattle.gray.specs.Numbers.{digit, number, point_digit, point_of}
use Rattle.tables.specs.Monomials.{count_of, row_start}
use Rattle.tables.specs.Words.{entry, put_at}
use Rattle.walks.specs.Walk.{step_of, run_of}
use Rattle.cubic_tables.specs.Order.{triple_start, key_of, pair_of}
use Rattle.cubic_moves.specs.Step.{State, push, lift, bump, move_of, note_by}
use Rattle.cubic_walk.specs.Run.{search_of}

-- its table of differences: 2, 0, 1, then 0, 2, 0, then 2, 0
square : List ℕ
square = 1 ∷ 1 ∷ 0 ∷ 0 ∷ 1 ∷ 0 ∷ 0 ∷ 0 ∷ 1 ∷ 1 ∷ 0 ∷ 0 ∷ 1 ∷ 1 ∷ 0 ∷ 0 ∷ []

zeros : ℕ → List ℕ → List ℕ
zeros zero l = l
zeros (suc k) l = 0 ∷ zeros k l

-- second slots 0, 0 and 0, 1 stand first, 1, 1 at seat 20
start : List ℕ → State
start l =
    record {
      place = 0;
      value = record { high = 1; low = 1 };
      slots = record { high = 0; low = 0 } ∷ record { high = 1; low = 0 } ∷ [];
      seconds = 0 ∷ 0 ∷ 1 ∷ 1 ∷ zeros 38 [];
      additions = 0;
      found = 0;
      list = l;
    }

record Is (s : State) (place additions found : ℕ) (list : List ℕ) : Type 0 where
  at : s.place ≡ place
  count : s.additions ≡ additions
  zeros : s.found ≡ found
  after : s.list ≡ list

whole_walk : Is (search_of square 2 9 9 (start (7 ∷ 7 ∷ 77 ∷ []))) 9 17 2 (5 ∷ 4 ∷ 77 ∷ [])
unfolding square zeros start add_of lowest_in lowest_of positions_in positions digit number point_digit point_of step_of run_of count_of row_start triple_start key_of pair_of entry put_at push lift bump move_of note_by
whole_walk = record { at = refl; count = refl; zeros = refl; after = refl }

budget_of_five : Is (search_of square 2 9 5 (start (7 ∷ 7 ∷ []))) 5 6 1 (5 ∷ 7 ∷ [])
unfolding square zeros start add_of lowest_in lowest_of positions_in positions digit number point_digit point_of step_of run_of count_of row_start triple_start key_of pair_of entry put_at push lift bump move_of note_by
budget_of_five = record { at = refl; count = refl; zeros = refl; after = refl }

list_of_one : Is (search_of square 2 9 9 (start (7 ∷ []))) 4 4 1 (5 ∷ [])
unfolding square zeros start add_of lowest_in lowest_of positions_in positions digit number point_digit point_of step_of run_of count_of row_start triple_start key_of pair_of entry put_at push lift bump move_of note_by
list_of_one = record { at = refl; count = refl; zeros = refl; after = refl }

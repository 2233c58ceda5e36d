-- The starred cases of document 01, and cases of degree 3: what the definitions give, and what has to come out.
use Rattle.std.proofs.Math.Option.{Option, none, some}
use Rattle.std.specs.Prelude.{List, [], ◌∷◌, ◌++◌, map, ℕ, zero, suc, ℤ, pos, negsuc, replicate, take}
use Rattle.residues.specs.Residue.{floor_mod}
use Rattle.trits.specs.Trit.{trit, of_trits}
use Rattle.trits.specs.Words.{product_of}
use Rattle.positions.specs.Positions.{positions}
use Rattle.gray.specs.Numbers.{point_of}
use Rattle.balanced.specs.Balanced.{balanced_of}
use Rattle.tables.specs.Words.{entry, packed, differences_of}
use Rattle.cubic_tables.specs.Words.{cubic_packed, cubic_differences}
use Rattle.walks.specs.declared.Report.{Report}
use Rattle.walks.specs.Calls.{stop_number}
use Rattle.walks.specs.Runs.{Request, Reply}
use Rattle.given.specs.declared.Degree.{Degree}
use Rattle.given.specs.declared.Degree.TheVariants.{Two, Three}
use Rattle.opening.specs.declared.Record.{Record}
use Rattle.opening.specs.Opened.{opened_at}
use Rattle.demand.specs.Session.{call_of}
use Rattle.demand.specs.Rows.{rows_table}

-- a case: what the definitions give, and what is said
pub record Row : Type 0 where
  pub gives : List ℤ
  pub says : List ℤ

abbrev pub naturals : List ℕ → List ℤ
naturals l = map pos l

-- the trits of the first equation of a table of k entries
abbrev pub trits_of : ℕ → List ℕ → List ℕ
trits_of zero t = []
trits_of (suc k) t = trits_of k t ++ trit (entry t k) 0 ∷ []

-- what a call gives back, as numbers: stop (0 ended, 1 full, 2 spent), place, points, additions, found, then the listed points
abbrev pub told_numbers : Option Report → ℕ → List ℕ → List ℕ
told_numbers none p l = []
told_numbers (some w) p l = stop_number w.stop ∷ p ∷ w.points ∷ w.additions ∷ w.found ∷ take w.found l

abbrev pub numbers : Reply Record → List ℤ
numbers r = naturals (told_numbers r.told r.state.place.0 r.list)

-- a request with budget b and a list of k entries
abbrev pub ask : ℕ → ℕ → Request
ask b k = record { budget = b; list = replicate k 0 }

-- the call with it from place 0 on the differences of one row, and the same request once more after a call with budget a
abbrev pub first_reply : Degree → ℕ → List ℤ → ℕ → ℕ → Reply Record
first_reply d n c b k = call_of (rows_table d n 1 c) (opened_at (rows_table d n 1 c) 0) (ask b k)

abbrev pub call : Degree → ℕ → List ℤ → ℕ → ℕ → List ℤ
call d n c b k = numbers (first_reply d n c b k)

abbrev pub call_after : Degree → ℕ → List ℤ → ℕ → ℕ → ℕ → List ℤ
call_after d n c a b k = numbers (call_of (rows_table d n 1 c) (first_reply d n c a k).state (ask b k))

-- ---- document 01
-- the edge equation x0² + x0·x1 + x1² + 2 at n = 2
abbrev pub edge : List ℤ
edge = pos 2 ∷ pos 0 ∷ pos 0 ∷ pos 1 ∷ pos 1 ∷ pos 1 ∷ []

abbrev pub starred_rows : List Row
starred_rows =
    -- places 0 to 8 at n = 2
    record { gives = naturals (map (point_of 3 2) (0 ∷ 1 ∷ 2 ∷ 3 ∷ 4 ∷ 5 ∷ 6 ∷ 7 ∷ 8 ∷ [])); says = naturals (0 ∷ 1 ∷ 2 ∷ 5 ∷ 3 ∷ 4 ∷ 7 ∷ 8 ∷ 6 ∷ []) }
    -- positions of 5 and of 0
    ∷ record { gives = naturals (positions 3 5); says = naturals (0 ∷ 0 ∷ 1 ∷ []) }
    ∷ record { gives = naturals (positions 3 0); says = [] }
    -- the edge equation: coefficients, differences, difference words
    ∷ record { gives = naturals (trits_of 6 (packed 2 1 edge)); says = naturals (2 ∷ 0 ∷ 0 ∷ 1 ∷ 1 ∷ 1 ∷ []) }
    ∷ record { gives = naturals (trits_of 6 (differences_of 2 1 (packed 2 1 edge))); says = naturals (2 ∷ 1 ∷ 0 ∷ 2 ∷ 0 ∷ 1 ∷ []) }
    ∷ record { gives = naturals (differences_of 2 1 (packed 2 1 edge)); says = naturals (1 ∷ 1 ∷ 1 ∷ 0 ∷ 0 ∷ 0 ∷ 1 ∷ 1 ∷ 0 ∷ 0 ∷ 1 ∷ 0 ∷ []) }
    -- its list, with 14 additions
    ∷ record { gives = call Two 2 edge 9 9; says = naturals (0 ∷ 9 ∷ 9 ∷ 14 ∷ 6 ∷ 1 ∷ 2 ∷ 5 ∷ 3 ∷ 7 ∷ 6 ∷ []) }
    -- budget 4, list 8; budget 9, list 3; budget 9, list 6
    ∷ record { gives = call Two 2 edge 4 8; says = naturals (2 ∷ 4 ∷ 4 ∷ 4 ∷ 3 ∷ 1 ∷ 2 ∷ 5 ∷ []) }
    ∷ record { gives = call Two 2 edge 9 3; says = naturals (1 ∷ 4 ∷ 4 ∷ 4 ∷ 3 ∷ 1 ∷ 2 ∷ 5 ∷ []) }
    ∷ record { gives = call Two 2 edge 9 6; says = naturals (0 ∷ 9 ∷ 9 ∷ 14 ∷ 6 ∷ 1 ∷ 2 ∷ 5 ∷ 3 ∷ 7 ∷ 6 ∷ []) }
    -- x0; all coefficients zero; x0² + 1
    ∷ record { gives = call Two 1 (pos 0 ∷ pos 1 ∷ pos 0 ∷ []) 3 3; says = naturals (0 ∷ 3 ∷ 3 ∷ 3 ∷ 1 ∷ 0 ∷ []) }
    ∷ record { gives = call Two 1 (pos 0 ∷ pos 0 ∷ pos 0 ∷ []) 3 3; says = naturals (0 ∷ 3 ∷ 3 ∷ 3 ∷ 3 ∷ 0 ∷ 1 ∷ 2 ∷ []) }
    ∷ record { gives = call Two 1 (pos 1 ∷ pos 0 ∷ pos 1 ∷ []) 3 3; says = naturals (0 ∷ 3 ∷ 3 ∷ 3 ∷ 0 ∷ []) }
    -- 2 times 2; -128; point 6
    ∷ record { gives = pos (trit (product_of (of_trits 1 (λ e. 2)) (of_trits 1 (λ e. 2))) 0) ∷ []; says = pos 1 ∷ [] }
    ∷ record { gives = pos (floor_mod 3 (negsuc 127)) ∷ []; says = pos 1 ∷ [] }
    ∷ record { gives = balanced_of 2 6 ∷ []; says = negsuc 2 ∷ [] }
    ∷ []

-- ---- degree 3
-- 1 - x0 + x1 + x0² - x0·x1 - x1² + x0²·x1 - x0·x1² at n = 2
abbrev pub dense : List ℤ
dense = pos 1 ∷ negsuc 0 ∷ pos 1 ∷ pos 1 ∷ negsuc 0 ∷ negsuc 0 ∷ pos 1 ∷ negsuc 0 ∷ []

-- 1 + x0 + x1 - x0² + x0·x1 - x1² + x0²·x1 + x0·x1², which is 0 nowhere
abbrev pub empty : List ℤ
empty = pos 1 ∷ pos 1 ∷ pos 1 ∷ negsuc 0 ∷ pos 1 ∷ negsuc 0 ∷ pos 1 ∷ pos 1 ∷ []

-- x0·x1·x2 + 2 at n = 3
abbrev pub product : List ℤ
product = pos 2 ∷ pos 0 ∷ pos 0 ∷ pos 0 ∷ pos 0 ∷ pos 0 ∷ pos 0 ∷ pos 0 ∷ pos 0 ∷ pos 0 ∷ pos 0 ∷ pos 0 ∷ pos 0 ∷ pos 1 ∷ pos 0 ∷ pos 0 ∷ pos 0 ∷ []

-- 1 + x0 + x0² at n = 1
abbrev pub single : List ℤ
single = pos 1 ∷ pos 1 ∷ pos 1 ∷ []

abbrev pub cubic_rows : List Row
cubic_rows =
    -- the dense system: coefficients, differences, difference words
    record { gives = naturals (trits_of 8 (cubic_packed 2 1 dense)); says = naturals (1 ∷ 2 ∷ 1 ∷ 1 ∷ 2 ∷ 2 ∷ 1 ∷ 2 ∷ []) }
    ∷ record { gives = naturals (trits_of 8 (cubic_differences 2 1 (cubic_packed 2 1 dense))); says = naturals (1 ∷ 0 ∷ 0 ∷ 2 ∷ 2 ∷ 1 ∷ 2 ∷ 1 ∷ []) }
    ∷ record { gives = naturals (cubic_differences 2 1 (cubic_packed 2 1 dense)); says = naturals (1 ∷ 0 ∷ 0 ∷ 0 ∷ 0 ∷ 0 ∷ 1 ∷ 1 ∷ 1 ∷ 1 ∷ 1 ∷ 0 ∷ 1 ∷ 1 ∷ 1 ∷ 0 ∷ []) }
    -- its list, with 17 additions
    ∷ record { gives = call Three 2 dense 9 9; says = naturals (0 ∷ 9 ∷ 9 ∷ 17 ∷ 4 ∷ 2 ∷ 5 ∷ 4 ∷ 8 ∷ []) }
    -- a list of two; a budget of four, and on from there
    ∷ record { gives = call Three 2 dense 9 2; says = naturals (1 ∷ 4 ∷ 4 ∷ 4 ∷ 2 ∷ 2 ∷ 5 ∷ []) }
    ∷ record { gives = call Three 2 dense 4 9; says = naturals (2 ∷ 4 ∷ 4 ∷ 4 ∷ 2 ∷ 2 ∷ 5 ∷ []) }
    ∷ record { gives = call_after Three 2 dense 4 9 9; says = naturals (0 ∷ 9 ∷ 5 ∷ 13 ∷ 2 ∷ 4 ∷ 8 ∷ []) }
    -- no zero
    ∷ record { gives = call Three 2 empty 9 9; says = naturals (0 ∷ 9 ∷ 9 ∷ 17 ∷ 0 ∷ []) }
    -- three unknowns: differences, the list, with 66 additions, and a budget of 20, and on from there
    ∷ record { gives = naturals (trits_of 17 (cubic_differences 3 1 (cubic_packed 3 1 product))); says = naturals (2 ∷ 0 ∷ 0 ∷ 0 ∷ 0 ∷ 0 ∷ 2 ∷ 0 ∷ 2 ∷ 0 ∷ 0 ∷ 0 ∷ 0 ∷ 1 ∷ 2 ∷ 2 ∷ 1 ∷ []) }
    ∷ record { gives = call Three 3 product 27 9; says = naturals (0 ∷ 27 ∷ 27 ∷ 66 ∷ 4 ∷ 17 ∷ 13 ∷ 23 ∷ 25 ∷ []) }
    ∷ record { gives = call Three 3 product 20 9; says = naturals (2 ∷ 20 ∷ 20 ∷ 45 ∷ 2 ∷ 17 ∷ 13 ∷ []) }
    ∷ record { gives = call_after Three 3 product 20 27 9; says = naturals (0 ∷ 27 ∷ 7 ∷ 21 ∷ 2 ∷ 23 ∷ 25 ∷ []) }
    -- one unknown, with 3 additions
    ∷ record { gives = call Three 1 single 3 3; says = naturals (0 ∷ 3 ∷ 3 ∷ 3 ∷ 1 ∷ 1 ∷ []) }
    ∷ []

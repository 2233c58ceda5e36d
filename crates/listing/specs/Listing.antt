-- The lines of a listing, as bytes: the head, a line for each layout, the totals.
use Rattle.std.specs.Prelude.{List, [], ◌∷◌, ◌++◌, ℕ, zero, suc, ◌+◌, ◌/◌, ◌%◌}
use Rattle.gray.specs.Numbers.{place_of}
use Rattle.texts.specs.Text.{decimal_of}

-- the n digits of a point, with x0 first
unfoldable pub digits_of : ℕ → ℕ → List ℕ
digits_of zero x = []
digits_of (suc n) x = (48 + x % 3) ∷ digits_of n (x / 3)

-- a layout: its place, its point, its digits
unfoldable pub layout_line : ℕ → ℕ → List ℕ
layout_line n x = decimal_of (place_of 3 n x) ++ (32 ∷ (decimal_of x ++ (32 ∷ (digits_of n x ++ (10 ∷ [])))))

-- a line for each point of a list
unfoldable pub layout_lines : ℕ → List ℕ → List ℕ
layout_lines n [] = []
layout_lines n (x ∷ l) = layout_line n x ++ layout_lines n l

-- "vars N eqs M"
unfoldable pub head_line : ℕ → ℕ → List ℕ
head_line n m =
    (118 ∷ 97 ∷ 114 ∷ 115 ∷ 32 ∷ []) ++ (decimal_of n ++ ((32 ∷ 101 ∷ 113 ∷ 115 ∷ 32 ∷ []) ++ (decimal_of m ++ (10 ∷ []))))

-- "points P additions A found F ended"
unfoldable pub totals_line : ℕ → ℕ → ℕ → List ℕ
totals_line p a f =
    (112 ∷ 111 ∷ 105 ∷ 110 ∷ 116 ∷ 115 ∷ 32 ∷ []) ++ (decimal_of p
    ++ ((32 ∷ 97 ∷ 100 ∷ 100 ∷ 105 ∷ 116 ∷ 105 ∷ 111 ∷ 110 ∷ 115 ∷ 32 ∷ []) ++ (decimal_of a
    ++ ((32 ∷ 102 ∷ 111 ∷ 117 ∷ 110 ∷ 100 ∷ 32 ∷ []) ++ (decimal_of f ++ (32 ∷ 101 ∷ 110 ∷ 100 ∷ 101 ∷ 100 ∷ 10 ∷ []))))))

-- the most bytes of each: numbers have at most 20 digits, as a point has
abbrev pub longest_layout : ℕ
longest_layout = 63

abbrev pub longest_head : ℕ
longest_head = 51

abbrev pub longest_totals : ℕ
longest_totals = 92

-- The lines of a text and what stands in them, for any kind of file: a line is its bytes without the line feed.
use Rattle.std.specs.Prelude.{Bool, true, false, ◌&&◌, ◌||◌, List, [], ◌∷◌, ℕ, suc, ◌+◌, ◌-◌, ◌*◌, eqb, ltb, leb, length, get_or, take, drop, Option, Some, None}

-- what the bytes of a number write
abbrev pub Number : Type 0
Number = Option ℕ

-- what the bytes of two numbers with one space between them write
abbrev pub Pair : Type 0
Pair = Option (ℕ × ℕ)

-- how many bytes stand before the first b: all of them where there is none
unfoldable pub first_of : ℕ → List ℕ → ℕ
first_of b [] = 0
first_of b (x ∷ t) = elim (eqb x b) [ true ↦ 0 | false ↦ suc (first_of b t) ]

-- whether a byte stands among others
unfoldable pub has : ℕ → List ℕ → Bool
has b [] = false
has b (x ∷ t) = eqb x b || has b t

-- a decimal digit
abbrev pub is_digit : ℕ → Bool
is_digit x = leb 48 x && leb x 57

-- the number that digits write after those that wrote a
unfoldable pub decimal_from : ℕ → List ℕ → Number
decimal_from a [] = Some a
decimal_from a (x ∷ t) = elim (is_digit x) [ true ↦ decimal_from (10 * a + (x - 48)) t | false ↦ None ]

abbrev pub pick_number : Bool → Number → Number → Number
pick_number true x y = x
pick_number false x y = y

-- several bytes, the first of them "0"
abbrev pub is_padded : List ℕ → Bool
is_padded s = ltb 1 (length s) && eqb (get_or s 0 0) 48

-- a number: 1 to 5 digits without leading zeros
abbrev pub number_in : List ℕ → Number
number_in s =
    pick_number (ltb (length s) 1) None
    (pick_number (ltb 5 (length s)) None
    (pick_number (is_padded s) None (decimal_from 0 s)))

abbrev pub both : Number → Number → Pair
both (Some a) (Some b) = Some (a, b)
both (Some a) None = None
both None y = None

-- two numbers with one space between them
unfoldable pub pair_in : List ℕ → Pair
pair_in s = both (number_in (take (first_of 32 s) s)) (number_in (drop (first_of 32 s + 1) s))

-- whether a line begins with these bytes
unfoldable pub starts : List ℕ → List ℕ → Bool
starts [] s = true
starts (x ∷ f) [] = false
starts (x ∷ f) (y ∷ s) = eqb y x && starts f s

-- "c " and any bytes, or "c" alone
abbrev pub is_comment : List ℕ → Bool
is_comment s = starts (99 ∷ 32 ∷ []) s || (eqb (length s) 1 && starts (99 ∷ []) s)

-- ---- the lines of a text
-- one more byte at the front of the first line
abbrev pub grow : ℕ → List (List ℕ) → List (List ℕ)
grow x [] = (x ∷ []) ∷ []
grow x (s ∷ ls) = (x ∷ s) ∷ ls

-- the lines of a text, without their line feeds: a final line feed opens no further line
unfoldable pub lines_of : List ℕ → List (List ℕ)
lines_of [] = []
lines_of (x ∷ t) = elim (eqb x 10) [ true ↦ [] ∷ lines_of t | false ↦ grow x (lines_of t) ]

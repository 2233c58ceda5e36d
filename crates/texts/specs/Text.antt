-- Numbers and a refusal as bytes, and bytes put into a text.
use Rattle.std.specs.Prelude.{◌≡◌, Bool, true, false, List, [], ◌∷◌, ◌++◌, ℕ, zero, suc, ◌+◌, ◌/◌, ◌%◌, ltb, length, take, drop}

-- a number in decimal digits, without leading zeros: k digits are enough for one below 10^k
unfoldable pub decimal_in : ℕ → ℕ → List ℕ
decimal_in zero x = []
decimal_in (suc k) x = elim (ltb x 10) [ true ↦ (48 + x) ∷ [] | false ↦ decimal_in k (x / 10) ++ ((48 + x % 10) ∷ []) ]

-- any 64-bit number
abbrev pub decimal_of : ℕ → List ℕ
decimal_of x = decimal_in 20 x

-- a line of two numbers, with these bytes before the first and before the second
abbrev pub pair_line : List ℕ → ℕ → List ℕ → ℕ → List ℕ
pair_line front one mid other = front ++ (decimal_of one ++ (mid ++ (decimal_of other ++ (10 ∷ []))))

-- "refused R line K"
unfoldable pub refusal_line : ℕ → ℕ → List ℕ
refusal_line r k = pair_line (114 ∷ 101 ∷ 102 ∷ 117 ∷ 115 ∷ 101 ∷ 100 ∷ 32 ∷ []) r (32 ∷ 108 ∷ 105 ∷ 110 ∷ 101 ∷ 32 ∷ []) k

-- and the most bytes of one: two numbers of at most 20 digits
abbrev pub longest_refusal : ℕ
longest_refusal = 55

-- a line where a test holds, else nothing
abbrev pub line_if : Bool → List ℕ → List ℕ
line_if true l = l
line_if false l = []

-- "ended": what a program tells of a run that wrote everything
abbrev pub ended_line : List ℕ
ended_line = 101 ∷ 110 ∷ 100 ∷ 101 ∷ 100 ∷ 10 ∷ []

-- s was put into a text at byte `at`: all other bytes stay, and the next free byte is `end`
pub record Put (old : List ℕ) (at : ℕ) (s : List ℕ) (new : List ℕ) (end : ℕ) : Type 0 where
  pub size : length new ≡ length old
  pub next : end ≡ at + length s
  pub front : take end new ≡ take at old ++ s
  pub rest : drop end new ≡ drop end old

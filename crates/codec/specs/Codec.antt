-- Words as bytes, the lowest byte first.
use Rattle.std.specs.Prelude.{List, [], ◌∷◌, ◌++◌, ℕ, zero, suc, ◌+◌, ◌*◌, ◌/◌, ◌%◌, ◌<◌, length, get_or, take, drop}

-- the number that bytes stand for
unfoldable pub value_of : List ℕ → ℕ
value_of [] = 0
value_of (b ∷ bs) = b + 256 * value_of bs

-- the k low bytes of a number
unfoldable pub bytes_of : ℕ → ℕ → List ℕ
bytes_of zero w = []
bytes_of (suc k) w = w % 256 ∷ bytes_of k (w / 256)

-- word number i of bytes
abbrev pub word_at : List ℕ → ℕ → ℕ
word_at b i = value_of (take 8 (drop (8 * i) b))

-- the first k words of bytes
unfoldable pub words_of : ℕ → List ℕ → List ℕ
words_of zero b = []
words_of (suc k) b = value_of (take 8 b) ∷ words_of k (drop 8 b)

-- all the words of bytes
abbrev pub words_in : List ℕ → List ℕ
words_in b = words_of (length b / 8) b

-- the bytes of words
unfoldable pub bytes_from : List ℕ → List ℕ
bytes_from [] = []
bytes_from (w ∷ ws) = bytes_of 8 w ++ bytes_from ws

-- l with vs in it from place `at` on
abbrev pub pasted : List ℕ → ℕ → List ℕ → List ℕ
pasted l at vs = take at l ++ (vs ++ drop (at + length vs) l)

-- each element is below m: bytes below 256, words below 2 ^ 64
pub record AllBelow (m : ℕ) (l : List ℕ) : Type 0 where
  pub each : (i : ℕ) → i < length l → get_or l i 0 < m

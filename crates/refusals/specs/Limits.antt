-- Document 01's limits, each under a name, and which sizes are within them.
use Rattle.std.specs.Prelude.{ℕ, ◌≤◌}

-- a system has 1 to 20 unknowns
abbrev pub most_unknowns : ℕ
most_unknowns = 20

-- and 1 to 64 equations, one for each bit of a word
abbrev pub most_equations : ℕ
most_equations = 64

-- the words of a table of 20 unknowns: two for each of 231 monomials
abbrev pub most_words : ℕ
most_words = 462

-- the words of the second slots of 20 unknowns: two for each of 210 pairs
abbrev pub second_words : ℕ
second_words = 420

-- the words of a table of degree 3 of 20 unknowns: two for each of 1,751 monomials
abbrev pub most_cubic_words : ℕ
most_cubic_words = 3502

-- a record's words before its second slots
abbrev pub first_words : ℕ
first_words = 45

-- a record's words, and its bytes for C
abbrev pub record_words : ℕ
record_words = 465

abbrev pub record_length : ℕ
record_length = 3720

-- the entries of the list that one call fills, where a longer list is filled by several
abbrev pub piece_entries : ℕ
piece_entries = 1024

-- the bytes of the longest graph text
abbrev pub longest_text : ℕ
longest_text = 32768

-- n within its limits
pub record Unknowns (n : ℕ) : Type 0 where
  pub least : 1 ≤ n
  pub most : n ≤ most_unknowns

-- n and m within theirs
pub record Within (n m : ℕ) : Type 0 where
  pub least : 1 ≤ n
  pub most : n ≤ most_unknowns
  pub one : 1 ≤ m
  pub wide : m ≤ most_equations

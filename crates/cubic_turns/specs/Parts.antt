-- What the steps of the differences and of the way back are stated by: for the code alone; a reader goes by cubic_tables/specs/Words.
use Rattle.std.specs.Prelude.{◌≡◌, Bool, true, false, List, ℕ, ◌+◌, ◌*◌, ◌≤◌, ◌<◌}
use Rattle.trits.specs.Trit.{trit, of_trits}
use Rattle.tables.specs.Monomials.{index_of}
use Rattle.tables.specs.Words.{entry}
use Rattle.cubics.specs.Triples.{table_of3}
use Rattle.cubic_tables.specs.Order.{triple_index}
use Rattle.brackets.specs.Brackets.{brackets_at, entries_at, cell_of, back_cell, extra_single, extra_pair}

-- the products of three of g are the differences of the coefficients t, or the coefficients of the differences t
pub record Made (n m : ℕ) (back : Bool) (t g : List ℕ) : Type 0 where
  pub there : back ≡ false → (b c d : ℕ) → b ≤ c → c ≤ d → b < d → d < n
      → entry g (triple_index n b c d) ≡ of_trits m (λ e. cell_of (table_of3 (brackets_at n t e)) b c d)
  pub here : back ≡ true → (b c d : ℕ) → b ≤ c → c ≤ d → b < d → d < n
      → entry g (triple_index n b c d) ≡ of_trits m (λ e. back_cell (brackets_at n g e) (entries_at n t e) b c d)

-- 1, or minus 1 on the way back
abbrev pub sign_of : Bool → ℕ
sign_of false = 1
sign_of true = 2

-- the entries of degree up to 2 of g are those of t and what the products of three of c add, or take off
pub record Shifted (n m : ℕ) (back : Bool) (c t g : List ℕ) : Type 0 where
  pub first : entry g 0 ≡ entry t 0
  pub single : (b : ℕ) → b < n → entry g (1 + b) ≡ of_trits m (λ e. trit (entry t (1 + b)) e + sign_of back * extra_single (brackets_at n c e) b)
  pub pair : (b d : ℕ) → b ≤ d → d < n → entry g (index_of n b d) ≡ of_trits m (λ e. trit (entry t (index_of n b d)) e + sign_of back * extra_pair (brackets_at n c e) b d)

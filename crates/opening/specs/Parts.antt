-- What the parts of opening give, over the coefficients: for the code alone; a reader goes by specs/Opened.
use Rattle.std.specs.Prelude.{◌≡◌, List, ℕ, ◌-◌, ◌≤◌, ◌<◌, length, get_or}
use Rattle.trits.specs.declared.Vector.{Vector}
use Rattle.trits.specs.Trit.{Holds, none}
use Rattle.positions.specs.Positions.{latest}
use Rattle.gray.specs.Numbers.{point_digit}
use Rattle.polynomials.specs.Poly.{diff}
use Rattle.tables.specs.Words.{Table, poly_at}

-- twenty slots: the first n hold the changes, the others are zero
pub record Slots (n : ℕ) (c : List ℕ) (q : ℕ) (s : List Vector) : Type 0 where
  pub long : length s ≡ 20
  pub used : (m : ℕ) → Table n m c → (b : ℕ) → b < n → Holds m (λ e. diff (poly_at n c e) n b (point_digit 3 (latest 3 b q - 1))) (get_or s b none)
  pub unused : (b : ℕ) → n ≤ b → get_or s b none ≡ none

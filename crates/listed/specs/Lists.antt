-- The unknowns of a point that are not 0, in a list.
use Rattle.std.specs.Prelude.{◌≡◌, List, ℕ, suc, ◌*◌, ◌/◌, ◌<◌, ◌≤◌, get_or}
use Rattle.trits.specs.Trit.{Holds}
use Rattle.trits.specs.declared.Vector.{Vector}
use Rattle.listed.specs.declared.Listed.{Listed}

-- a word of ones
abbrev pub ones : ℕ
ones = 18446744073709551615

-- of the digits x of n unknowns, those that are not 0 are the first `count` numbers of `at`, rising, with n after the last;
-- and turn has ones where the digit is 2, zeros where it is 1
pub record Lists (n : ℕ) (x : ℕ → ℕ) (at turn : List ℕ) (count : ℕ) : Type 0 where
  pub first : (k : ℕ) → k < get_or at 0 0 → x k ≡ 0
  pub step : (t : ℕ) → t < count → get_or at t 0 < get_or at (suc t) 0
  pub gap : (t : ℕ) → t < count → (k : ℕ) → get_or at t 0 < k → k < get_or at (suc t) 0 → x k ≡ 0
  pub last : get_or at count 0 ≡ n
  pub digit : (t : ℕ) → t < count → (1 ≤ x (get_or at t 0)) × (x (get_or at t 0) ≤ 2)
  pub mask : (t : ℕ) → t < count → get_or turn t 0 ≡ x (get_or at t 0) / 2 * ones

-- the first `count` numbers of `at` rise and are below n
pub record Rising (n : ℕ) (at : List ℕ) (count : ℕ) : Type 0 where
  pub below : (t : ℕ) → t < count → get_or at t 0 < n
  pub rise : (t u : ℕ) → t < u → u < count → get_or at t 0 < get_or at u 0

-- v holds h x in each of m equations, however many the table has (Has m), at each point x of n unknowns that the list is of
unfoldable pub ListHolds : ℕ → Listed → (ℕ → Type 0) → ((ℕ → ℕ) → ℕ → ℕ) → Vector → Type 0
ListHolds n list Has h v = (m : ℕ) → (x : ℕ → ℕ) → Has m → Lists n x list.at list.turn list.count → Holds m (h x) v

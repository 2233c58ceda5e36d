-- What the weights of a row give, and which unknowns of a point are left: for the code alone.
use Rattle.std.specs.Prelude.{◌≡◌, List, ℕ, suc, ◌*◌, ◌≤◌, ◌<◌, get_or}
use Rattle.residues.proofs.ModLaw.{Cong}
use Rattle.gray.specs.Numbers.{point_digit}
use Rattle.listed.specs.Lists.{Lists}
use Rattle.weights.specs.declared.Weights.{Weights}

-- w has, modulo 3, how often the entries of b, c are added: a times that of b, c, and g d times that of b, c, d; from c + 2 on that is a times x d
pub record Weighs (n b c a : ℕ) (g x : ℕ → ℕ) (w : Weights) : Type 0 where
  pub whole : Cong 3 w.whole a
  pub same : b < c → Cong 3 w.same (g c)
  pub next : suc c < n → Cong 3 w.next (g (suc c))
  pub far : (d : ℕ) → suc c < d → d < n → Cong 3 (a * x d) (g d)
  pub none : (d : ℕ) → d < c → Cong 3 (g d) 0
  pub twice : b ≡ c → Cong 3 (g c) 0

-- of the unknowns listed in `at`, those from number `from` on are the ones from `low` on
pub record Skips (x : ℕ → ℕ) (at : List ℕ) (count low from : ℕ) : Type 0 where
  pub some : from ≤ count
  pub late : (t : ℕ) → from ≤ t → t < count → low ≤ get_or at t 0
  pub zero : (k : ℕ) → low ≤ k → k < get_or at from 0 → x k ≡ 0

-- the digits of the point at place r from b + 1 on, listed; those from number `from` on are past those below `low`
pub record Ready (n b r : ℕ) (at turn : List ℕ) (count low from : ℕ) : Type 0 where
  pub x : ℕ → ℕ
  pub lists : Lists n x at turn count
  pub digits : (d : ℕ) → b < d → d < n → Cong 3 (x d) (point_digit 3 r d)
  pub skips : Skips x at count low from

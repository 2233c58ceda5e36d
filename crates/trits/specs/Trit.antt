-- Vectors of trits, in ordinary arithmetic: a trit of a pair of words, legal pairs, and the vector of given trits.
use Rattle.std.specs.Prelude.{◌≡◌, ℕ, zero, suc, ◌+◌, ◌*◌, ◌/◌, ◌%◌, ◌^◌, ◌≤◌, ◌<◌}
use Rattle.trits.specs.declared.Vector.{Vector}

-- bit e of a word
unfoldable pub bit : ℕ → ℕ → ℕ
bit x e = x / 2 ^ e % 2

-- the trit at e of a pair of words: 00 is 0, 10 is 1, 11 is 2
unfoldable pub trit : Vector → ℕ → ℕ
trit v e = bit v.high e + bit v.low e

-- a legal vector of m trits: no low bit without its high bit, and nothing from bit m upward
pub record Legal (m : ℕ) (v : Vector) : Type 0 where
  pub paired : (e : ℕ) → bit v.low e ≤ bit v.high e
  pub above : (e : ℕ) → m ≤ e → bit v.high e ≡ 0

-- r is the legal vector of m trits whose trit e is f e modulo 3
pub record Holds (m : ℕ) (f : ℕ → ℕ) (r : Vector) : Type 0 where
  pub legal : Legal m r
  pub each : (e : ℕ) → e < m → trit r e ≡ f e % 3

-- the number whose n lowest bits are the f e
unfoldable pub from_bits : ℕ → (ℕ → ℕ) → ℕ
from_bits zero f = 0
from_bits (suc n) f = f 0 + 2 * from_bits n (λ e. f (suc e))

-- that vector, computed
unfoldable pub of_trits : ℕ → (ℕ → ℕ) → Vector
of_trits m f = record { high = from_bits m (λ e. (f e % 3 + 1) / 2); low = from_bits m (λ e. f e % 3 / 2) }

-- the vector of zeros
abbrev pub none : Vector
none = record { high = 0; low = 0 }

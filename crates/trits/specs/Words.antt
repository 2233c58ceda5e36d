-- What each operation makes of any two words whatever, legal or not; and what that means for legal vectors.
use Rattle.std.specs.Prelude.{◌≡◌, Bool, true, ◌&&◌, ◌↔◌, ℕ, zero, suc, ◌+◌, ◌*◌, ◌/◌, ◌%◌, ◌^◌, ◌≤◌, ◌<◌, eqb}
use Rattle.std.specs.Int.Bits.{bit_and, bit_or, bit_xor}
use Rattle.trits.specs.declared.Vector.{Vector}
use Rattle.trits.specs.Trit.{bit, trit, Legal, Holds, none}

-- the words of a sum, a negation and a product
unfoldable pub add_of : Vector → Vector → Vector
add_of a b =
    record {
      high = bit_or (bit_xor a.high b.high) (bit_xor (bit_xor a.low b.high) b.low);
      low = bit_and (bit_xor a.high b.low) (bit_xor a.low b.high);
    }

unfoldable pub negate_of : Vector → Vector
negate_of v = record { high = v.high; low = bit_xor v.high v.low }

unfoldable pub product_of : Vector → Vector → Vector
product_of a b = record { high = bit_and a.high b.high; low = bit_and (bit_and a.high b.high) (bit_xor a.low b.low) }

-- a vector times the remainder of t
unfoldable pub times_in : ℕ → Vector → Vector
times_in zero v = none
times_in (suc zero) v = v
times_in (suc (suc k)) v = negate_of v

unfoldable pub times_of : Vector → ℕ → Vector
times_of v t = times_in (t % 3) v

-- whether a vector is zero: its high word is
abbrev pub is_zero : Vector → Bool
is_zero v = eqb v.high 0

-- what each operation states: its words, and for legal vectors its trits
pub record Added (a b r : Vector) : Type 0 where
  pub words : r ≡ add_of a b
  pub trits : (m : ℕ) → Legal m a → Legal m b → Holds m (λ e. trit a e + trit b e) r

pub record Negated (v r : Vector) : Type 0 where
  pub words : r ≡ negate_of v
  pub trits : (m : ℕ) → Legal m v → Holds m (λ e. 2 * trit v e) r

pub record Multiplied (a b r : Vector) : Type 0 where
  pub words : r ≡ product_of a b
  pub trits : (m : ℕ) → Legal m a → Legal m b → Holds m (λ e. trit a e * trit b e) r

pub record Scaled (v : Vector) (t : ℕ) (r : Vector) : Type 0 where
  pub words : r ≡ times_of v t
  pub trits : (m : ℕ) → Legal m v → Holds m (λ e. trit v e * t) r

pub record Tested (v : Vector) (r : Bool) : Type 0 where
  pub word : r ≡ is_zero v
  pub trits : (m : ℕ) → Legal m v → (r ≡ true) ↔ ((e : ℕ) → e < m → trit v e ≡ 0)

-- r is v with the trit t, modulo 3, at e; every other bit is as it was, and from 64 upward there is none to set
pub record Put (v : Vector) (e t : ℕ) (r : Vector) : Type 0 where
  pub high : e < 64 → bit r.high e ≡ (t % 3 + 1) / 2
  pub low : e < 64 → bit r.low e ≡ t % 3 / 2
  pub other_high : (k : ℕ) → (k ≡ e → ⊥) → bit r.high k ≡ bit v.high k
  pub other_low : (k : ℕ) → (k ≡ e → ⊥) → bit r.low k ≡ bit v.low k
  pub past : 64 ≤ e → r ≡ v

-- whether a pair is legal, as a test of its words: the mask keeps all of the low word, and nothing is left above m
abbrev pub is_legal : ℕ → Vector → Bool
is_legal m v = eqb (bit_and v.high v.low) v.low && eqb (v.high / 2 ^ m) 0

-- what that test says of any two words: they are a legal vector of m trits, or not
pub record Judged (m : ℕ) (v : Vector) (r : Bool) : Type 0 where
  pub word : r ≡ is_legal m v
  pub legal : (r ≡ true) ↔ Legal m v

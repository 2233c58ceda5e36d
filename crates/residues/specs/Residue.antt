-- The floor remainder of an integer modulo q, over the integers.
use Rattle.std.specs.Prelude.{◌≡◌, ℕ, ◌-◌, ◌%◌, ◌<◌, ℤ, pos, negsuc, ◌+ℤ◌, ◌*ℤ◌}

-- r is the remainder of c: below q, and c is a multiple of q and r
pub record Remainder (q : ℕ) (c : ℤ) (r : ℕ) : Type 0 where
  pub small : r < q
  pub quotient : ℤ
  pub whole : c ≡ (pos q *ℤ quotient) +ℤ pos r

-- the same, computed: `negsuc n` is -(n + 1)
abbrev pub floor_mod : ℕ → ℤ → ℕ
floor_mod q (pos n) = n % q
floor_mod q (negsuc n) = q - 1 - n % q

-- what is given back for the coefficient c: its floor remainder modulo 3
pub record Reduced (c : ℤ) (r : ℕ) : Type 0 where
  pub computed : r ≡ floor_mod 3 c
  pub remainder : Remainder 3 c r

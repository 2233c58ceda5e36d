-- What the walk record of a table holds at a place, in the documents' words: value, slots and second slots.
use Rattle.std.specs.Prelude.{◌&&◌, List, [], ◌∷◌, ◌++◌, ℕ, zero, suc, ◌+◌, ◌-◌, ltb}
use Rattle.refusals.specs.Choice.{pick}
use Rattle.trits.specs.declared.Vector.{Vector}
use Rattle.trits.specs.Trit.{of_trits, none}
use Rattle.positions.specs.Positions.{latest}
use Rattle.gray.specs.Numbers.{point_digit}
use Rattle.held.specs.Held.{along, held}
use Rattle.polynomials.specs.Poly.{change_by}
use Rattle.tables.specs.Words.{tabled}
use Rattle.given.specs.Given.{Given, depth_of, values_of}

-- the system at the point of place p
unfoldable pub value_at : Given → ℕ → Vector
value_at g p = of_trits g.m (λ e. values_of g e (point_digit 3 p))

-- the difference "system after adding 1 to b, minus system" at the point just before b's latest move at or before place q,
-- or just before its first; zero for an unknown that the system does not have
unfoldable pub slot_at : Given → ℕ → ℕ → Vector
slot_at g q b = pick (ltb b g.n) (of_trits g.m (λ e. change_by 3 (values_of g e) b (point_digit 3 (latest 3 b q - 1)))) none

-- the slots of k unknowns from b on
unfoldable pub slots_at : Given → ℕ → ℕ → ℕ → List Vector
slots_at g q b zero = []
slots_at g q b (suc k) = slot_at g q b ∷ slots_at g q (suc b) k

-- second slot (b, c), b not above c: the change last added to slot b up to place q at a place whose first two positions are b, c; before
-- that, the change due at the place with exactly these two. Zero in degree 2, and for an unknown that the system does not have
unfoldable pub second_at : Given → ℕ → ℕ → ℕ → Vector
second_at g q b c = pick (ltb 2 (depth_of g.degree) && ltb c g.n) (of_trits g.m (λ e. held 3 (along 3 (values_of g e)) (b ∷ c ∷ []) q)) none

-- the words of the second slots of k unknowns from b on, high then low: (b, b), (b, b + 1), .., then those of the next
unfoldable pub seconds_at : Given → ℕ → ℕ → ℕ → List ℕ
seconds_at g q b zero = []
seconds_at g q b (suc k) = tabled (suc k) (λ i. second_at g q b (b + i)) ++ seconds_at g q (suc b) k

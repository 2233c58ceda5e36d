-- What a state says of the equations behind the table, and which trail of calls the search follows: held/specs/Stands in base 3 and degree 3.
-- F e is equation e as a function of points.
use Rattle.std.specs.Prelude.{◌≡◌, List, [], ◌∷◌, ℕ, ◌≤◌, ◌<◌, length, get_or}
use Rattle.trits.specs.declared.Vector.{Vector}
use Rattle.trits.specs.Trit.{Holds, none}
use Rattle.tables.specs.Words.{entry}
use Rattle.walks.specs.Calls.{Trail, Answered}
use Rattle.held.specs.Held as held
use Rattle.held.specs.Stands as any
use Rattle.cubic_tables.specs.Order.{seat_of}
use Rattle.cubic_moves.specs.Step.{State}

-- what a state holds for a list of positions: the value for none, slot b for b, second slot b, c for b and c
unfoldable pub held_by : State → List ℕ → Vector
held_by s [] = s.value
held_by s (b ∷ []) = get_or s.slots b none
held_by s (b ∷ c ∷ L) = entry s.seconds (seat_of b c)

-- the state stands before place p of the walk of the m equations F: value, slots and second slots are the legal vectors of what is
-- held, slots from n on are zero, and so are the second slots of pairs that n unknowns lack
pub record Stands (F : ℕ → (ℕ → ℕ) → ℕ) (n m p : ℕ) (s : State) : Type 0 where
  pub place : s.place ≡ p
  pub room : n ≤ length s.slots
  pub seats : length s.seconds ≡ 420
  pub holds : any.Stands (Holds m) 3 3 n F p (held_by s)
  pub rest : (i : ℕ) → n ≤ i → get_or s.slots i none ≡ none
  pub spare : (b c : ℕ) → b ≤ c → c < 20 → n ≤ c → entry s.seconds (seat_of b c) ≡ none

-- T holds the entries of three positions of the m equations F, as legal vectors; no place has one position three times
abbrev pub Tabled : (ℕ → (ℕ → ℕ) → ℕ) → ℕ → ℕ → (ℕ → ℕ → ℕ → Vector) → Type 0
Tabled F n m T = (b c d : ℕ) → b ≤ c → c ≤ d → b < d → d < n → Holds m (λ e. held.entry 3 (held.along 3 (F e)) (b ∷ c ∷ d ∷ [])) (T b c d)

-- the walk of the m equations F as calls see it, up to place e
abbrev pub trail_of : (ℕ → (ℕ → ℕ) → ℕ) → ℕ → ℕ → ℕ → Trail
trail_of F n m e = any.trail_of 3 3 F n m e

-- r is what a call on a trail leaves, from place p with the budget b and the list l
abbrev pub Answers : Trail → ℕ → ℕ → List ℕ → State → Type 0
Answers T b p l r = Answered T b p l r.place r.additions r.found r.list

-- What a state says of the system behind the table, and which trail of calls the search follows: held/specs/Stands in base 3 and degree 2.
use Rattle.std.specs.Prelude.{◌≡◌, List, [], ◌∷◌, ℕ, ◌≤◌, length, get_or}
use Rattle.trits.specs.declared.Vector.{Vector}
use Rattle.trits.specs.Trit.{Holds, none}
use Rattle.polynomials.specs.Poly.{Poly, value_of}
use Rattle.walks.specs.Calls.{Trail, Answered}
use Rattle.held.specs.Stands as any
use Rattle.moves.specs.Step.{State}

-- a system of equations of n unknowns, as functions of points
abbrev pub values_of : (ℕ → Poly) → ℕ → ℕ → (ℕ → ℕ) → ℕ
values_of F n e = value_of (F e) n

-- what a state holds for a list of positions: the value for none, slot b for b
unfoldable pub held_by : State → List ℕ → Vector
held_by s [] = s.value
held_by s (b ∷ L) = get_or s.slots b none

-- what a table of products holds for two positions
unfoldable pub entry_by : (ℕ → ℕ → Vector) → List ℕ → Vector
entry_by T [] = none
entry_by T (b ∷ []) = none
entry_by T (b ∷ c ∷ L) = T b c

-- the state stands before place p of the walk of the m equations F: value and slots are the legal vectors of what is held,
-- and slots from n on are zero
pub record Stands (F : ℕ → Poly) (n m p : ℕ) (s : State) : Type 0 where
  pub place : s.place ≡ p
  pub room : n ≤ length s.slots
  pub holds : any.Stands (Holds m) 3 2 n (values_of F n) p (held_by s)
  pub rest : (i : ℕ) → n ≤ i → get_or s.slots i none ≡ none

-- T holds the entries of two positions of the m equations F, as legal vectors
abbrev pub Tabled : (ℕ → Poly) → ℕ → ℕ → (ℕ → ℕ → Vector) → Type 0
Tabled F n m T = any.Tabled (Holds m) 3 2 n (values_of F n) (entry_by T)

-- the walk of the m equations F as calls see it, up to place e
abbrev pub trail_of : (ℕ → Poly) → ℕ → ℕ → ℕ → Trail
trail_of F n m e = any.trail_of 3 2 (values_of F n) n m e

-- r is what a call on a trail leaves, from place p with the budget b and the list l
abbrev pub Answers : Trail → ℕ → ℕ → List ℕ → State → Type 0
Answers T b p l r = Answered T b p l r.place r.additions r.found r.list

-- What "each zero once, in order" means: the list of entries is read off the rising list of the places of the zeros.
use Rattle.std.specs.Prelude.{◌≡◌, true, List, [], ℕ, zero, suc, ◌+◌, ◌≤◌, ◌<◌, length, get_or}
use Rattle.walks.specs.Calls.{Trail, listed}

-- x is one of the k places from p, and a zero
pub record ZeroIn (T : Trail) (p k x : ℕ) : Type 0 where
  pub from : p ≤ x
  pub below : x < p + k
  pub zero : T.zero_at x ≡ true

-- the places of the zeros among k places from p
unfoldable pub places_in : Trail → ℕ → ℕ → List ℕ
places_in T p zero = []
places_in T p (suc k) = listed (T.zero_at p) p (places_in T (suc p) k)

-- x stands somewhere in l
abbrev pub Holds : ℕ → List ℕ → Type 0
Holds x l = (i : ℕ) × (i < length l) × (get_or l i 0 ≡ x)

-- each entry of l is above those before it
abbrev pub Rising : List ℕ → Type 0
Rising l = (i j : ℕ) → i < j → j < length l → get_or l i 0 < get_or l j 0

-- no entry of l occurs twice
abbrev pub Once : List ℕ → Type 0
Once l = (i j : ℕ) → i < length l → j < length l → get_or l i 0 ≡ get_or l j 0 → i ≡ j

-- different places have different entries
abbrev pub Distinct : Trail → Type 0
Distinct T = (a b : ℕ) → a < T.end → b < T.end → T.entry a ≡ T.entry b → a ≡ b

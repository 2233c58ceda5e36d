-- Word tables: high then low for each monomial, equation e at bit e.
use Rattle.std.specs.Prelude.{◌≡◌, true, false, List, [], ◌∷◌, ℕ, zero, suc, ◌+◌, ◌*◌, ◌≤◌, ◌<◌, ℤ, pos, length, get_or, set}
use Rattle.residues.specs.Residue.{floor_mod}
use Rattle.trits.specs.declared.Vector.{Vector}
use Rattle.trits.specs.Trit.{trit, Legal, of_trits}
use Rattle.trits.specs.Words.{is_legal}
use Rattle.gray.specs.Numbers.{digit}
use Rattle.polynomials.specs.Poly.{Poly, value_of, table_of, back_of}
use Rattle.tables.specs.Monomials.{count_of, index_of, nth}

-- entry k of a table
unfoldable pub entry : List ℕ → ℕ → Vector
entry t k = record { high = get_or t (2 * k) 0; low = get_or t (2 * k + 1) 0 }

-- a table with v as its entry k
unfoldable pub put_at : List ℕ → ℕ → Vector → List ℕ
put_at t k v = set (set t (2 * k) v.high) (2 * k + 1) v.low

-- new is old with the entries of g from a up to b, b not among them
pub record Written (g : List ℕ) (a b : ℕ) (old new : List ℕ) : Type 0 where
  pub size : length new ≡ length old
  pub here : (k : ℕ) → a ≤ k → k < b → entry new k ≡ entry g k
  pub kept : (k : ℕ) → (a ≤ k → k < b → ⊥) → entry new k ≡ entry old k

-- the words of the k vectors g 0, g 1, ..
unfoldable pub tabled : ℕ → (ℕ → Vector) → List ℕ
tabled zero g = []
tabled (suc k) g = (g 0).high ∷ (g 0).low ∷ tabled k (λ i. g (suc i))

-- how many entries at the front of a table are legal: all of them, or the number of the first that is not
unfoldable pub legal_front : ℕ → List ℕ → ℕ
legal_front m [] = 0
legal_front m (h ∷ []) = 0
legal_front m (h ∷ l ∷ t) = elim (is_legal m (record { high = h; low = l })) [ true ↦ suc (legal_front m t) | false ↦ 0 ]

-- a legal table of N entries and m equations: of the exact length, every pair legal
pub record Entries (N m : ℕ) (t : List ℕ) : Type 0 where
  pub size : length t ≡ 2 * N
  pub legal : (k : ℕ) → k < N → Legal m (entry t k)

-- a legal table of n unknowns and m equations
abbrev pub Table : ℕ → ℕ → List ℕ → Type 0
Table n m t = Entries (count_of n) m t

-- equation e of the system whose coefficients a table holds
unfoldable pub poly_at : ℕ → List ℕ → ℕ → Poly
poly_at n t e =
    record { const = trit (entry t 0) e; lin = λ i. trit (entry t (1 + i)) e; quad = λ i j. trit (entry t (index_of n i j)) e }

-- the table of a system of m equations: entry k holds coefficient k of each
unfoldable pub words_of : ℕ → ℕ → (ℕ → Poly) → List ℕ
words_of n m F = tabled (count_of n) (λ k. of_trits m (λ e. nth n (F e) k))

-- signed rows of N numbers as words: trit e of entry k is the remainder of number k of row e
abbrev pub packed_rows : ℕ → ℕ → List ℤ → List ℕ
packed_rows N m rows = tabled N (λ k. of_trits m (λ e. floor_mod 3 (get_or rows (e * N + k) (pos 0))))

unfoldable pub packed : ℕ → ℕ → List ℤ → List ℕ
packed n m rows = packed_rows (count_of n) m rows

-- the table of differences of a coefficient table, and back
unfoldable pub differences_of : ℕ → ℕ → List ℕ → List ℕ
differences_of n m c = words_of n m (λ e. table_of 3 (poly_at n c e))

unfoldable pub coefficients_of : ℕ → ℕ → List ℕ → List ℕ
coefficients_of n m t = words_of n m (λ e. back_of 3 2 (poly_at n t e))

-- the value of each equation of a coefficient table at point number x
unfoldable pub values_at : ℕ → ℕ → List ℕ → ℕ → Vector
values_at n m c x = of_trits m (λ e. value_of (poly_at n c e) n (digit 3 x))

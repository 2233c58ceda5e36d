-- What a walk in Gray order holds for each list of positions, in any base q and degree, and how a place moves it.
use Rattle.std.specs.Prelude.{Bool, true, false, ◌&&◌, List, [], ◌∷◌, ℕ, zero, suc, ◌+◌, ◌-◌, ◌*◌, ◌^◌, eqb, length, take}
use Rattle.residues.specs.Sums.{same}
use Rattle.gray.specs.Numbers.{point_digit}
use Rattle.positions.specs.Positions.{positions}

-- the values of a function of points, by places
abbrev pub along : ℕ → ((ℕ → ℕ) → ℕ) → ℕ → ℕ
along q F p = F (point_digit q p)

-- whether a list of positions begins with L
unfoldable pub begins : List ℕ → List ℕ → Bool
begins [] ps = true
begins (b ∷ L) [] = false
begins (b ∷ L) (c ∷ ps) = eqb b c && begins L ps

-- the place with exactly the positions L: no place before it begins with L
unfoldable pub first_of : ℕ → List ℕ → ℕ
first_of q [] = 0
first_of q (b ∷ L) = q ^ b + first_of q L

-- the latest place up to p whose first positions are L; before there is one, the place with exactly these
unfoldable pub latest_of : ℕ → List ℕ → ℕ → ℕ
latest_of q L zero = first_of q L
latest_of q L (suc p) = elim (begins L (positions q (suc p))) [ true ↦ suc p | false ↦ latest_of q L p ]

-- the change of order k that place p makes in the values v: that of order k - 1, less the one at the latest place before p
-- with the same first k - 1 positions. Order 0 is the value; numbers count modulo q, and minus is (q - 1) times
unfoldable pub change : ℕ → (ℕ → ℕ) → ℕ → ℕ → ℕ
change q v zero p = v p
change q v (suc k) p = change q v k p + (q - 1) * change q v k (latest_of q (take k (positions q p)) (p - 1))

-- what is held for L after place p: the change last made at a place whose first positions are L; before that, the change due
-- at the place with exactly these. For no position it is the value, for b slot b, for b and c second slot (b, c)
unfoldable pub held : ℕ → (ℕ → ℕ) → List ℕ → ℕ → ℕ
held q v L p = change q v (length L) (latest_of q L p)

-- the table's entry for L: the change at the place with exactly the positions L, which is what is held at place 0
unfoldable pub entry : ℕ → (ℕ → ℕ) → List ℕ → ℕ
entry q v L = change q v (length L) (first_of q L)

-- the move at a place with the positions ps, in degree d: from the deepest on, what is held for one position more is added to
-- what is held for one less. What is held for d positions is the table's and does not move
unfoldable pub move : {A : Type 0} → (A → A → A) → ℕ → List ℕ → (List ℕ → A) → List ℕ → A
move add zero ps H L = H L
move add (suc d) [] H L = H L
move add (suc d) (b ∷ ps) H [] = add (H []) (move add d ps (λ L. H (b ∷ L)) [])
move add (suc d) (b ∷ ps) H (c ∷ L) = elim (same b c) [ zero ↦ H (c ∷ L) | suc s ↦ move add d ps (λ L. H (b ∷ L)) L ]

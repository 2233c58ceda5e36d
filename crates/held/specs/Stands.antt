-- What a state stands for in the walk of several equations, and that walk as calls see it, in any base q and degree d.
-- F e is equation e as a function of points. Vectors are read by Shows: Shows f x says that x stands, legally, for the number f e
-- modulo q of each equation e.
use Rattle.std.specs.Prelude.{◌≡◌, Bool, true, ◌&&◌, List, [], ◌∷◌, ℕ, zero, suc, ◌-◌, ◌%◌, ◌<◌, ◌≤◌, min, eqb, length}
use Rattle.positions.specs.Positions.{positions}
use Rattle.gray.specs.Numbers.{point_digit, point_of}
use Rattle.walks.specs.Calls.{Trail}
use Rattle.held.specs.Held.{along, held, entry}

-- positions from c on, none below the one before it, all below n: what the positions of a place of n digits are
abbrev pub Rises : ℕ → ℕ → List ℕ → Type 0
Rises c n [] = 0 ≤ n
Rises c n (b ∷ L) = (c ≤ b) × (b < n) × Rises b n L

-- before place p, H L stands for what is held for L after the place before p (before place 0: at the start),
-- for every list L of fewer than d positions
abbrev pub Stands : {A : Type 0} → ((ℕ → ℕ) → A → Type 0) → ℕ → ℕ → ℕ → (ℕ → (ℕ → ℕ) → ℕ) → ℕ → (List ℕ → A) → Type 0
Stands Shows q d n F p H = (L : List ℕ) → length L < d → Rises 0 n L → Shows (λ e. held q (along q (F e)) L (p - 1)) (H L)

-- H L stands for the table's entry for L, for every list L of d positions
abbrev pub Tabled : {A : Type 0} → ((ℕ → ℕ) → A → Type 0) → ℕ → ℕ → ℕ → (ℕ → (ℕ → ℕ) → ℕ) → (List ℕ → A) → Type 0
Tabled Shows q d n F H = (L : List ℕ) → length L ≡ d → Rises 0 n L → Shows (λ e. entry q (along q (F e)) L) (H L)

-- whether each of m values is 0 modulo q
unfoldable pub zeros : ℕ → ℕ → (ℕ → ℕ) → Bool
zeros q zero f = true
zeros q (suc m) f = zeros q m f && eqb (f m % q) 0

-- the walk of m equations of n unknowns as calls see it, up to place e: a place is a zero where every equation is 0 at its point,
-- the point is what is listed, and a place costs an addition for each of its positions, at most d
abbrev pub trail_of : ℕ → ℕ → (ℕ → (ℕ → ℕ) → ℕ) → ℕ → ℕ → ℕ → Trail
trail_of q d F n m e =
    record {
      end = e;
      zero_at = λ p. zeros q m (λ k. F k (point_digit q p));
      entry = point_of q n;
      cost = λ p. min d (length (positions q p));
    }

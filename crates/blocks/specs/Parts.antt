-- The state from the parts that the code holds, and blocks of 27 places in the code's terms.
use Rattle.std.specs.Prelude.{◌≡◌, List, ◌∷◌, ℕ, zero, suc, ◌+◌, ◌≤◌}
use Rattle.trits.specs.declared.Vector.{Vector}
use Rattle.moves.specs.Step.{State, bump, note_by}
use Rattle.blocks.specs.declared.parts.Part.{Part}
use Rattle.blocks.specs.declared.parts.Top.{Top}

-- the state of a part: its three slots, then the rest
abbrev pub whole : Part → List Vector → List ℕ → State
whole x rest l =
    record {
      place = x.place;
      value = x.value;
      slots = x.s0 ∷ x.s1 ∷ x.s2 ∷ rest;
      additions = x.additions;
      found = x.found;
      list = l;
    }

-- k places on, with at most a additions
pub record Went (x r : Part) (k a : ℕ) : Type 0 where
  pub place : r.place ≡ x.place + k
  pub found : r.found ≤ x.found + k
  pub additions : r.additions ≤ x.additions + a

-- inside a block a zero is listed as its place; the block's end turns the places into points
abbrev pub jot_of : State → State
jot_of s = note_by (λ p. p) s

-- three places, where the first has been moved to
unfoldable pub three_of : Vector → Vector → State → State
three_of th t00 s = jot_of (bump 0 t00 (jot_of (bump 0 th (jot_of s))))

-- three places, and k times a move of slot 1 and three more
unfoldable pub rows_of : ℕ → Vector → Vector → Vector → Vector → Vector → State → State
rows_of zero t0h t1h t00 t01 t11 s = three_of t0h t00 s
rows_of (suc k) t0h t1h t00 t01 t11 s = rows_of k t01 t11 t00 t01 t11 (bump 1 t1h (three_of t0h t00 s))

-- nine places, where the first has been moved to
unfoldable pub nine_of : Vector → Vector → Top → State → State
nine_of t0h t1h t s = rows_of 2 t0h t1h t.t00 t.t01 t.t11 s

-- nine places, and k times a move of slot 2 and nine more
unfoldable pub legs_of : ℕ → Vector → Vector → Vector → Top → State → State
legs_of zero t0h t1h t2h t s = nine_of t0h t1h t s
legs_of (suc k) t0h t1h t2h t s = legs_of k t.t02 t.t12 t.t22 t (bump 2 t2h (nine_of t0h t1h t s))

-- 27 places, where the first has been moved to
abbrev pub big_of : Vector → Vector → Vector → Top → State → State
big_of t0h t1h t2h t s = legs_of 2 t0h t1h t2h t s

-- the entries that every block uses
abbrev pub top_of : (ℕ → ℕ → Vector) → Top
top_of T = record { t00 = T 0 0; t01 = T 0 1; t11 = T 1 1; t02 = T 0 2; t12 = T 1 2; t22 = T 2 2 }

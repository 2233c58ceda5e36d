-- The state from the parts that the code holds, and blocks of 27 places in the code's terms.
use Rattle.std.specs.Prelude.{List, ◌∷◌, length, ℕ, zero, suc, ◌+◌, ◌-◌, ◌*◌, ◌≤◌, ◌<◌}
use Rattle.trits.specs.declared.Vector.{Vector}
use Rattle.cubic_moves.specs.Step.{State, bump, jot_of}
use Rattle.cubic_tables.specs.Order.{key_of}
use Rattle.blocks.specs.declared.parts.Part.{Part}
use Rattle.cubic_blocks.specs.declared.parts.Keys.{Keys}

-- the state of a part: its three slots, then the rest; the second slots and the list lent
abbrev pub whole : Part → List Vector → List ℕ → List ℕ → State
whole x rest w l =
    record {
      place = x.place;
      value = x.value;
      slots = x.s0 ∷ x.s1 ∷ x.s2 ∷ rest;
      seconds = w;
      additions = x.additions;
      found = x.found;
      list = l;
    }

-- the keys of a walk over n unknowns
abbrev pub keys_of : ℕ → Keys
keys_of n = record { k0 = key_of n 0; k1 = key_of n 1; k2 = key_of n 2; p1 = n - 1; p2 = 2 * n - 3 }

-- every entry that a block reads is in the table t: below the unknown c and the number p of the pair (c, d), of so many pairs
pub record Fits (t : List ℕ) (k : Keys) (c p : ℕ) : Type 0 where
  pub pairs : ℕ
  pub room0 : 2 * (k.k0 + pairs) ≤ length t
  pub room1 : 2 * (k.k1 + pairs) ≤ length t
  pub room2 : 2 * (k.k2 + pairs) ≤ length t
  pub least : 2 ≤ k.p1
  pub most : k.p1 ≤ 19
  pub one : k.p1 + k.p1 < pairs
  pub two : k.p2 + k.p1 < pairs
  pub low : c ≤ k.p1
  pub pair : p < pairs

-- three places below (c, d), where the first has been moved to: p is the number of that pair, E p the triple of 0, c, d
unfoldable pub three_of : (ℕ → Vector) → ℕ → ℕ → ℕ → State → State
three_of E k0 c p s = jot_of (bump 0 0 (E (k0 + c)) (jot_of (bump 0 c (E (k0 + p)) (jot_of s))))

-- three places, and j times a move of slot 1 and three more, below (1, c) and then (1, 1)
unfoldable pub rows_of : (ℕ → Vector) → Keys → ℕ → ℕ → ℕ → State → State
rows_of E k zero c p s = three_of E k.k0 c p s
rows_of E k (suc j) c p s = rows_of E k j 1 (k.p1 + c) (bump 1 (19 + c) (E (k.k1 + p)) (three_of E k.k0 c p s))

-- nine places below (c, d)
unfoldable pub nine_of : (ℕ → Vector) → Keys → ℕ → ℕ → State → State
nine_of E k c p s = rows_of E k 2 c p s

-- nine places, and j times a move of slot 2 and nine more, below (2, c) and then (2, 2)
unfoldable pub legs_of : (ℕ → Vector) → Keys → ℕ → ℕ → ℕ → State → State
legs_of E k zero c p s = nine_of E k c p s
legs_of E k (suc j) c p s = legs_of E k j 2 (k.p2 + c) (bump 2 (37 + c) (E (k.k2 + p)) (nine_of E k c p s))

-- 27 places below (c, d)
abbrev pub big_of : (ℕ → Vector) → Keys → ℕ → ℕ → State → State
big_of E k c p s = legs_of E k 2 c p s

-- A block of 27 places in the code's terms: the rows and legs that are left, and which entries they read.
use mathlib.Core.Path.{◌≡◌, refl, sym, ap, ◌∙◌}
use mathlib.Core.List.{List}
use Prim.Native.Nat.{ℕ, zero, suc, ◌+◌, ◌-◌, ◌≤◌, ◌<◌}
use native.Mathlib.Omega.{arith}
use lib.ListN.{get_or}
use Rattle.trits.specs.declared.Vector.{Vector}
use Rattle.trits.specs.Trit.{none}
use Rattle.trits.specs.Words.{add_of}
use Rattle.tables.specs.Words.{entry, put_at}
use Rattle.moves.specs.Step as flat
use Rattle.moves.specs.declared.Moved.{Moved}
use Rattle.cubic_moves.specs.Step.{State, bump, note_by}
use Rattle.cubic_moves.specs.Moves.{headed}
use Rattle.cubic_blocks.specs.Parts.{Fits, three_of, rows_of, nine_of, legs_of}
use Rattle.cubic_blocks.specs.declared.parts.Keys.{Keys}

-- a state of degree 2 with second slots beside it
abbrev pub beside : List ℕ → flat.State → State
beside w s =
    record {
      place = s.place;
      value = s.value;
      slots = s.slots;
      seconds = w;
      additions = s.additions;
      found = s.found;
      list = s.list;
    }

-- what is noted does not look at them
pub beside_note : (f : ℕ → ℕ) (w : List ℕ) (s : flat.State) → beside w (flat.note_by f s) ≡ note_by f (beside w s)
unfolding flat.note_by note_by
beside_note f w s = refl

-- three additions: second slot k, slot b, the value
pub headed_bump : (b k : ℕ) (t v : Vector) (a : ℕ) (s : State) (w : List ℕ) (r : Moved) → v ≡ add_of (entry s.seconds k) t → a ≡ s.additions + 1 → w ≡ put_at s.seconds k v
    → r.slot ≡ add_of (get_or s.slots b none) v → r.value ≡ add_of s.value (add_of (get_or s.slots b none) v) → r.additions ≡ a + 1 + 1
    → headed s b r w ≡ bump b k t s
unfolding bump
headed_bump b k t v a s w r hv ha hw hs hy hr = rw (hr, ha, hy, hs, hw, hv)

-- one level down and on: below (1, c), below (2, c)
module _ {t : List ℕ} {k : Keys} {c p : ℕ} (f : Fits t k c p) where
  pub fits_one : Fits t k 1 (k.p1 + c)
  fits_one =
      record {
        pairs = f.pairs;
        room0 = f.room0;
        room1 = f.room1;
        room2 = f.room2;
        least = f.least;
        most = f.most;
        one = f.one;
        two = f.two;
        low = omega (arith, f.least);
        pair = omega (arith, f.one, f.low);
      }

  pub fits_two : Fits t k 2 (k.p2 + c)
  fits_two =
      record {
        pairs = f.pairs;
        room0 = f.room0;
        room1 = f.room1;
        room2 = f.room2;
        least = f.least;
        most = f.most;
        one = f.one;
        two = f.two;
        low = f.least;
        pair = omega (arith, f.two, f.low);
      }

-- what the turns that are left of a loop make of a state, where f i is one turn and the i after it
unfoldable pub left : (ℕ → State → State) → ℕ → State → State
left f zero s = s
left f (suc i) s = f i s

pub left_more : (f : ℕ → State → State) (j i : ℕ) (s : State) → j ≡ suc i → left f j s ≡ f i s
unfolding left
left_more f j i s e = ap (λ (m : ℕ). left f m s) e

pub left_none : (f : ℕ → State → State) (j : ℕ) (s : State) → j ≡ 0 → left f j s ≡ s
unfolding left
left_none f j s e = ap (λ (m : ℕ). left f m s) e

-- the rows of three that are left of nine places, and the legs of nine that are left of 27
module _ (E : ℕ → Vector) (k : Keys) where
  pub rows_more : (j i c p : ℕ) (s : State) → j ≡ suc i → rows_of E k j c p s ≡ rows_of E k i 1 (k.p1 + c) (bump 1 (19 + c) (E (k.k1 + p)) (three_of E k.k0 c p s))
  unfolding rows_of
  rows_more j i c p s e = ap (λ (m : ℕ). rows_of E k m c p s) e

  pub rows_none : (c p : ℕ) (s : State) → rows_of E k 0 c p s ≡ three_of E k.k0 c p s
  unfolding rows_of
  rows_none c p s = refl

  pub legs_more : (j i c p : ℕ) (s : State) → j ≡ suc i → legs_of E k j c p s ≡ legs_of E k i 2 (k.p2 + c) (bump 2 (37 + c) (E (k.k2 + p)) (nine_of E k c p s))
  unfolding legs_of
  legs_more j i c p s e = ap (λ (m : ℕ). legs_of E k m c p s) e

  pub legs_none : (c p : ℕ) (s : State) → legs_of E k 0 c p s ≡ nine_of E k c p s
  unfolding legs_of
  legs_none c p s = refl

  -- a turn of their loops keeps what is left: with a move, and the last without
  pub rows_turn : (j c p : ℕ) (s z y : State) (v : Vector) → j < 2 → z ≡ three_of E k.k0 c p s → v ≡ E (k.k1 + p) → y ≡ bump 1 (19 + c) v z
      → left (λ (i : ℕ). rows_of E k i 1 (k.p1 + c)) (3 - (j + 1)) y ≡ left (λ (i : ℕ). rows_of E k i c p) (3 - j) s
  rows_turn j c p s z y v h hz hv hy =
      let a : 3 - (j + 1) ≡ suc (1 - j) = omega arith in
      let b : 2 - j ≡ suc (1 - j) = omega arith in
      let d : 3 - j ≡ suc (2 - j) = omega arith in
      left_more (λ (i : ℕ). rows_of E k i 1 (k.p1 + c)) (3 - (j + 1)) (1 - j) y a
      ∙ ap (rows_of E k (1 - j) 1 (k.p1 + c)) (hy ∙ ap (bump 1 (19 + c) v) hz ∙ ap (λ (x : Vector). bump 1 (19 + c) x (three_of E k.k0 c p s)) hv)
      ∙ sym (left_more (λ (i : ℕ). rows_of E k i c p) (3 - j) (2 - j) s d ∙ rows_more (2 - j) (1 - j) c p s b)

  pub rows_end : (j c p : ℕ) (s z : State) → 2 ≤ j → j < 3 → z ≡ three_of E k.k0 c p s
      → left (λ (i : ℕ). rows_of E k i c p) (3 - (j + 1)) z ≡ left (λ (i : ℕ). rows_of E k i c p) (3 - j) s
  rows_end j c p s z l h hz =
      let a : 3 - (j + 1) ≡ 0 = omega arith in
      let d : 3 - j ≡ suc 0 = omega arith in
      left_none (λ (i : ℕ). rows_of E k i c p) (3 - (j + 1)) z a ∙ hz
      ∙ sym (left_more (λ (i : ℕ). rows_of E k i c p) (3 - j) 0 s d ∙ rows_none c p s)

  pub legs_turn : (j c p : ℕ) (s z y : State) (v : Vector) → j < 2 → z ≡ nine_of E k c p s → v ≡ E (k.k2 + p) → y ≡ bump 2 (37 + c) v z
      → left (λ (i : ℕ). legs_of E k i 2 (k.p2 + c)) (3 - (j + 1)) y ≡ left (λ (i : ℕ). legs_of E k i c p) (3 - j) s
  legs_turn j c p s z y v h hz hv hy =
      let a : 3 - (j + 1) ≡ suc (1 - j) = omega arith in
      let b : 2 - j ≡ suc (1 - j) = omega arith in
      let d : 3 - j ≡ suc (2 - j) = omega arith in
      left_more (λ (i : ℕ). legs_of E k i 2 (k.p2 + c)) (3 - (j + 1)) (1 - j) y a
      ∙ ap (legs_of E k (1 - j) 2 (k.p2 + c)) (hy ∙ ap (bump 2 (37 + c) v) hz ∙ ap (λ (x : Vector). bump 2 (37 + c) x (nine_of E k c p s)) hv)
      ∙ sym (left_more (λ (i : ℕ). legs_of E k i c p) (3 - j) (2 - j) s d ∙ legs_more (2 - j) (1 - j) c p s b)

  pub legs_end : (j c p : ℕ) (s z : State) → 2 ≤ j → j < 3 → z ≡ nine_of E k c p s
      → left (λ (i : ℕ). legs_of E k i c p) (3 - (j + 1)) z ≡ left (λ (i : ℕ). legs_of E k i c p) (3 - j) s
  legs_end j c p s z l h hz =
      let a : 3 - (j + 1) ≡ 0 = omega arith in
      let d : 3 - j ≡ suc 0 = omega arith in
      left_none (λ (i : ℕ). legs_of E k i c p) (3 - (j + 1)) z a ∙ hz
      ∙ sym (left_more (λ (i : ℕ). legs_of E k i c p) (3 - j) 0 s d ∙ legs_none c p s)

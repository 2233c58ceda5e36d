-- A block of 27 places in the code's terms: three slots move inside, and one from 3 on at its first place.
use mathlib.Core.Path.{◌≡◌, refl, sym, ap, ◌∙◌}
use mathlib.Core.List.{List, [], ◌∷◌}
use Prim.Native.Nat.{ℕ, zero, suc, ◌+◌, ◌-◌, ◌*◌, ◌/◌, ◌%◌, ◌^◌, ◌≤◌, ◌<◌}
use lib.Pow.{pow-add}
use native.Mathlib.Omega.{arith}
use lib.ListN.{length, get_or, set, drop}
use lib.Seq.{get_or-set_same}
use Rattle.trits.specs.declared.Vector.{Vector}
use Rattle.trits.specs.Trit.{none}
use Rattle.trits.specs.Words.{add_of}
use Rattle.positions.specs.Positions.{lowest_of, positions, reps}
use Rattle.positions.proofs.LowestLaw.{of_times}
use Rattle.positions.proofs.PositionLaw.{positions_next}
use Rattle.walks.specs.Walk.{iterate, turns, block}
use Rattle.walks.proofs.BlockLaw.{block_is}
use Rattle.moves.specs.Step.{State, push, lift, bump, move_of, walk_by, walk_of}
use Rattle.blocks.specs.Parts.{whole, three_of, rows_of, nine_of, legs_of, big_of, top_of}
use Rattle.moves.specs.Moves.{headed, turned_in}
use Rattle.moves.specs.declared.Moved.{Moved}
use Rattle.blocks.specs.declared.parts.Part.{Part}
use Rattle.blocks.specs.declared.parts.Top.{Top}
use Rattle.gray.specs.Numbers.{point_of}
use Rattle.moves.proofs.MoveLaw.{two, lawful}
use Rattle.moves.proofs.EntryLaw.{converted, entries_turned}

module _ (T : ℕ → ℕ → Vector) where
  big_is : (b : ℕ) (ps : List ℕ) (s : State) → block 3 (walk_by (λ p. p) T) 3 (b ∷ ps) s ≡ big_of (T 0 b) (T 1 b) (T 2 b) (top_of T) s
  unfolding block turns reps move_of legs_of nine_of rows_of three_of
  big_is b ps s = refl

  -- 27 places from one that 27 divides, each zero listed as its place
  pub big_step : (p b : ℕ) (s : State) → s.place ≡ p → 0 < p → p % 27 ≡ 0 → b ≡ lowest_of 3 p
      → iterate 3 (walk_by (λ p. p) T) 27 s ≡ big_of (T 0 b) (T 1 b) (T 2 b) (top_of T) (move_of T (positions 3 p) s)
  big_step p b s sp h m e =
      let k : 27 * (p / 27) ≡ p = omega arith in
      let w : positions 3 p ≡ b ∷ positions 3 (p - 3 ^ lowest_of 3 p) = positions_next 3 two p h ∙ ap (λ (n : ℕ). n ∷ positions 3 (p - 3 ^ lowest_of 3 p)) (sym e) in
      block_is 3 two (walk_by (λ p. p) T) (lawful (λ p. p) T) 3 (p / 27) s (sp ∙ sym k)
      ∙ ap (λ (x : ℕ). block 3 (walk_by (λ p. p) T) 3 (positions 3 x) (move_of T (positions 3 x) s)) k
      ∙ ap (λ (ps : List ℕ). block 3 (walk_by (λ p. p) T) 3 ps (move_of T (positions 3 p) s)) w
      ∙ big_is b (positions 3 (p - 3 ^ lowest_of 3 p)) (move_of T (positions 3 p) s)

-- the first position of a number that 27 divides
pub low27 : (p : ℕ) → 0 < p → p % 27 ≡ 0 → 3 ≤ lowest_of 3 p
low27 p h m =
    let k : 27 * (p / 27) ≡ p = omega arith in
    let e : lowest_of 3 (27 * (p / 27)) ≡ 3 + lowest_of 3 (p / 27) = of_times 3 two 3 (p / 27) (omega arith) in
    omega (arith, ap (lowest_of 3) k)

-- past the first three slots
pub get3 : (a b c : Vector) (rest : List Vector) (i : ℕ) → 3 ≤ i → get_or (a ∷ b ∷ c ∷ rest) i none ≡ get_or rest (i - 3) none
get3 a b c rest zero h = absurd (omega arith)
get3 a b c rest (suc zero) h = absurd (omega arith)
get3 a b c rest (suc (suc zero)) h = absurd (omega arith)
get3 a b c rest (suc (suc (suc i))) h = ap (λ (n : ℕ). get_or rest n none) (omega arith)

pub set3 : (a b c : Vector) (rest : List Vector) (i : ℕ) (v : Vector) → 3 ≤ i → set (a ∷ b ∷ c ∷ rest) i v ≡ a ∷ b ∷ c ∷ set rest (i - 3) v
set3 a b c rest zero v h = absurd (omega arith)
set3 a b c rest (suc zero) v h = absurd (omega arith)
set3 a b c rest (suc (suc zero)) v h = absurd (omega arith)
set3 a b c rest (suc (suc (suc i))) v h = ap (λ (n : ℕ). a ∷ b ∷ c ∷ set rest n v) (omega arith)

-- three slots read, and written back
pub split3 : (l : List Vector) → 3 ≤ length l → l ≡ get_or l 0 none ∷ get_or l 1 none ∷ get_or l 2 none ∷ drop 3 l
split3 [] h = absurd (omega arith)
split3 (a ∷ []) h = absurd (omega arith)
split3 (a ∷ b ∷ []) h = absurd (omega arith)
split3 (a ∷ b ∷ c ∷ l) h = refl

pub join3 : (l : List Vector) (a b c : Vector) → 3 ≤ length l → set (set (set l 0 a) 1 b) 2 c ≡ a ∷ b ∷ c ∷ drop 3 l
join3 [] a b c h = absurd (omega arith)
join3 (x ∷ []) a b c h = absurd (omega arith)
join3 (x ∷ y ∷ []) a b c h = absurd (omega arith)
join3 (x ∷ y ∷ z ∷ l) a b c h = refl

-- the first move of a block, in its parts
abbrev pub with3 : Part → Moved → Part
with3 x r = record { value = r.value; s0 = x.s0; s1 = x.s1; s2 = x.s2; additions = r.additions; found = x.found; place = x.place }

pub headed3 : (x : Part) (rest : List Vector) (l : List ℕ) (b : ℕ) (r : Moved) → 3 ≤ b
    → whole (with3 x r) (set rest (b - 3) r.slot) l ≡ headed (whole x rest l) b r
headed3 x rest l b r h =
    ap (λ (v : List Vector). record { place = x.place; value = r.value; slots = v; additions = r.additions; found = x.found; list = l })
    (sym (set3 x.s0 x.s1 x.s2 rest b r.slot h))

-- a move of slot b, from the two additions that the code made
pub headed_bump : (b : ℕ) (t v : Vector) (s : State) (m : Moved) → b < length s.slots → v ≡ get_or s.slots b none → m.slot ≡ add_of v t
    → m.value ≡ add_of s.value (add_of v t) → m.additions ≡ s.additions + 1 + 1 → headed s b m ≡ bump b t s
unfolding bump push lift
headed_bump b t v s m l e hs hv ha = rw (hv, hs, ha, e, get_or-set_same s.slots b (add_of (get_or s.slots b none) t) none l)

-- 27 places, from what the parts of the code give, with the places of the zeros found turned into their points at last
pub block27_is : (n : ℕ) (T : ℕ → ℕ → Vector) (x y : Part) (rest : List Vector) (l l' l'' : List ℕ) (b : ℕ) (r : Moved)
    → 0 < x.place → x.place % 27 ≡ 0 → b ≡ lowest_of 3 x.place → x.found + 27 ≤ length l
    → move_of T (positions 3 x.place) (whole x rest l) ≡ headed (whole x rest l) b r
    → whole y (set rest (b - 3) r.slot) l' ≡ big_of (T 0 b) (T 1 b) (T 2 b) (top_of T) (whole (with3 x r) (set rest (b - 3) r.slot) l)
    → l'' ≡ turned_in (point_of 3 n) x.found (y.found - x.found) l'
    → whole y (set rest (b - 3) r.slot) l'' ≡ iterate 3 (walk_of n T) 27 (whole x rest l)
block27_is n T x y rest l l' l'' b r h m e room hm hb hl =
    let t : 3 ≤ b = omega (arith, low27 x.place h m) in
    let s = whole x rest l in
    let u : whole y (set rest (b - 3) r.slot) l' ≡ iterate 3 (walk_by (λ p. p) T) 27 s =
    hb ∙ ap (big_of (T 0 b) (T 1 b) (T 2 b) (top_of T)) (headed3 x rest l b r t ∙ sym hm) ∙ sym (big_step T x.place b s refl h m e) in
    ap (λ (z : List ℕ). whole y (set rest (b - 3) r.slot) z) hl
    ∙ ap (converted (point_of 3 n) x.found) u
    ∙ entries_turned (point_of 3 n) T 27 s room

-- the first position and what is left, from a 27th
pub lift27 : (p k r : ℕ) → 0 < p → p % 27 ≡ 0 → k ≡ lowest_of 3 (p / 27) → p / 27 ≡ 3 ^ k * r → (k + 3 ≡ lowest_of 3 p) × (p ≡ 3 ^ (k + 3) * r)
lift27 p k r h m e f =
    let w : 27 * (p / 27) ≡ p = omega arith in
    let l : lowest_of 3 (27 * (p / 27)) ≡ 3 + lowest_of 3 (p / 27) = of_times 3 two 3 (p / 27) (omega arith) in
    let x : 3 ^ (k + 3) * r ≡ 27 * (3 ^ k * r) = ap (λ (n : ℕ). n * r) (pow-add 3 k 3) ∙ omega arith in
    (omega (arith, ap (lowest_of 3) w), sym w ∙ ap (λ (n : ℕ). 27 * n) f ∙ sym x)

-- the rows of three that are left of nine places, and the legs of nine that are left of 27
module _ (t00 t01 t11 : Vector) where
  pub rows_more : (k j : ℕ) (a b : Vector) (s : State) → k ≡ suc j → rows_of k a b t00 t01 t11 s ≡ rows_of j t01 t11 t00 t01 t11 (bump 1 b (three_of a t00 s))
  unfolding rows_of
  rows_more k j a b s e = ap (λ (i : ℕ). rows_of i a b t00 t01 t11 s) e

  pub rows_none : (a b : Vector) (s : State) → rows_of 0 a b t00 t01 t11 s ≡ three_of a t00 s
  unfolding rows_of
  rows_none a b s = refl

pub legs_more : (k j : ℕ) (a b c : Vector) (t : Top) (s : State) → k ≡ suc j → legs_of k a b c t s ≡ legs_of j t.t02 t.t12 t.t22 t (bump 2 c (nine_of a b t s))
unfolding legs_of
legs_more k j a b c t s e = ap (λ (i : ℕ). legs_of i a b c t s) e

pub legs_none : (a b c : Vector) (t : Top) (s : State) → legs_of 0 a b c t s ≡ nine_of a b t s
unfolding legs_of
legs_none a b c t s = refl

-- a state put together from its parts
pub together : (x : Part) (v : List Vector) (l : List ℕ) → 3 ≤ length v
    → record { place = x.place; value = x.value; slots = set (set (set v 0 x.s0) 1 x.s1) 2 x.s2; additions = x.additions; found = x.found; list = l }
    ≡ whole x (drop 3 v) l
together x v l h =
    ap (λ (z : List Vector). record { place = x.place; value = x.value; slots = z; additions = x.additions; found = x.found; list = l })
    (join3 v x.s0 x.s1 x.s2 h)

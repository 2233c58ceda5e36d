-- A walk that lists the places of its zeros, turned into one that lists f of them.
use mathlib.Core.Path.{◌≡◌, refl, sym, ap, ap₂, ◌∙◌}
use mathlib.Core.Bool.{Bool, true, false}
use mathlib.Core.List.{List, [], ◌∷◌}
use Prim.Native.Nat.{ℕ, zero, suc, ◌+◌, ◌-◌, ◌*◌, ◌/◌, ◌≤◌, ◌<◌}
use native.Mathlib.Omega.{arith}
use lib.ListN.{length, get_or, set, length-set}
use lib.Seq.{get_or-set_same, get_or-set_other, set-set, set_comm}
use Rattle.trits.specs.declared.Vector.{Vector}
use Rattle.trits.specs.Words.{is_zero}
use Rattle.positions.specs.Positions.{positions}
use Rattle.gray.specs.Numbers.{number, point_of}
use Rattle.gray.proofs.MapLaw.{point_lt, point_next_is}
use Rattle.walks.specs.Walk.{step_of, iterate}
use Rattle.moves.specs.Step.{State, push, lift, bump, move_of, note_by, walk_by, found_of, list_of}
use Rattle.moves.specs.Moves.{turned_in}
use Rattle.moves.proofs.MoveLaw.{two, end_small}
use Rattle.moves.proofs.NearLaw.{step_near}

-- a state whose entries from a on are turned into f of them
abbrev pub converted : (ℕ → ℕ) → ℕ → State → State
converted f a s =
    record {
      place = s.place;
      value = s.value;
      slots = s.slots;
      additions = s.additions;
      found = s.found;
      list = turned_in f a (s.found - a) s.list;
    }

module _ (f : ℕ → ℕ) (a : ℕ) where
  pub turned_length : (k : ℕ) (l : List ℕ) → length (turned_in f a k l) ≡ length l
  unfolding turned_in
  turned_length zero l = refl
  turned_length (suc k) l = length-set (turned_in f a k l) (a + k) _ ∙ turned_length k l

  -- none, and one entry more
  pub turned_none : (l : List ℕ) → turned_in f a 0 l ≡ l
  unfolding turned_in
  turned_none l = refl

  pub turned_more : (k : ℕ) (l : List ℕ) → turned_in f a (suc k) l ≡ set (turned_in f a k l) (a + k) (f (get_or (turned_in f a k l) (a + k) 0))
  unfolding turned_in
  turned_more k l = refl

  -- the same at entry i, from the code's own words
  pub turned_step : (i v : ℕ) (l r : List ℕ) → a ≤ i → r ≡ turned_in f a (i - a) l → v ≡ f (get_or r i 0) → set r i v ≡ turned_in f a (i + 1 - a) l
  turned_step i v l r h e w =
      let j : a + (i - a) ≡ i = omega arith in
      let n : suc (i - a) ≡ i + 1 - a = omega arith in
      let x : set (turned_in f a (i - a) l) (a + (i - a)) (f (get_or (turned_in f a (i - a) l) (a + (i - a)) 0)) ≡ set (turned_in f a (i - a) l) i (f (get_or (turned_in f a (i - a) l) i 0)) =
      ap (λ (z : ℕ). set (turned_in f a (i - a) l) z (f (get_or (turned_in f a (i - a) l) z 0))) j in
      ap (set r i) w ∙ ap (λ (z : List ℕ). set z i (f (get_or z i 0))) e ∙ sym x ∙ sym (turned_more (i - a) l) ∙ ap (λ (k : ℕ). turned_in f a k l) n

  -- an entry that is not turned yet is written before or after
  turned_set : (k j v : ℕ) (l : List ℕ) → a + k ≤ j → turned_in f a k (set l j v) ≡ set (turned_in f a k l) j v
  unfolding turned_in
  turned_set zero j v l h = refl
  turned_set (suc k) j v l h =
      let c = turned_in f a k l in
      let i : turned_in f a k (set l j v) ≡ set c j v = turned_set k j v l (omega arith) in
      let g : get_or (set c j v) (a + k) 0 ≡ get_or c (a + k) 0 = get_or-set_other c j (a + k) v 0 (λ e. absurd (omega arith)) in
      ap (λ (z : List ℕ). set z (a + k) (f (get_or z (a + k) 0))) i
      ∙ ap (λ (w : ℕ). set (set c j v) (a + k) (f w)) g
      ∙ set_comm c j (a + k) v (f (get_or c (a + k) 0)) (λ e. absurd (omega arith))

  turned_next : (k v : ℕ) (l : List ℕ) → a + k < length l → turned_in f a (suc k) (set l (a + k) v) ≡ set (turned_in f a k l) (a + k) (f v)
  turned_next k v l h =
      let c = turned_in f a k l in
      let i : turned_in f a k (set l (a + k) v) ≡ set c (a + k) v = turned_set k (a + k) v l (omega arith) in
      let g : get_or (set c (a + k) v) (a + k) 0 ≡ v = get_or-set_same c (a + k) v 0 (omega (arith, turned_length k l)) in
      turned_more k (set l (a + k) v)
      ∙ ap (λ (z : List ℕ). set z (a + k) (f (get_or z (a + k) 0))) i
      ∙ ap (λ (w : ℕ). set (set c (a + k) v) (a + k) (f w)) g
      ∙ set-set c (a + k) v (f v)

  -- a zero found at entry b
  pub turned_found : (b v : ℕ) (l : List ℕ) → a ≤ b → b < length l → set (turned_in f a (b - a) l) b (f v) ≡ turned_in f a (b + 1 - a) (set l b v)
  turned_found b v l h k =
      let e : a + (b - a) ≡ b = omega arith in
      let n : suc (b - a) ≡ b + 1 - a = omega arith in
      ap (λ (j : ℕ). set (turned_in f a (b - a) l) j (f v)) (sym e)
      ∙ sym (turned_next (b - a) v l (omega arith))
      ∙ ap₂ (λ (i j : ℕ). turned_in f a i (set l j v)) n e

  module _ (T : ℕ → ℕ → Vector) where
    moved : (ps : List ℕ) (s : State) → move_of T ps (converted f a s) ≡ converted f a (move_of T ps s)
    unfolding move_of bump push lift
    moved [] s = refl
    moved (b ∷ []) s = refl
    moved (b ∷ c ∷ ps) s = refl

    noted : (s : State) → a ≤ s.found → s.found < length s.list → note_by f (converted f a s) ≡ converted f a (note_by (λ p. p) s)
    unfolding note_by
    noted s h k = by (is_zero s.value)
      where
        state : ℕ → List ℕ → State
        state n l = record { place = s.place + 1; value = s.value; slots = s.slots; additions = s.additions; found = n; list = l }

        by : (z : Bool)
            → state (found_of z s.found) (list_of z (f s.place) s.found (turned_in f a (s.found - a) s.list))
            ≡ state (found_of z s.found) (turned_in f a (found_of z s.found - a) (list_of z s.place s.found s.list))
        by true = ap (state (s.found + 1)) (turned_found s.found s.place s.list h k)
        by false = refl

    same : (ps : List ℕ) (s : State) → ((move_of T ps s).found ≡ s.found) × (length (move_of T ps s).list ≡ length s.list)
    unfolding move_of bump push lift
    same [] s = (refl, refl)
    same (b ∷ []) s = (refl, refl)
    same (b ∷ c ∷ ps) s = (refl, refl)

    step_turned : (s : State) → a ≤ s.found → s.found < length s.list → step_of 3 (walk_by f T) (converted f a s) ≡ converted f a (step_of 3 (walk_by (λ p. p) T) s)
    unfolding step_of
    step_turned s h k =
        let ps = positions 3 s.place in
        let m = same ps s in
        ap (note_by f) (moved ps s) ∙ noted (move_of T ps s) (omega (arith, m.0)) (omega (arith, m.0, m.1))

    walk_turned : (k : ℕ) (s : State) → a ≤ s.found → s.found + k ≤ length s.list
        → iterate 3 (walk_by f T) k (converted f a s) ≡ converted f a (iterate 3 (walk_by (λ p. p) T) k s)
    unfolding iterate
    walk_turned zero s h l = refl
    walk_turned (suc k) s h l =
        let u = step_of 3 (walk_by (λ p. p) T) s in
        let n = step_near (λ p. p) T s in
        ap (iterate 3 (walk_by f T) k) (step_turned s h (omega arith))
        ∙ walk_turned k u (omega (arith, n.more)) (omega (arith, n.found, n.list))

-- the point of a place: three digits of its own, and the rest from the number of its block of 27
pub point27 : (n p : ℕ) → 3 ≤ n → point_of 3 n p ≡ point_of 3 3 p + 27 * point_of 3 (n - 3) (p / 27)
unfolding point_of number
point27 zero p h = absurd (omega arith)
point27 (suc zero) p h = absurd (omega arith)
point27 (suc (suc zero)) p h = absurd (omega arith)
point27 (suc (suc (suc n))) p h =
    let k : n ≡ suc (suc (suc n)) - 3 = omega arith in
    let e : p / 3 / 3 / 3 ≡ p / 27 = omega arith in
    join _ _ _ _ _ _ _ _ _ _ _
    (point_next_is 3 two (suc (suc n)) p) (point_next_is 3 two (suc n) (p / 3)) (point_next_is 3 two n (p / 3 / 3)) (ap₂ (point_of 3) k e)
    (point_next_is 3 two 2 p) (point_next_is 3 two 1 (p / 3)) (point_next_is 3 two 0 (p / 3 / 3)) (none (p / 3 / 3 / 3))
  where
    join : (a b c d a' b' c' d' x y z : ℕ) {r : ℕ} → a ≡ x + 3 * b → b ≡ y + 3 * c → c ≡ z + 3 * d → d ≡ r → a' ≡ x + 3 * b' → b' ≡ y + 3 * c' → c' ≡ z + 3 * d' → d' ≡ 0 → a ≡ a' + 27 * r
    join a b c d a' b' c' d' x y z {r} e f g h e' f' g' h' = omega arith

    none : (y : ℕ) → point_of 3 0 y ≡ 0
    none y = refl

pub near_is : (n p top high low : ℕ) → 3 ≤ n → p / 27 ≡ top → high ≡ 27 * point_of 3 (n - 3) top → low ≡ point_of 3 3 p → low + high ≡ point_of 3 n p
near_is n p top high low h e f g =
    ap₂ (λ (x y : ℕ). x + y) g (f ∙ ap (λ (x : ℕ). 27 * point_of 3 (n - 3) x) (sym e)) ∙ sym (point27 n p h)

-- the numbers of points are small
pub point_small : (n p : ℕ) → n ≤ 20 → point_of 3 n p < 3486784401
point_small n p h = omega (arith, point_lt 3 two n p, end_small n h)

-- k places, with room for a zero at each: the places listed at last are turned, and nothing before them
pub entries_turned : (f : ℕ → ℕ) (T : ℕ → ℕ → Vector) (k : ℕ) (s : State) → s.found + k ≤ length s.list
    → converted f s.found (iterate 3 (walk_by (λ p. p) T) k s) ≡ iterate 3 (walk_by f T) k s
entries_turned f T k s h =
    let e : s.found - s.found ≡ 0 = omega arith in
    sym (walk_turned f s.found T k s (omega arith) h)
    ∙ ap (λ (l : List ℕ). iterate 3 (walk_by f T) k (record { place = s.place; value = s.value; slots = s.slots; additions = s.additions; found = s.found; list = l }))
    (ap (λ (j : ℕ). turned_in f s.found j s.list) e ∙ turned_none f s.found s.list)

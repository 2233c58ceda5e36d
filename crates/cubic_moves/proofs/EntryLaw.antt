-- A cubic walk that lists the places of its zeros, turned into one that lists f of them.
use mathlib.Core.Path.{◌≡◌, refl, sym, ap, ◌∙◌}
use mathlib.Core.Bool.{Bool, true, false}
use mathlib.Core.List.{List, [], ◌∷◌}
use Prim.Native.Nat.{ℕ, zero, suc, ◌+◌, ◌-◌, ◌≤◌, ◌<◌}
use native.Mathlib.Omega.{arith}
use lib.ListN.{length}
use Rattle.trits.specs.declared.Vector.{Vector}
use Rattle.trits.specs.Words.{is_zero}
use Rattle.positions.specs.Positions.{positions}
use Rattle.walks.specs.Walk.{step_of, iterate}
use Rattle.moves.specs.Step.{found_of, list_of}
use Rattle.moves.specs.Moves.{turned_in}
use Rattle.moves.proofs.EntryLaw.{turned_none, turned_found}
use Rattle.cubic_moves.specs.Step.{State, push, lift, bump, move_of, note_by, walk_by}
use Rattle.cubic_moves.proofs.NearLaw.{step_near, step_more}

-- a state whose entries from a on are turned into f of them
abbrev pub converted : (ℕ → ℕ) → ℕ → State → State
converted f a s =
    record {
      place = s.place;
      value = s.value;
      slots = s.slots;
      seconds = s.seconds;
      additions = s.additions;
      found = s.found;
      list = turned_in f a (s.found - a) s.list;
    }

module _ (f : ℕ → ℕ) (a : ℕ) (T : ℕ → ℕ → ℕ → Vector) where
  moved : (ps : List ℕ) (s : State) → move_of T ps (converted f a s) ≡ converted f a (move_of T ps s)
  unfolding move_of bump push lift
  moved [] s = refl
  moved (b ∷ []) s = refl
  moved (b ∷ c ∷ []) s = refl
  moved (b ∷ c ∷ d ∷ ps) s = refl

  noted : (s : State) → a ≤ s.found → s.found < length s.list → note_by f (converted f a s) ≡ converted f a (note_by (λ p. p) s)
  unfolding note_by
  noted s h k = by (is_zero s.value)
    where
      state : ℕ → List ℕ → State
      state n l = record { place = s.place + 1; value = s.value; slots = s.slots; seconds = s.seconds; additions = s.additions; found = n; list = l }

      by : (z : Bool)
          → state (found_of z s.found) (list_of z (f s.place) s.found (turned_in f a (s.found - a) s.list))
          ≡ state (found_of z s.found) (turned_in f a (found_of z s.found - a) (list_of z s.place s.found s.list))
      by true = ap (state (s.found + 1)) (turned_found f a s.found s.place s.list h k)
      by false = refl

  same : (ps : List ℕ) (s : State) → ((move_of T ps s).found ≡ s.found) × (length (move_of T ps s).list ≡ length s.list)
  unfolding move_of bump push lift
  same [] s = (refl, refl)
  same (b ∷ []) s = (refl, refl)
  same (b ∷ c ∷ []) s = (refl, refl)
  same (b ∷ c ∷ d ∷ ps) s = (refl, refl)

  step_turned : (s : State) → a ≤ s.found → s.found < length s.list → step_of 3 (walk_by f T) (converted f a s) ≡ converted f a (step_of 3 (walk_by (λ p. p) T) s)
  unfolding step_of
  step_turned s h k =
      let ps = positions 3 s.place in
      let m = same ps s in
      ap (note_by f) (moved ps s) ∙ noted (move_of T ps s) (omega (arith, m.0)) (omega (arith, m.0, m.1))

  walk_turned : (k : ℕ) (s : State) → a ≤ s.found → s.found + k ≤ length s.list
      → iterate 3 (walk_by f T) k (converted f a s) ≡ converted f a (iterate 3 (walk_by (λ p. p) T) k s)
  unfolding iterate
  walk_turned zero s h l = refl
  walk_turned (suc k) s h l =
      let u = step_of 3 (walk_by (λ p. p) T) s in
      let n = step_near (λ p. p) T s in
      ap (iterate 3 (walk_by f T) k) (step_turned s h (omega arith))
      ∙ walk_turned k u (omega (arith, step_more (λ p. p) T s)) (omega (arith, n.found, n.list))

-- k places, with room for a zero at each: the places listed at last are turned, and nothing before them
pub entries_turned : (f : ℕ → ℕ) (T : ℕ → ℕ → ℕ → Vector) (k : ℕ) (s : State) → s.found + k ≤ length s.list
    → converted f s.found (iterate 3 (walk_by (λ p. p) T) k s) ≡ iterate 3 (walk_by f T) k s
entries_turned f T k s h =
    let e : s.found - s.found ≡ 0 = omega arith in
    sym (walk_turned f s.found T k s (omega arith) h)
    ∙ ap (λ (l : List ℕ). iterate 3 (walk_by f T) k (record { place = s.place; value = s.value; slots = s.slots; seconds = s.seconds; additions = s.additions; found = s.found; list = l }))
    (ap (λ (j : ℕ). turned_in f s.found j s.list) e ∙ turned_none f s.found s.list)

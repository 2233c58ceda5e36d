-- The move at one place in the code's terms: nothing at place 0, one addition at a power of three, two elsewhere.
use mathlib.Core.Path.{◌≡◌, refl, sym, ap, ◌∙◌}
use mathlib.Core.List.{List, [], ◌∷◌}
use Prim.Native.Nat.{ℕ, zero, suc, ◌+◌, ◌-◌, ◌*◌, ◌^◌, ◌≤◌, ◌<◌}
use native.Mathlib.Nat.{pow-le-pow_right, mul-le-mul_left, one-le-pow}
use native.Mathlib.Numerals.{add-one}
use native.Mathlib.Omega.{arith}
use lib.ListN.{length, get_or}
use lib.Seq.{set-get_or, get_or-set_same}
use Rattle.trits.specs.declared.Vector.{Vector}
use Rattle.trits.specs.Trit.{none}
use Rattle.trits.specs.Words.{add_of, is_zero}
use Rattle.positions.specs.Positions.{lowest_in, lowest_of, positions}
use Rattle.gray.specs.Numbers.{point_of}
use Rattle.walks.specs.Walk.{Lawful, step_of}
use Rattle.positions.proofs.LowestLaw.{of_lt, of_second}
use Rattle.positions.proofs.PositionLaw.{positions_none, positions_one, positions_two}
use Rattle.moves.specs.Step.{State, push, lift, bump, move_of, note_by, walk_by, walk_of, found_of, list_of}
use Rattle.moves.specs.Moves.{headed}
use Rattle.moves.specs.declared.Moved.{Moved}

pub two : 1 < 3
two = omega arith

pub lawful : (f : ℕ → ℕ) (T : ℕ → ℕ → Vector) → Lawful State (walk_by f T)
unfolding move_of note_by push bump lift
lawful f T = record { moved = stays; noted = λ s. add-one s.place }
  where
    stays : (ps : List ℕ) (s : State) → (move_of T ps s).place ≡ s.place
    stays [] s = refl
    stays (b ∷ []) s = refl
    stays (b ∷ c ∷ ps) s = refl

module _ (n : ℕ) (T : ℕ → ℕ → Vector) where
  -- place 0 moves nothing
  pub head_none : (p b : ℕ) (s : State) (r : Moved) → p ≡ 0
      → r.slot ≡ get_or s.slots b none → r.value ≡ s.value → r.additions ≡ s.additions
      → move_of T (positions 3 p) s ≡ headed s b r
  unfolding move_of
  head_none p b s r e hs hv ha = rw (e, positions_none 3 two, hs, hv, ha, set-get_or s.slots b none)

  -- one place, from its move and what is noted
  pub step_note : (s u : State) (k : ℕ) (l : List ℕ) → move_of T (positions 3 s.place) s ≡ u
      → k ≡ found_of (is_zero u.value) u.found → l ≡ list_of (is_zero u.value) (point_of 3 n u.place) u.found u.list
      → record { place = u.place + 1; value = u.value; slots = u.slots; additions = u.additions; found = k; list = l } ≡ step_of 3 (walk_of n T) s
  unfolding step_of note_by
  step_note s u k l e hk hl = rw (e, hk, hl)

  -- a power of three
  pub head_one : (p b : ℕ) (s : State) (r : Moved) → 0 < p → b ≡ lowest_of 3 p → p - 3 ^ b ≡ 0
      → r.slot ≡ get_or s.slots b none → r.value ≡ add_of s.value (get_or s.slots b none) → r.additions ≡ s.additions + 1
      → move_of T (positions 3 p) s ≡ headed s b r
  unfolding move_of push
  head_one p b s r h e z hs hv ha =
      let w : positions 3 p ≡ b ∷ [] = positions_one 3 two p h (rw e at z) ∙ ap (λ (n : ℕ). n ∷ []) (sym e) in
      rw (w, hs, hv, ha, set-get_or s.slots b none)

  -- any other place above 0
  pub head_two : (p b c : ℕ) (s : State) (r : Moved) → 0 < p → b ≡ lowest_of 3 p → 0 < p - 3 ^ b → c ≡ lowest_of 3 (p - 3 ^ b)
      → b < length s.slots
      → r.slot ≡ add_of (get_or s.slots b none) (T b c) → r.value ≡ add_of s.value r.slot → r.additions ≡ s.additions + 1 + 1
      → move_of T (positions 3 p) s ≡ headed s b r
  unfolding move_of bump push lift
  head_two p b c s r h e z f l hs hv ha =
      let y : 0 < p - 3 ^ lowest_of 3 p = rw e at z in
      let g : c ≡ lowest_of 3 (p - 3 ^ lowest_of 3 p) = rw e at f in
      let w = positions_two 3 two p h y in
      rw (w, ← g, ← e, hv, hs, ha, get_or-set_same s.slots b (add_of (get_or s.slots b none) (T b c)) none l)

pub end_small : (n : ℕ) → n ≤ 20 → 3 ^ n ≤ 3486784401
end_small n h = pow-le-pow_right {n = 3} (omega arith) {i = n} {j = 20} h

-- the second position, from what is left; 1 is left of a power alone
pub second : (p b r : ℕ) → p ≡ 3 ^ b * r → 1 < r → (0 < p - 3 ^ b) × (lowest_of 3 (p - 3 ^ b) ≡ b + lowest_of 3 (r - 1))
second p b r e h = (
  omega (arith, mul-le-mul_left (3 ^ b) h, one-le-pow b 3 (omega arith)),
  ap (λ (n : ℕ). lowest_of 3 (n - 3 ^ b)) e ∙ of_second 3 two b r h,
)

pub alone : (p b : ℕ) → p ≡ 3 ^ b * 1 → p - 3 ^ b ≡ 0
alone p b e = omega arith

-- what is left of a number above 0 is above 0, and the other way
pub above : (p b r : ℕ) → p ≡ 3 ^ b * r → 0 < r → 0 < p
above p b r e h = omega (arith, mul-le-mul_left (3 ^ b) h, one-le-pow b 3 (omega arith))

low_none : lowest_of 3 0 ≡ 0
unfolding lowest_of lowest_in
low_none = refl

-- the first position of a place is an unknown; that of place 0 counts as 0
pub first_lt : (n p : ℕ) → 0 < n → p < 3 ^ n → lowest_of 3 p < n
first_lt n zero h l = rw low_none h
first_lt n (suc p) h l = of_lt 3 two n (suc p) (omega arith) l

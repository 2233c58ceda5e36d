-- The move at one place in the code's terms, by the number of positions: none, one, two, or three and more.
use mathlib.Core.Path.{◌≡◌, refl, sym, ap, ◌∙◌}
use mathlib.Core.List.{List, [], ◌∷◌}
use Prim.Native.Nat.{ℕ, zero, suc, ◌+◌, ◌-◌, ◌*◌, ◌^◌, ◌<◌}
use native.Mathlib.Nat.{mul-le-mul_left, one-le-pow, mul-zero}
use native.Mathlib.Numerals.{add-one}
use native.Mathlib.Omega.{arith}
use lib.Pow.{pow-add}
use lib.ListN.{get_or}
use lib.Seq.{set-get_or}
use Rattle.trits.specs.declared.Vector.{Vector}
use Rattle.trits.specs.Trit.{none}
use Rattle.trits.specs.Words.{add_of, is_zero}
use Rattle.gray.specs.Numbers.{point_of}
use Rattle.positions.specs.Positions.{lowest_of, positions}
use Rattle.positions.proofs.LowestLaw.{of_lt, of_times}
use Rattle.positions.proofs.PositionLaw.{positions_none, positions_next, positions_one}
use Rattle.tables.specs.Words.{entry, put_at}
use Rattle.moves.specs.Step.{found_of, list_of}
use Rattle.moves.proofs.MoveLaw.{two}
use Rattle.walks.specs.Walk.{Lawful, step_of}
use Rattle.cubic_tables.specs.Order.{pair_of}
use Rattle.cubic_moves.specs.Step.{State, push, lift, bump, move_of, note_by, walk_by, walk_of}
use Rattle.cubic_moves.specs.Moves.{headed}
use Rattle.moves.specs.declared.Moved.{Moved}

pub lawful : (f : ℕ → ℕ) (T : ℕ → ℕ → ℕ → Vector) → Lawful State (walk_by f T)
unfolding move_of note_by push lift bump
lawful f T = record { moved = stays; noted = λ s. add-one s.place }
  where
    stays : (ps : List ℕ) (s : State) → (move_of T ps s).place ≡ s.place
    stays [] s = refl
    stays (b ∷ []) s = refl
    stays (b ∷ c ∷ []) s = refl
    stays (b ∷ c ∷ d ∷ ps) s = refl

-- ---- positions from what is left of a place
some : (c r : ℕ) → 0 < r → 0 < 3 ^ c * r
some c r h = omega (arith, mul-le-mul_left (3 ^ c) h, one-le-pow c 3 (omega arith))

less : (w r : ℕ) → w * r - w ≡ w * (r - 1)
less w zero = omega (arith, mul-zero w)
less w (suc r) = let e : suc r - 1 ≡ r = omega arith in rw e (omega arith)

pub next_at : (c r : ℕ) → 0 < r → positions 3 (3 ^ c * r) ≡ (c + lowest_of 3 r) ∷ positions 3 (3 ^ c * r - 3 ^ (c + lowest_of 3 r))
next_at c r h = positions_next 3 two (3 ^ c * r) (some c r h) ∙ rw (of_times 3 two c r h)

pub third_lt : (n c r : ℕ) → 0 < r → 3 ^ c * r < 3 ^ n → c + lowest_of 3 r < n
third_lt n c r h l = rw (of_times 3 two c r h) at (of_lt 3 two n (3 ^ c * r) (some c r h) l)

-- place p is 3 to the b times r, b its first position; r less 1 is 3 to the g times x
pub record Heads (n p b g x : ℕ) : Type 0 where
  pub positions : positions 3 p ≡ b ∷ (b + g) ∷ positions 3 (3 ^ (b + g) * (x - 1))
  pub some : 0 < x
  pub low : b + g < n
  pub rest : 3 ^ (b + g) * (x - 1) < 3 ^ n

pub heads : (n p b r g x : ℕ) → p < 3 ^ n → b ≡ lowest_of 3 p → p ≡ 3 ^ b * r → 1 < r → g ≡ lowest_of 3 (r - 1) → r - 1 ≡ 3 ^ g * x → 0 < x → Heads n p b g x
heads n p b r g x l e w h f y hx =
    let z : 0 < r - 1 = omega arith in
    let i : p - 3 ^ b ≡ 3 ^ b * (r - 1) = ap (λ (n : ℕ). n - 3 ^ b) w ∙ less (3 ^ b) r in
    let j : 3 ^ b * (r - 1) ≡ 3 ^ (b + g) * x = ap (λ (n : ℕ). 3 ^ b * n) y ∙ assoc (3 ^ b) (3 ^ g) x ∙ ap (λ (n : ℕ). n * x) (sym (pow-add 3 b g)) in
    let k : 3 ^ b * (r - 1) - 3 ^ (b + g) ≡ 3 ^ (b + g) * (x - 1) = ap (λ (n : ℕ). n - 3 ^ (b + g)) j ∙ less (3 ^ (b + g)) x in
    let o : 0 < p = omega (arith, w, some b r (omega arith)) in
    let u : positions 3 (3 ^ b * (r - 1)) ≡ (b + g) ∷ positions 3 (3 ^ (b + g) * (x - 1)) =
    next_at b (r - 1) z ∙ ap (λ (m : ℕ). (b + m) ∷ positions 3 (3 ^ b * (r - 1) - 3 ^ (b + m))) (sym f) ∙ ap (λ (m : ℕ). (b + g) ∷ positions 3 m) k in
    record {
      positions =
          positions_next 3 two p o ∙ ap (λ (m : ℕ). m ∷ positions 3 (p - 3 ^ m)) (sym e)
          ∙ ap (λ (m : ℕ). b ∷ positions 3 m) i ∙ ap (λ (ps : List ℕ). b ∷ ps) u;
      some = hx;
      low = let q = third_lt n b (r - 1) z (omega arith) in omega (arith, f);
      rest = omega (arith, k, i);
    }
  where
    assoc : (a b c : ℕ) → a * (b * c) ≡ a * b * c
    assoc a b c = omega arith

module _ (T : ℕ → ℕ → ℕ → Vector) where
  -- place 0 moves nothing
  pub turn_none : (p b : ℕ) (s : State) (r : Moved) → p ≡ 0
      → r.slot ≡ get_or s.slots b none → r.value ≡ s.value → r.additions ≡ s.additions
      → move_of T (positions 3 p) s ≡ headed s b r s.seconds
  unfolding move_of
  turn_none p b s r e hs hv ha = rw (e, positions_none 3 two, hs, hv, ha, set-get_or s.slots b none)

  -- a power of three
  pub turn_one : (p b : ℕ) (s : State) (r : Moved) → 0 < p → b ≡ lowest_of 3 p → p - 3 ^ b ≡ 0
      → r.slot ≡ get_or s.slots b none → r.value ≡ add_of s.value (get_or s.slots b none) → r.additions ≡ s.additions + 1
      → move_of T (positions 3 p) s ≡ headed s b r s.seconds
  unfolding move_of push
  turn_one p b s r h e z hs hv ha =
      let w : positions 3 p ≡ b ∷ [] = positions_one 3 two p h (rw e at z) ∙ ap (λ (n : ℕ). n ∷ []) (sym e) in
      rw (w, hs, hv, ha, set-get_or s.slots b none)

  -- two positions
  pub head_two : (b c x : ℕ) (s : State) (r : Moved) (u : Vector) → x ≡ 0 → u ≡ entry s.seconds (pair_of 20 b c)
      → r.slot ≡ add_of (get_or s.slots b none) u → r.value ≡ add_of s.value r.slot → r.additions ≡ s.additions + 1 + 1
      → move_of T (b ∷ c ∷ positions 3 (3 ^ c * x)) s ≡ headed s b r s.seconds
  unfolding move_of lift
  head_two b c x s r u e hu hs hv ha = rw (e, mul-zero (3 ^ c), positions_none 3 two, hv, hs, ha, hu)

  -- three positions and more
  pub head_three : (b c x : ℕ) (s : State) (r : Moved) (u : Vector) (w : List ℕ) → 0 < x → w ≡ put_at s.seconds (pair_of 20 b c) u
      → u ≡ add_of (entry s.seconds (pair_of 20 b c)) (T b c (c + lowest_of 3 x))
      → r.slot ≡ add_of (get_or s.slots b none) u → r.value ≡ add_of s.value r.slot → r.additions ≡ s.additions + 1 + 1 + 1
      → move_of T (b ∷ c ∷ positions 3 (3 ^ c * x)) s ≡ headed s b r w
  unfolding move_of bump
  head_three b c x s r u w h hw hu hs hv ha = rw (next_at c x h, hv, hs, ha, hw, hu)

  -- one place, from its move and what is noted
  pub step_note : (n : ℕ) (s u : State) (k : ℕ) (l : List ℕ) → move_of T (positions 3 s.place) s ≡ u
      → k ≡ found_of (is_zero u.value) u.found → l ≡ list_of (is_zero u.value) (point_of 3 n u.place) u.found u.list
      → record { place = u.place + 1; value = u.value; slots = u.slots; seconds = u.seconds; additions = u.additions; found = k; list = l } ≡ step_of 3 (walk_of n T) s
  unfolding step_of note_by
  step_note n s u k l e hk hl = rw (e, hk, hl)

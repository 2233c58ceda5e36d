-- The move of the cubic walk is held's move in degree 3, for every list of positions that a state and its table hold.
use mathlib.Core.Path.{◌≡◌, refl, sym, ◌∙◌}
use mathlib.Core.Logic.{by_cases}
use mathlib.Core.List.{List, [], ◌∷◌}
use Prim.Native.Nat.{ℕ, ◌<◌, ◌≤◌}
use native.Mathlib.Decide.{ℕ_discrete}
use native.Mathlib.Omega.{arith}
use lib.ListN.{length, get_or, set}
use lib.Seq.{get_or-set_same, get_or-set_other}
use Rattle.trits.specs.declared.Vector.{Vector}
use Rattle.trits.specs.Trit.{none}
use Rattle.trits.specs.Words.{add_of}
use Rattle.held.specs.Held.{move}
use Rattle.held.proofs.KeepLaw.{move_self, move_other, move_leaf}
use Rattle.held.specs.Stands.{Rises}
use Rattle.tables.specs.Words.{entry, put_at}
use Rattle.tables.proofs.WriteLaw.{entry_put, entry_other}
use Rattle.cubic_tables.specs.Order.{seat_of}
use Rattle.cubic_moves.specs.Step.{State, push, lift, bump, move_of}
use Rattle.cubic_walk.specs.Meaning.{held_by}
use Rattle.cubic_tables.proofs.PairLaw.{pair_lt, seat_apart}

-- ---- state and table together
unfoldable pub view : (ℕ → ℕ → ℕ → Vector) → State → List ℕ → Vector
view T s [] = s.value
view T s (b ∷ []) = get_or s.slots b none
view T s (b ∷ c ∷ []) = entry s.seconds (seat_of b c)
view T s (b ∷ c ∷ d ∷ L) = T b c d

pub view_state : (T : ℕ → ℕ → ℕ → Vector) (s : State) (L : List ℕ) → length L < 3 → view T s L ≡ held_by s L
unfolding view held_by
view_state T s [] l = refl
view_state T s (b ∷ []) l = refl
view_state T s (b ∷ c ∷ []) l = refl
view_state T s (b ∷ c ∷ d ∷ L) l = absurd (omega arith)

-- ---- slot b anew
slot_new : (l : List Vector) (b e : ℕ) (x y : Vector) → b < length l → (b ≡ e → x ≡ y) → ((b ≡ e → ⊥) → get_or l e none ≡ y) → get_or (set l b x) e none ≡ y
slot_new l b e x y h u w =
    by_cases (ℕ_discrete b e)
    (λ (i : b ≡ e). let k : get_or (set l b x) e none ≡ x = rw (← i) (get_or-set_same l b x none h) in k ∙ u i)
    (λ i. get_or-set_other l b e x none (λ j. i (sym j)) ∙ w i)

module _ (n : ℕ) (small : n ≤ 20) (T : ℕ → ℕ → ℕ → Vector) (s : State) (slots : n ≤ length s.slots) (seconds : length s.seconds ≡ 420) where
  -- ---- one position
  one_slot : (b e : ℕ) → get_or s.slots e none ≡ move add_of 3 (b ∷ []) (view T s) (e ∷ [])
  unfolding move view
  one_slot b e =
      by_cases (ℕ_discrete b e)
      (λ (i : b ≡ e). rw (← i) (sym (move_self add_of 2 b [] (view T s) [])))
      (λ i. sym (move_other add_of 2 b e [] (view T s) [] i))

  one_second : (b e g : ℕ) → entry s.seconds (seat_of e g) ≡ move add_of 3 (b ∷ []) (view T s) (e ∷ g ∷ [])
  unfolding move view
  one_second b e g =
      by_cases (ℕ_discrete b e)
      (λ (i : b ≡ e). rw (← i) (sym (move_self add_of 2 b [] (view T s) (g ∷ []))))
      (λ i. sym (move_other add_of 2 b e [] (view T s) (g ∷ []) i))

  -- ---- two
  two_slot : (b c e : ℕ) → b < n → get_or (set s.slots b (add_of (get_or s.slots b none) (entry s.seconds (seat_of b c)))) e none ≡ move add_of 3 (b ∷ c ∷ []) (view T s) (e ∷ [])
  unfolding move view
  two_slot b c e l =
      slot_new s.slots b e (add_of (get_or s.slots b none) (entry s.seconds (seat_of b c))) (move add_of 3 (b ∷ c ∷ []) (view T s) (e ∷ [])) (omega arith)
      (λ i. rw (← i) (sym (move_self add_of 2 b (c ∷ []) (view T s) [])))
      (λ i. sym (move_other add_of 2 b e (c ∷ []) (view T s) [] i))

  two_second : (b c e g : ℕ) → entry s.seconds (seat_of e g) ≡ move add_of 3 (b ∷ c ∷ []) (view T s) (e ∷ g ∷ [])
  unfolding move view
  two_second b c e g =
      by_cases (ℕ_discrete b e)
      (λ (i : b ≡ e). rw (← i) (inside ∙ sym (move_self add_of 2 b (c ∷ []) (view T s) (g ∷ []))))
      (λ i. sym (move_other add_of 2 b e (c ∷ []) (view T s) (g ∷ []) i))
    where
      inside : entry s.seconds (seat_of b g) ≡ move add_of 2 (c ∷ []) (λ M. view T s (b ∷ M)) (g ∷ [])
      inside =
          by_cases (ℕ_discrete c g)
          (λ (j : c ≡ g). rw (← j) (sym (move_self add_of 1 c [] (λ M. view T s (b ∷ M)) [])))
          (λ j. sym (move_other add_of 1 c g [] (λ M. view T s (b ∷ M)) [] j))

  -- ---- three and more
  module _ (b c d : ℕ) (ps : List ℕ) (l : b ≤ c) (m : c < n) where
    abbrev up : Vector
    up = add_of (entry s.seconds (seat_of b c)) (T b c d)

    three_slot : (e : ℕ) → get_or (set s.slots b (add_of (get_or s.slots b none) up)) e none ≡ move add_of 3 (b ∷ c ∷ d ∷ ps) (view T s) (e ∷ [])
    unfolding move view
    three_slot e =
        slot_new s.slots b e (add_of (get_or s.slots b none) up) (move add_of 3 (b ∷ c ∷ d ∷ ps) (view T s) (e ∷ [])) (omega arith)
        (λ i. rw (← i) (sym (move_self add_of 2 b (c ∷ d ∷ ps) (view T s) [])))
        (λ i. sym (move_other add_of 2 b e (c ∷ d ∷ ps) (view T s) [] i))

    three_second : (e g : ℕ) → e ≤ g → g < n → entry (put_at s.seconds (seat_of b c) up) (seat_of e g) ≡ move add_of 3 (b ∷ c ∷ d ∷ ps) (view T s) (e ∷ g ∷ [])
    unfolding move view
    three_second e g o r =
        by_cases (ℕ_discrete b e)
        (λ (i : b ≡ e). by_cases (ℕ_discrete c g)
        (λ (j : c ≡ g). rw (← i) (rw (← j) (new_is ∙ sym (move_self add_of 2 b (c ∷ d ∷ ps) (view T s) (c ∷ []) ∙ move_self add_of 1 c (d ∷ ps) (λ M. view T s (b ∷ M)) []))))
        (λ j. other (λ k. j (seat_apart b c e g l (omega arith) o (omega arith) k).1) ∙ rw (← i) (sym (move_self add_of 2 b (c ∷ d ∷ ps) (view T s) (g ∷ []) ∙ move_other add_of 1 c g (d ∷ ps) (λ M. view T s (b ∷ M)) [] j))))
        (λ i. other (λ k. i (seat_apart b c e g l (omega arith) o (omega arith) k).0) ∙ sym (move_other add_of 2 b e (c ∷ d ∷ ps) (view T s) (g ∷ []) i))
      where
        new_is : entry (put_at s.seconds (seat_of b c) up) (seat_of b c) ≡ up
        new_is = let k = (pair_lt 20 b c (omega arith) l (omega arith)).1 in entry_put s.seconds (seat_of b c) up (omega arith)

        other : (seat_of b c ≡ seat_of e g → ⊥) → entry (put_at s.seconds (seat_of b c) up) (seat_of e g) ≡ entry s.seconds (seat_of e g)
        other f = entry_other s.seconds (seat_of b c) up (seat_of e g) (λ k. f (sym k))

  -- ---- the state after the move, list by list
  pub moved : (ps : List ℕ) → Rises 0 n ps → (L : List ℕ) → Rises 0 n L → view T (move_of T ps s) L ≡ move add_of 3 ps (view T s) L
  unfolding view move_of push lift bump move
  moved [] r L v = refl
  moved (b ∷ []) r [] v = refl
  moved (b ∷ []) r (e ∷ []) v = one_slot b e
  moved (b ∷ []) r (e ∷ g ∷ []) v = one_second b e g
  moved (b ∷ []) r (e ∷ g ∷ h ∷ L) v = sym (move_leaf add_of 3 (b ∷ []) (view T s) (e ∷ g ∷ h ∷ L) (omega arith))
  moved (b ∷ c ∷ []) r [] v = refl
  moved (b ∷ c ∷ []) r (e ∷ []) v = two_slot b c e r.1
  moved (b ∷ c ∷ []) r (e ∷ g ∷ []) v = two_second b c e g
  moved (b ∷ c ∷ []) r (e ∷ g ∷ h ∷ L) v = sym (move_leaf add_of 3 (b ∷ c ∷ []) (view T s) (e ∷ g ∷ h ∷ L) (omega arith))
  moved (b ∷ c ∷ d ∷ ps) r [] v = refl
  moved (b ∷ c ∷ d ∷ ps) r (e ∷ []) v = three_slot b c d ps r.2.0 r.2.1 e
  moved (b ∷ c ∷ d ∷ ps) r (e ∷ g ∷ []) v = three_second b c d ps r.2.0 r.2.1 e g v.2.0 v.2.1
  moved (b ∷ c ∷ d ∷ ps) r (e ∷ g ∷ h ∷ L) v = sym (move_leaf add_of 3 (b ∷ c ∷ d ∷ ps) (view T s) (e ∷ g ∷ h ∷ L) (omega arith))

-- The search over a state that stands before place p is a call on the trail of its system: held/proofs/StandLaw in base 3 and degree 2.
use mathlib.Core.Path.{◌≡◌, refl, sym, ap, subst, ◌∙◌}
use mathlib.Core.Bool.{Bool, true, false}
use mathlib.Core.List.{List, [], ◌∷◌}
use Prim.Native.Nat.{ℕ, ◌+◌, ◌%◌, ◌^◌, ◌≤◌, ◌<◌, min}
use native.Mathlib.Nat.{min-eq_left}
use native.Mathlib.Omega.{arith}
use lib.ListN.{length}
use Rattle.trits.specs.declared.Vector.{Vector}
use Rattle.trits.specs.Trit.{Holds}
use Rattle.trits.specs.Words.{add_of, is_zero}
use Rattle.trits.proofs.LegalLaw.{zero_test}
use Rattle.positions.specs.Positions.{positions}
use Rattle.gray.specs.Numbers.{point_of}
use Rattle.polynomials.specs.Poly.{Poly}
use Rattle.polynomials.proofs.TermsLaw.{flat_value, ext_value}
use Rattle.walks.specs.Walk.{step_of, run_of}
use Rattle.walks.specs.Calls.{Trail}
use Rattle.walks.proofs.FollowLaw.{Counts}
use Rattle.held.specs.Held.{move}
use Rattle.held.specs.Stands.{Rises, zeros}
use Rattle.held.proofs.RiseLaw.{positions_rise}
use Rattle.held.proofs.StandLaw as any
use Rattle.moves.specs.Step.{State, push, lift, bump, move_of, note_by, walk_of, found_of, list_of}
use Rattle.walk.specs.Run.{halt_of}
use Rattle.walk.specs.Meaning.{values_of, Stands, Tabled, trail_of, Answers}
use Rattle.moves.proofs.MoveLaw.{two}
use Rattle.moves.proofs.NearLaw.{step_near}
use Rattle.walk.proofs.MeanLaw.{view, view_state, view_table, Room, view_move, room_move, holds_plus, holds_like}

-- ---- all values 0 modulo 3, as a test and as a statement
pub zeros_all : (m : ℕ) (f : ℕ → ℕ) → zeros 3 m f ≡ true → (e : ℕ) → e < m → f e % 3 ≡ 0
zeros_all m f h e l = any.zeros_all 3 m f h e l

pub all_zeros : (m : ℕ) (f : ℕ → ℕ) → ((e : ℕ) → e < m → f e % 3 ≡ 0) → zeros 3 m f ≡ true
all_zeros m f h = any.all_zeros 3 m f h

same_bool : (a b : Bool) → (a ≡ true → b ≡ true) → (b ≡ true → a ≡ true) → a ≡ b
same_bool true b f g = sym (f refl)
same_bool false true f g = g refl
same_bool false false f g = refl

-- a vector is zero exactly if all its trits are
pub zero_is : (m : ℕ) (f : ℕ → ℕ) (x : Vector) → Holds m f x → is_zero x ≡ zeros 3 m f
zero_is m f x h =
    let z = zero_test m x h.legal in
    same_bool (is_zero x) (zeros 3 m f)
    (λ t. all_zeros m f (λ e l. sym (h.each e l) ∙ z.0 t e l))
    (λ t. z.1 (λ e l. h.each e l ∙ zeros_all m f t e l))

-- ---- one place
module _ (n : ℕ) (T : ℕ → ℕ → Vector) where
  -- what a move costs
  move_cost : (ps : List ℕ) (s : State) → (move_of T ps s).additions ≡ s.additions + min 2 (length ps)
  unfolding move_of bump push lift
  move_cost [] s = omega arith
  move_cost (b ∷ []) s = refl
  move_cost (b ∷ c ∷ ps) s = let h : 2 ≤ length (b ∷ c ∷ ps) = omega arith in omega (arith, min-eq_left h)

  move_same : (ps : List ℕ) (s : State) → ((move_of T ps s).place ≡ s.place) × ((move_of T ps s).found ≡ s.found) × ((move_of T ps s).list ≡ s.list)
  unfolding move_of bump push lift
  move_same [] s = (refl, refl, refl)
  move_same (b ∷ []) s = (refl, refl, refl)
  move_same (b ∷ c ∷ ps) s = (refl, refl, refl)

  -- what is noted, where z says whether the value is zero
  noted : (z : Bool) (s : State) → is_zero (step_of 3 (walk_of n T) s).value ≡ z
      → ((step_of 3 (walk_of n T) s).found ≡ found_of z s.found) × ((step_of 3 (walk_of n T) s).list ≡ list_of z (point_of 3 n s.place) s.found s.list)
  unfolding step_of note_by
  noted z s e =
      let r = move_of T (positions 3 s.place) s in
      let u = move_same (positions 3 s.place) s in (
        ap (λ (b : Bool). found_of b r.found) e ∙ ap (found_of z) u.1,
        ap (λ (b : Bool). list_of b (point_of 3 n r.place) r.found r.list) e
            ∙ ap (λ (x : ℕ). list_of z (point_of 3 n x) r.found r.list) u.0
            ∙ ap (λ (x : ℕ). list_of z (point_of 3 n s.place) x r.list) u.1 ∙ ap (list_of z (point_of 3 n s.place) s.found) u.2,
      )

  view_note : (s : State) (L : List ℕ) → view T (note_by (point_of 3 n) s) L ≡ view T s L
  unfolding view note_by
  view_note s [] = refl
  view_note s (b ∷ []) = refl
  view_note s (b ∷ c ∷ L) = refl

  step_view : (s : State) → Room n s → s.place < 3 ^ n → (L : List ℕ) → length L ≤ 2 → Rises 0 n L
      → view T (step_of 3 (walk_of n T) s) L ≡ move add_of 2 (positions 3 s.place) (view T s) L
  unfolding step_of
  step_view s h l L k r = view_note _ L ∙ view_move T n (positions 3 s.place) s h (positions_rise 3 two s.place n l) L k

  step_room : (s : State) → Room n s → s.place < 3 ^ n → Room n (step_of 3 (walk_of n T) s)
  unfolding step_of note_by
  step_room s h l = let r = room_move T n (positions 3 s.place) s (positions_rise 3 two s.place n l) h in record { long = r.long; rest = r.rest }

  step_cost : (s : State) → (step_of 3 (walk_of n T) s).additions ≡ s.additions + min 2 (length (positions 3 s.place))
  unfolding step_of note_by
  step_cost s = move_cost (positions 3 s.place) s

-- ---- the walk of a system, up to place e
module _ (F : ℕ → Poly) (n m e : ℕ) (T : ℕ → ℕ → Vector) (table : Tabled F n m T) (far : e ≤ 3 ^ n) where
  pos : 0 < 3
  pos = omega arith

  some : 0 < 2
  some = omega arith

  abbrev Q : Trail
  Q = trail_of F n m e

  abbrev counts : Counts State
  counts = record { additions = λ s. s.additions; found = λ s. s.found; list = λ s. s.list }

  -- its places are moves of what the state holds, with the table
  law : any.Steps 3 two 2 n (values_of F n) (λ k. ext_value 3 pos (F k) n) (λ k. flat_value 3 pos (F k) n) add_of (Holds m) (holds_plus m) (holds_like m)
      State (walk_of n T) counts is_zero (Room n) (view T)
  unfolding view
  law =
      record {
        room = step_room n T;
        moved = step_view n T;
        place = λ s. (step_near (point_of 3 n) T s).place;
        additions = step_cost n T;
        hit = λ s z. noted n T true s z;
        miss = λ s z. noted n T false s z;
      }

  Right : State → Type 0
  Right = any.Right 3 two 2 n (values_of F n) (λ k. ext_value 3 pos (F k) n) (λ k. flat_value 3 pos (F k) n) add_of (Holds m) (holds_plus m) (holds_like m)
      some m e far (walk_of n T) counts is_zero (zero_is m) (Room n) (view T) law

  right_stands : (s : State) → Right s → Stands F n m s.place s
  unfolding Right
  right_stands s h =
      record {
        place = refl;
        room = h.room.long;
        holds = λ L l r. rw (← view_state T s L l) (h.stands L l r);
        rest = h.room.rest;
      }

  stands_right : (s : State) → Stands F n m s.place s → Right s
  unfolding Right
  stands_right s h =
      record {
        room = record { long = h.room; rest = h.rest };
        table = λ L l r. rw (view_table T s L l) (table L l r);
        stands = λ L l r. rw (view_state T s L l) (h.holds L l r);
      }

  -- the search answers as a call on the trail does, and its state stands where it stopped
  pub call_is : (b p : ℕ) (s : State) → p ≤ e → Stands F n m p s → s.found ≡ 0 → s.additions ≡ 0
      → Answers Q b p s.list (run_of 3 (walk_of n T) (halt_of e) b s)
      × Stands F n m (run_of 3 (walk_of n T) (halt_of e) b s).place (run_of 3 (walk_of n T) (halt_of e) b s)
  unfolding Right
  call_is b p s l h f a =
      let w = any.call 3 two 2 n (values_of F n) (λ k. ext_value 3 pos (F k) n) (λ k. flat_value 3 pos (F k) n) add_of (Holds m) (holds_plus m) (holds_like m)
      some m e far (walk_of n T) counts is_zero (zero_is m) (Room n) (view T) law
      (halt_of e) (λ r. refl) b p s h.place l (stands_right s (subst (λ (x : ℕ). Stands F n m x s) (sym h.place) h)) f a in
      (w.0, right_stands _ w.1)

-- The search over a state that stands before place p is a call on the trail of its equations: held/proofs/StandLaw in base 3 and degree 3.
use mathlib.Core.Path.{◌≡◌, refl, sym, ap, subst, ◌∙◌}
use mathlib.Core.Bool.{Bool, true, false}
use mathlib.Core.List.{List, [], ◌∷◌}
use Prim.Native.Nat.{ℕ, ◌+◌, ◌^◌, ◌≤◌, ◌<◌, min}
use native.Mathlib.Nat.{min-eq_left}
use native.Mathlib.Omega.{arith}
use lib.ListN.{length}
use Rattle.trits.specs.declared.Vector.{Vector}
use Rattle.trits.specs.Trit.{Holds}
use Rattle.trits.specs.Words.{add_of, is_zero}
use Rattle.positions.specs.Positions.{positions}
use Rattle.gray.specs.Numbers.{point_of}
use Rattle.walks.specs.Walk.{step_of, run_of}
use Rattle.walks.specs.Calls.{Trail}
use Rattle.held.specs.Held.{move}
use Rattle.held.specs.Stands.{Rises}
use Rattle.held.proofs.FlatLaw.{Flat, Ext}
use Rattle.held.proofs.RiseLaw.{positions_rise}
use Rattle.held.proofs.StandLaw as any
use Rattle.moves.specs.Step.{found_of, list_of}
use Rattle.moves.proofs.MoveLaw.{two}
use Rattle.walk.proofs.MeanLaw.{holds_plus, holds_like}
use Rattle.walk.proofs.CallLaw.{zero_is}
use Rattle.cubic_moves.specs.Step.{State, push, lift, bump, move_of, note_by, walk_of}
use Rattle.cubic_moves.proofs.NearLaw.{counts, step_near}
use Rattle.cubic_walk.specs.Run.{halt_of}
use Rattle.cubic_walk.specs.Meaning.{Stands, Tabled, trail_of, Answers}
use Rattle.cubic_walk.proofs.ViewLaw.{view, view_state}
use Rattle.cubic_walk.proofs.MeanLaw.{Room, room_move, full, full_tabled, view_move}

-- ---- one place
module _ (n : ℕ) (T : ℕ → ℕ → ℕ → Vector) where
  -- what a move costs
  move_cost : (ps : List ℕ) (s : State) → (move_of T ps s).additions ≡ s.additions + min 3 (length ps)
  unfolding move_of bump push lift
  move_cost [] s = omega arith
  move_cost (b ∷ []) s = refl
  move_cost (b ∷ c ∷ []) s = omega arith
  move_cost (b ∷ c ∷ d ∷ ps) s = let h : 3 ≤ length (b ∷ c ∷ d ∷ ps) = omega arith in omega (arith, min-eq_left h)

  move_same : (ps : List ℕ) (s : State) → ((move_of T ps s).place ≡ s.place) × ((move_of T ps s).found ≡ s.found) × ((move_of T ps s).list ≡ s.list)
  unfolding move_of bump push lift
  move_same [] s = (refl, refl, refl)
  move_same (b ∷ []) s = (refl, refl, refl)
  move_same (b ∷ c ∷ []) s = (refl, refl, refl)
  move_same (b ∷ c ∷ d ∷ ps) s = (refl, refl, refl)

  -- what is noted, where z says whether the value is zero
  noted : (z : Bool) (s : State) → is_zero (step_of 3 (walk_of n T) s).value ≡ z
      → ((step_of 3 (walk_of n T) s).found ≡ found_of z s.found) × ((step_of 3 (walk_of n T) s).list ≡ list_of z (point_of 3 n s.place) s.found s.list)
  unfolding step_of note_by
  noted z s e =
      let r = move_of T (positions 3 s.place) s in
      let u = move_same (positions 3 s.place) s in (
        ap (λ (b : Bool). found_of b r.found) e ∙ ap (found_of z) u.1,
        ap (λ (b : Bool). list_of b (point_of 3 n r.place) r.found r.list) e
            ∙ ap (λ (x : ℕ). list_of z (point_of 3 n x) r.found r.list) u.0
            ∙ ap (λ (x : ℕ). list_of z (point_of 3 n s.place) x r.list) u.1 ∙ ap (list_of z (point_of 3 n s.place) s.found) u.2,
      )

  view_note : (U : ℕ → ℕ → ℕ → Vector) (s : State) (L : List ℕ) → view U (note_by (point_of 3 n) s) L ≡ view U s L
  unfolding view note_by
  view_note U s [] = refl
  view_note U s (b ∷ []) = refl
  view_note U s (b ∷ c ∷ []) = refl
  view_note U s (b ∷ c ∷ d ∷ L) = refl

  step_room : n ≤ 20 → (s : State) → Room n s → s.place < 3 ^ n → Room n (step_of 3 (walk_of n T) s)
  unfolding step_of note_by
  step_room small s h l =
      let r = room_move T n small (positions 3 s.place) s (positions_rise 3 two s.place n l) h in
      record { long = r.long; seats = r.seats; rest = r.rest; spare = r.spare }

  step_cost : (s : State) → (step_of 3 (walk_of n T) s).additions ≡ s.additions + min 3 (length (positions 3 s.place))
  unfolding step_of note_by
  step_cost s = move_cost (positions 3 s.place) s

-- ---- the walk of the equations F, of degree 3, up to place e
module _ (F : ℕ → (ℕ → ℕ) → ℕ) (ext : (k : ℕ) → Ext 3 (F k)) (degree : (k : ℕ) → Flat 3 4 (F k)) (n m e : ℕ) (small : n ≤ 20)
    (T : ℕ → ℕ → ℕ → Vector) (table : Tabled F n m T) (far : e ≤ 3 ^ n) where
  some : 0 < 3
  some = omega arith

  abbrev Q : Trail
  Q = trail_of F n m e

  abbrev U : ℕ → ℕ → ℕ → Vector
  U = full F n m T

  step_view : (s : State) → Room n s → s.place < 3 ^ n → (L : List ℕ) → length L ≤ 3 → Rises 0 n L
      → view U (step_of 3 (walk_of n T) s) L ≡ move add_of 3 (positions 3 s.place) (view U s) L
  unfolding step_of
  step_view s h l L k r = view_note n T U _ L ∙ view_move F n m T small s.place s h l (positions_rise 3 two s.place n l) L r

  -- its places are moves of what the state holds, with the table
  law : any.Steps 3 two 3 n F ext degree add_of (Holds m) (holds_plus m) (holds_like m) State (walk_of n T) counts is_zero (Room n) (view U)
  unfolding view
  law =
      record {
        room = step_room n T small;
        moved = step_view;
        place = λ s. (step_near (point_of 3 n) T s).place;
        additions = step_cost n T;
        hit = λ s z. noted n T true s z;
        miss = λ s z. noted n T false s z;
      }

  Right : State → Type 0
  Right = any.Right 3 two 3 n F ext degree add_of (Holds m) (holds_plus m) (holds_like m) some m e far (walk_of n T) counts is_zero (zero_is m) (Room n) (view U) law

  right_stands : (s : State) → Right s → Stands F n m s.place s
  unfolding Right
  right_stands s h =
      record {
        place = refl;
        room = h.room.long;
        seats = h.room.seats;
        holds = λ L l r. rw (← view_state U s L l) (h.stands L l r);
        rest = h.room.rest;
        spare = h.room.spare;
      }

  stands_right : (s : State) → Stands F n m s.place s → Right s
  unfolding Right
  stands_right s h =
      record {
        room = record { long = h.room; seats = h.seats; rest = h.rest; spare = h.spare };
        table = full_tabled F n m T table s;
        stands = λ L l r. rw (view_state U s L l) (h.holds L l r);
      }

  -- the search answers as a call on the trail does, and its state stands where it stopped
  pub call_is : (b p : ℕ) (s : State) → p ≤ e → Stands F n m p s → s.found ≡ 0 → s.additions ≡ 0
      → Answers Q b p s.list (run_of 3 (walk_of n T) (halt_of e) b s)
      × Stands F n m (run_of 3 (walk_of n T) (halt_of e) b s).place (run_of 3 (walk_of n T) (halt_of e) b s)
  unfolding Right
  call_is b p s l h f a =
      let w = any.call 3 two 3 n F ext degree add_of (Holds m) (holds_plus m) (holds_like m) some m e far (walk_of n T) counts is_zero (zero_is m) (Room n) (view U) law
      (halt_of e) (λ r. refl) b p s h.place l (stands_right s (subst (λ (x : ℕ). Stands F n m x s) (sym h.place) h)) f a in
      (w.0, right_stands _ w.1)

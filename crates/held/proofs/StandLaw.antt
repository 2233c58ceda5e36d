-- A walk that moves what its states hold keeps what they stand for, and a search over it is a call on the trail of its equations.
use mathlib.Core.Path.{◌≡◌, refl, sym, ap, subst, ◌∙◌}
use mathlib.Core.Bool.{Bool, true, false, ◌||◌}
use mathlib.Core.Logic.{by_cases}
use mathlib.Core.List.{List, []}
use Prim.Native.Nat.{ℕ, zero, suc, ◌+◌, ◌-◌, ◌%◌, ◌^◌, ◌<◌, ◌≤◌, min}
use native.Mathlib.Decide.{ℕ_discrete}
use native.Mathlib.Omega.{arith}
use lib.Dec.{eqb}
use lib.ListN.{length, set}
use borrow.Author.Tests.{eq-eqb, eqb-true}
use Rattle.residues.proofs.Every.{and_left, and_right}
use Rattle.residues.proofs.ModLaw.{Cong, cof, csym}
use Rattle.positions.specs.Positions.{positions}
use Rattle.gray.specs.Numbers.{point_digit, point_of}
use Rattle.positions.proofs.PositionLaw.{positions_none}
use Rattle.walks.specs.Walk.{Walk, step_of, run_of}
use Rattle.walks.specs.Calls.{Answered}
use Rattle.walks.proofs.FollowLaw.{Counts, Follows, answers}
use Rattle.held.specs.Held.{change, held, move, along}
use Rattle.held.specs.Stands.{Rises, Stands, Tabled, zeros, trail_of}
use Rattle.held.proofs.FlatLaw.{Fun, Flat, Ext}
use Rattle.held.proofs.KeepLaw.{move_none, move_leaf}
use Rattle.held.proofs.ConstantLaw.{held_entry}
use Rattle.held.proofs.RiseLaw.{rises_take, positions_rise}
use Rattle.held.proofs.ValuesLaw.{latest_all}
use Rattle.held.proofs.DegreeLaw.{walk_step}

-- ---- all values 0 modulo q, as a test and as a statement
pub zeros_all : (q m : ℕ) (f : ℕ → ℕ) → zeros q m f ≡ true → (e : ℕ) → e < m → f e % q ≡ 0
unfolding zeros
zeros_all q zero f h e l = absurd (omega arith)
zeros_all q (suc m) f h e l =
    by_cases (ℕ_discrete e m)
    (λ i. rw i (eqb-true _ _ (and_right (zeros q m f) (eqb (f m % q) 0) h)))
    (λ i. zeros_all q m f (and_left (zeros q m f) (eqb (f m % q) 0) h) e (omega arith))

pub all_zeros : (q m : ℕ) (f : ℕ → ℕ) → ((e : ℕ) → e < m → f e % q ≡ 0) → zeros q m f ≡ true
unfolding zeros
all_zeros q zero f h = refl
all_zeros q (suc m) f h = rw (all_zeros q m f (λ e l. h e (omega arith)), eq-eqb _ _ (h m (omega arith)))

-- ---- the value
pub held_value : (q : ℕ) (two : 1 < q) (v : ℕ → ℕ) (p : ℕ) → held q v [] p ≡ v p
unfolding held change
held_value q two v p = ap v (latest_all q two p)

last : (p : ℕ) → suc p - 1 ≡ p
last p = omega arith

module _ (q : ℕ) (two : 1 < q) (d n : ℕ) (F : ℕ → Fun) (ext : (e : ℕ) → Ext q (F e)) (degree : (e : ℕ) → Flat q (suc d) (F e))
    {A : Type 0} (add : A → A → A) (Shows : (ℕ → ℕ) → A → Type 0)
    (plus : (f g : ℕ → ℕ) (x y : A) → Shows f x → Shows g y → Shows (λ e. f e + g e) (add x y))
    (like : (f g : ℕ → ℕ) (x : A) → ((e : ℕ) → Cong q (f e) (g e)) → Shows f x → Shows g x) where
  -- ---- one place: the table stays, and the state stands before the next
  pub tabled_next : (ps : List ℕ) (H : List ℕ → A) → Tabled Shows q d n F H → Tabled Shows q d n F (move add d ps H)
  tabled_next ps H t L l r = rw (move_leaf add d ps H L (omega arith)) (t L l r)

  -- with the table, all that is held after place p
  whole : (p : ℕ) (H : List ℕ → A) → Tabled Shows q d n F H → Stands Shows q d n F (suc p) H
      → (L : List ℕ) → length L ≤ d → Rises 0 n L → Shows (λ e. held q (along q (F e)) L p) (H L)
  whole p H t h L l r =
      by_cases (ℕ_discrete (length L) d)
      (λ i. like _ _ (H L) (λ e. csym (held_entry q two (F e) (ext e) d (degree e) p L i)) (t L i r))
      (λ i. like _ _ (H L) (λ e. cof (ap (held q (along q (F e)) L) (last p))) (h L (omega arith) r))

  pub stands_next : (p : ℕ) (H : List ℕ → A) → p < q ^ n → Tabled Shows q d n F H → Stands Shows q d n F p H
      → Stands Shows q d n F (suc p) (move add d (positions q p) H)
  stands_next zero H l t h L k r = rw (positions_none q two, move_none add d H L) (like _ _ (H L) (λ e. cof refl) (h L k r))
  stands_next (suc p) H l t h L k r =
      like _ _ _ (λ e. cof (ap (held q (along q (F e)) L) (sym (last (suc p)))))
      (walk_step q two F ext d degree add Shows plus like p H (Rises 0 n) (λ j i. rises_take j 0 n (positions q (suc p)) (positions_rise q two (suc p) n l))
      (whole p H t h) L (omega arith) r)

  -- ---- a walk whose steps move what view reads of a state, count, and note a place whose value is zero.
  -- Room is what a state needs for that
  pub record Steps (S : Type 0) (W : Walk S) (C : Counts S) (zero : A → Bool) (Room : S → Type 0) (view : S → List ℕ → A) : Type 0 where
    pub room : (s : S) → Room s → W.place s < q ^ n → Room (step_of q W s)
    pub moved : (s : S) → Room s → W.place s < q ^ n → (L : List ℕ) → length L ≤ d → Rises 0 n L
        → view (step_of q W s) L ≡ move add d (positions q (W.place s)) (view s) L
    pub place : (s : S) → W.place (step_of q W s) ≡ W.place s + 1
    pub additions : (s : S) → C.additions (step_of q W s) ≡ C.additions s + min d (length (positions q (W.place s)))
    pub hit : (s : S) → zero (view (step_of q W s) []) ≡ true
        → (C.found (step_of q W s) ≡ C.found s + 1) × (C.list (step_of q W s) ≡ set (C.list s) (C.found s) (point_of q n (W.place s)))
    pub miss : (s : S) → zero (view (step_of q W s) []) ≡ false → (C.found (step_of q W s) ≡ C.found s) × (C.list (step_of q W s) ≡ C.list s)

  module _ (some : 0 < d) (m e : ℕ) (far : e ≤ q ^ n) {S : Type 0} (W : Walk S) (C : Counts S) (zero : A → Bool)
      (zero_is : (f : ℕ → ℕ) (x : A) → Shows f x → zero x ≡ zeros q m f) (Room : S → Type 0) (view : S → List ℕ → A) (law : Steps S W C zero Room view) where
    -- the state has room, and stands before its place
    pub record Right (s : S) : Type 0 where
      pub room : Room s
      pub table : Tabled Shows q d n F (view s)
      pub stands : Stands Shows q d n F (W.place s) (view s)

    pub right_next : (s : S) → W.place s < q ^ n → Right s → Right (step_of q W s)
    right_next s l h =
        let u : (L : List ℕ) → length L ≤ d → Rises 0 n L → view (step_of q W s) L ≡ move add d (positions q (W.place s)) (view s) L = law.moved s h.room l in
        let p : W.place (step_of q W s) ≡ suc (W.place s) = law.place s ∙ omega arith in
        record {
          room = law.room s h.room l;
          table = λ L k r. rw (u L (omega arith) r) (tabled_next (positions q (W.place s)) (view s) h.table L k r);
          stands = λ L k r. rw (p, u L (omega arith) r) (stands_next (W.place s) (view s) l h.table h.stands L k r);
        }

    -- the value after a place is zero where every equation is 0 at its point
    pub zero_at_lem : (s : S) → W.place s < q ^ n → Right s → zero (view (step_of q W s) []) ≡ zeros q m (λ k. F k (point_digit q (W.place s)))
    zero_at_lem s l h =
        let r = (right_next s l h).stands [] some (omega arith) in
        let p : W.place (step_of q W s) - 1 ≡ W.place s = omega (arith, law.place s) in
        zero_is _ _ (like _ _ _ (λ k. cof (ap (held q (along q (F k)) []) p ∙ held_value q two (along q (F k)) (W.place s))) r)

    -- so its search is a call on the trail (FollowLaw)
    pub follows : Follows (trail_of q d F n m e) q S W C Right
    follows =
        record {
          right = λ s h l f. right_next s (omega arith) h;
          place = law.place;
          additions = λ s h l. law.additions s;
          hit = λ s h l z. law.hit s (zero_at_lem s (omega arith) h ∙ z);
          miss = λ s h l z. law.miss s (zero_at_lem s (omega arith) h ∙ z);
        }

    -- and it answers as such a call does, from the place where the state stands, with nothing counted before; its state stands where it stopped
    pub call : (halt : S → Bool) → ((s : S) → halt s ≡ (eqb (W.place s) e || eqb (C.found s) (length (C.list s))))
        → (b p : ℕ) (s : S) → W.place s ≡ p → p ≤ e → Right s → C.found s ≡ 0 → C.additions s ≡ 0
        → Answered (trail_of q d F n m e) b p (C.list s) (W.place (run_of q W halt b s)) (C.additions (run_of q W halt b s)) (C.found (run_of q W halt b s)) (C.list (run_of q W halt b s))
        × Right (run_of q W halt b s)
    call halt halts b p s i l h f a =
        let w = answers (trail_of q d F n m e) q W C Right follows halt halts b s h (omega arith) f in
        let r = run_of q W halt b s in
        let k : Answered (trail_of q d F n m e) b (W.place s) (C.list s) (W.place r) (C.additions r) (C.found r) (C.list r) =
        record { place = w.place; additions = omega (arith, w.additions); found = w.found; stop = w.stop; list = w.list } in
        (subst (λ (x : ℕ). Answered (trail_of q d F n m e) b x (C.list s) (W.place r) (C.additions r) (C.found r) (C.list r)) i k, w.right)

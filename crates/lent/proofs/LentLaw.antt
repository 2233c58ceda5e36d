-- Lent words: what is refused before an operation is asked stays refused, and its answer's number and words are those of its verdict.
use Rattle.std.specs.Prelude.{Ok, Err}
use mathlib.Core.Path.{◌≡◌, refl, sym, ap, ◌∙◌}
use mathlib.Core.Bool.{not}
use mathlib.Core.List.{List, [], ◌∷◌}
use Prim.Native.Nat.{ℕ}
use native.Mathlib.Omega.{arith}
use lib.Dec.{eqb, ltb}
use lib.IntN.{ℤ}
use lib.ListN.{length, set}
use borrow.Author.Tests.{eqb-true, not-false}
use Rattle.refusals.specs.declared.Refusal.{Refusal}
use Rattle.refusals.specs.declared.Refusal.TheVariants.{Size, Length}
use Rattle.refusals.specs.Refusal.{Verdict, refuse, after, done}
use Rattle.refusals.proofs.RefusalLaw.{done_test, done_next, refuse_none, refused_next, refused_last, sized_within, sized_next, sized_done}
use Rattle.trits.specs.declared.Vector.{Vector}
use Rattle.gray.specs.Answers.{point_from, place_from}
use Rattle.balanced.specs.Answers.{balanced_from}
use Rattle.tables.specs.Answers.{valued}
use Rattle.lent.specs.Lent.{room, single, judged, vector_words, point_put, place_put, balanced_put, value_put}

-- ---- what a return says of the verdict and of what was lent
-- a question before, with the verdict w, refuses by f, and the verdict r says so
pub refused_first : {A : Type 0} (ask : Verdict → Verdict) → ((f : Refusal) (v : Verdict) → ask done ≡ Err f → ask v ≡ Err f)
    → (w : Verdict) → w ≡ ask done → (f : Refusal) → w ≡ Err f → (r : Verdict) → r ≡ Err f → (u : Verdict) (old new : A)
    → (r ≡ ask u) × (old ≡ after (ask u) old new)
refused_first ask stays w e f j r k u old new =
    let q = stays f u (sym e ∙ j) in
    (k ∙ sym q, sym (ap (λ (z : Verdict). after z old new) q))

-- or no question does, and an answer a that is z is told as a verdict and put into what was lent
pub answered : {Z A : Type 0} (told : Z → Verdict) (put : Z → A) (v u : Verdict) → v ≡ u → (a z : Z) → a ≡ z → (r : Verdict) (now old new : A)
    → r ≡ told a → now ≡ put a → (told z ≡ u) × (put z ≡ after u old new) → (r ≡ v) × (now ≡ after v old new)
answered told put v u e a z g r now old new p q h =
    (p ∙ ap told g ∙ h.0 ∙ sym e, q ∙ ap put g ∙ h.1 ∙ sym (ap (λ (x : Verdict). after x old new) e))

-- ---- the questions before
module _ (n m k w : ℕ) where
  pub room_refused : (f : Refusal) (v : Verdict) → room n m k w done ≡ Err f → room n m k w v ≡ Err f
  room_refused f v e =
      refused_next (ltb n 1) Size f _ _ e λ e. refused_next (ltb 20 n) Size f _ _ e λ e. refused_next (ltb m 1) Size f _ _ e λ e.
      refused_next (ltb 64 m) Size f _ _ e λ e. refused_last (not (eqb k w)) Length f v e

  pub room_done : room n m k w done ≡ done → (k ≡ w) × ((v : Verdict) → room n m k w v ≡ v)
  room_done e =
      let i = sized_within n m (refuse (not (eqb k w)) Length done) e in
      let t = done_test (not (eqb k w)) Length done (sized_done n m (refuse (not (eqb k w)) Length done) e) in (
        eqb-true k w (not-false (eqb k w) t),
        λ v. sized_next n m (refuse (not (eqb k w)) Length v) i ∙ refuse_none (not (eqb k w)) Length v t,
      )

module _ (n k : ℕ) where
  pub single_refused : (f : Refusal) (v : Verdict) → single n k done ≡ Err f → single n k v ≡ Err f
  single_refused f v e =
      refused_next (ltb n 1) Size f _ _ e λ e. refused_next (ltb 20 n) Size f _ _ e λ e. refused_last (not (eqb k 1)) Length f v e

  pub single_done : single n k done ≡ done → (k ≡ 1) × ((v : Verdict) → single n k v ≡ v)
  single_done e =
      let t1 = done_test (ltb n 1) Size _ e in
      let e2 = done_next (ltb n 1) Size _ e in
      let t2 = done_test (ltb 20 n) Size _ e2 in
      let e3 = done_next (ltb 20 n) Size _ e2 in
      let t = done_test (not (eqb k 1)) Length done e3 in (
        eqb-true k 1 (not-false (eqb k 1) t),
        λ v. refuse_none (ltb n 1) Size _ t1 ∙ refuse_none (ltb 20 n) Size _ t2 ∙ refuse_none (not (eqb k 1)) Length v t,
      )

-- ---- the answers
pub point_meets : (u : Verdict) (x : ℕ) (old : List ℕ) → (judged (point_from u x) ≡ u) × (point_put (point_from u x) old ≡ after u old (x ∷ []))
point_meets (Ok _) x old = (refl, refl)
point_meets (Err f) x old = (refl, refl)

pub place_meets : (u : Verdict) (x : ℕ) (old : List ℕ) → (judged (place_from u x) ≡ u) × (place_put (place_from u x) old ≡ after u old (x ∷ []))
place_meets (Ok _) x old = (refl, refl)
place_meets (Err f) x old = (refl, refl)

pub balanced_meets : (u : Verdict) (y : ℤ) (old : List ℤ) → (judged (balanced_from u y) ≡ u) × (balanced_put (balanced_from u y) old ≡ after u old (y ∷ []))
balanced_meets (Ok _) y old = (refl, refl)
balanced_meets (Err f) y old = (refl, refl)

pub value_meets : (u : Verdict) (v : Vector) (old : List ℕ) → (judged (valued u v) ≡ u) × (value_put (valued u v) old ≡ after u old (vector_words v))
value_meets (Ok _) v old = (refl, refl)
value_meets (Err f) v old = (refl, refl)

-- ---- what the code sets
pub set_one : {A : Type 0} (l : List A) (x : A) → length l ≡ 1 → set l 0 x ≡ x ∷ []
set_one [] x e = absurd (omega (arith, e))
set_one (a ∷ []) x e = refl
set_one (a ∷ b ∷ l) x e = absurd (omega (arith, e))

pub set_two : (l : List ℕ) (x y : ℕ) → length l ≡ 2 → set (set l 0 x) 1 y ≡ x ∷ y ∷ []
set_two [] x y e = absurd (omega (arith, e))
set_two (a ∷ []) x y e = absurd (omega (arith, e))
set_two (a ∷ b ∷ []) x y e = refl
set_two (a ∷ b ∷ c ∷ l) x y e = absurd (omega (arith, e))

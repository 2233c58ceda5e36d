-- What is done was refused by no test, and what no test refuses is asked next.
use Rattle.std.specs.Prelude.{Ok, Err}
use mathlib.Core.Path.{◌≡◌, refl, sym, ◌∙◌}
use mathlib.Core.Bool.{Bool, true, false, true≢false}
use mathlib.Core.Logic.{◌↔◌, by_cases}
use Prim.Native.Nat.{ℕ}
use native.Mathlib.Decide.{dec_lt}
use native.Mathlib.Omega.{arith}
use lib.Dec.{ltb}
use borrow.Author.Tests.{ltb-false, lt-ltb, le-ltb}
use Rattle.refusals.specs.declared.Refusal.{Refusal}
use Rattle.refusals.specs.declared.Refusal.TheVariants as refusal
use Rattle.refusals.specs.Refusal.{Verdict, number_of, refuse, sized_unknowns, sized, after, code_of, done}
use Rattle.refusals.specs.declared.Refusal.TheVariants.{Size}
use Rattle.refusals.specs.Limits.{Unknowns, Within}

-- 0 is the number of no refusal
pub number_pos : (f : Refusal) → number_of f ≡ 0 → ⊥
number_pos refusal.Size e = omega (arith, e)
number_pos refusal.Length e = omega (arith, e)
number_pos (refusal.Pair k) e = omega (arith, e)
number_pos refusal.Range e = omega (arith, e)
number_pos refusal.Record e = omega (arith, e)
number_pos refusal.Budget e = omega (arith, e)
number_pos refusal.List e = omega (arith, e)
number_pos refusal.Shape e = omega (arith, e)
number_pos refusal.Order e = omega (arith, e)
number_pos refusal.Limits e = omega (arith, e)
number_pos refusal.Vertex e = omega (arith, e)
number_pos refusal.Count e = omega (arith, e)
number_pos refusal.Long e = omega (arith, e)
number_pos refusal.Edges e = omega (arith, e)
number_pos refusal.Room e = omega (arith, e)

-- and so the number of a verdict says whether anything was refused
pub code_zero : (v : Verdict) → code_of v ≡ 0 → v ≡ done
code_zero (Ok _) e = refl
code_zero (Err f) e = absurd (number_pos f e)

never : (r : Refusal) → Err r ≡ done → ⊥
never r e = let z : ◌≡◌ {A = ℕ} 0 1 = cc in omega arith

pub done_test : (b : Bool) (r : Refusal) (v : Verdict) → refuse b r v ≡ done → b ≡ false
done_test true r v e = absurd (never r e)
done_test false r v e = refl

pub done_next : (b : Bool) (r : Refusal) (v : Verdict) → refuse b r v ≡ done → v ≡ done
done_next true r v e = absurd (never r e)
done_next false r v e = e

pub refuse_none : (b : Bool) (r : Refusal) (v : Verdict) → b ≡ false → refuse b r v ≡ v
refuse_none b r v e = rw e

-- refusal 1 decides that
pub sized_within : (n m : ℕ) (v : Verdict) → sized n m v ≡ done → Within n m
sized_within n m v e =
    let e2 = done_next (ltb n 1) _ _ e in
    let e3 = done_next (ltb 20 n) _ _ e2 in
    let e4 = done_next (ltb m 1) _ _ e3 in
    record {
      least = ltb-false _ _ (done_test (ltb n 1) _ _ e);
      most = ltb-false _ _ (done_test (ltb 20 n) _ _ e2);
      one = ltb-false _ _ (done_test (ltb m 1) _ _ e3);
      wide = ltb-false _ _ (done_test (ltb 64 m) _ _ e4);
    }

pub sized_next : (n m : ℕ) (v : Verdict) → Within n m → sized n m v ≡ v
sized_next n m v w =
    refuse_none (ltb n 1) _ _ (le-ltb _ _ w.least) ∙ refuse_none (ltb 20 n) _ _ (le-ltb _ _ w.most)
    ∙ refuse_none (ltb m 1) _ _ (le-ltb _ _ w.one) ∙ refuse_none (ltb 64 m) _ _ (le-ltb _ _ w.wide)

pub sized_done : (n m : ℕ) (v : Verdict) → sized n m v ≡ done → v ≡ done
sized_done n m v e = sym (sized_next n m v (sized_within n m v e)) ∙ e

-- a test that answers by a condition, and said no
pub said_no : {A : Type 0} (r : Bool) → (r ≡ true) ↔ A → r ≡ false → A → ⊥
said_no r h e a = true≢false (sym (h.1 a) ∙ e)

-- refusal 1 of n alone
pub unknowns_next : (n : ℕ) (v : Verdict) → Unknowns n → sized_unknowns n v ≡ v
unknowns_next n v w = refuse_none (ltb n 1) Size _ (le-ltb _ _ w.least) ∙ refuse_none (ltb 20 n) Size _ (le-ltb _ _ w.most)

pub unknowns_not : (n : ℕ) (v : Verdict) → (Unknowns n → ⊥) → sized_unknowns n v ≡ Err Size
unknowns_not n v f =
    by_cases (dec_lt n 1) (λ h. rw (lt-ltb n 1 h))
    (λ h. by_cases (dec_lt 20 n) (λ l. rw (le-ltb n 1 (omega arith), lt-ltb 20 n l)) (λ l. absurd (f (record { least = omega arith; most = omega arith }))))

pub unknowns_done : (n : ℕ) (v : Verdict) → sized_unknowns n v ≡ done → Unknowns n
unknowns_done n v e =
    record {
      least = ltb-false _ _ (done_test (ltb n 1) Size _ e);
      most = ltb-false _ _ (done_test (ltb 20 n) Size _ (done_next (ltb n 1) Size _ e));
    }

-- refusal 1 of n and m
pub sized_not : (n m : ℕ) (v : Verdict) → (Within n m → ⊥) → sized n m v ≡ Err Size
sized_not n m v f =
    by_cases (dec_lt n 1) (λ a. rw (lt-ltb n 1 a))
    (λ a. by_cases (dec_lt 20 n) (λ b. rw (le-ltb n 1 (omega arith), lt-ltb 20 n b))
    (λ b. by_cases (dec_lt m 1) (λ c. rw (le-ltb n 1 (omega arith), le-ltb 20 n (omega arith), lt-ltb m 1 c))
    (λ c. by_cases (dec_lt 64 m) (λ d. rw (le-ltb n 1 (omega arith), le-ltb 20 n (omega arith), le-ltb m 1 (omega arith), lt-ltb 64 m d))
    (λ d. absurd (f (record { least = omega arith; most = omega arith; one = omega arith; wide = omega arith }))))))

-- a test that refused refuses whatever is asked next
pub refused_next : (b : Bool) (r f : Refusal) (v w : Verdict) → refuse b r v ≡ Err f → (v ≡ Err f → w ≡ Err f) → refuse b r w ≡ Err f
refused_next true r f v w e h = e
refused_next false r f v w e h = h e

pub refused_last : (b : Bool) (r f : Refusal) (w : Verdict) → refuse b r done ≡ Err f → refuse b r w ≡ Err f
refused_last b r f w e = refused_next b r f done w e (λ d. absurd (never f (sym d)))

-- what was lent, after
pub after_done : {A : Type 0} (old new : A) → after done old new ≡ new
after_done old new = refl

pub after_refused : {A : Type 0} (r : Refusal) (old new : A) → after (Err r) old new ≡ old
after_refused r old new = refl

-- A text is its first line and the text after it.
use mathlib.Core.Path.{◌≡◌, refl, ap, ◌∙◌}
use mathlib.Core.Bool.{Bool, true, false}
use mathlib.Core.List.{List, [], ◌∷◌}
use mathlib.Core.Logic.{by_cases}
use Prim.Native.Nat.{ℕ, suc, ◌+◌, ◌-◌, ◌≤◌, ◌<◌}
use native.Mathlib.Decide.{ℕ_discrete}
use native.Mathlib.Omega.{arith}
use lib.Dec.{eqb}
use lib.ListN.{length, get_or, take, drop}
use lib.Seq.{drop-cons, drop-drop}
use borrow.Author.Tests.{eq-eqb, ne_eqb}
use Rattle.lines.specs.Lines.{first_of, grow, lines_of}
use Rattle.lines.proofs.LineLaw.{first_stop, first_more}

pub lines_feed : (x : ℕ) (t : List ℕ) → x ≡ 10 → lines_of (x ∷ t) ≡ [] ∷ lines_of t
unfolding lines_of
lines_feed x t e = rw (eq-eqb x 10 e, lines_of)

pub lines_byte : (x : ℕ) (t : List ℕ) → (x ≡ 10 → ⊥) → lines_of (x ∷ t) ≡ grow x (lines_of t)
unfolding lines_of
lines_byte x t d = rw (ne_eqb x 10 d, lines_of)

-- the first line and the text after it, for a text whose first line has f bytes
abbrev Split : List ℕ → ℕ → Type 0
Split t f = lines_of t ≡ take f t ∷ lines_of (drop (f + 1) t)

split_more : (x : ℕ) (t : List ℕ) → (x ≡ 10 → ⊥) → Split t (first_of 10 t) → Split (x ∷ t) (suc (first_of 10 t))
split_more x t d e =
    let p : suc (first_of 10 t) + 1 ≡ suc (first_of 10 t + 1) = omega arith in
    rw p (lines_byte x t d ∙ ap (grow x) e)

split_last : (x : ℕ) → (x ≡ 10 → ⊥) → Split (x ∷ []) (suc (first_of 10 []))
unfolding first_of lines_of
split_last x d = lines_byte x [] d

pub lines_split : (x : ℕ) (t : List ℕ) → Split (x ∷ t) (first_of 10 (x ∷ t))
lines_split x [] =
    by_cases (ℕ_discrete x 10) (λ e. rw (first_stop 10 x [] e) (lines_feed x [] e)) (λ d. rw (first_more 10 x [] d) (split_last x d))
lines_split x (y ∷ t) =
    by_cases (ℕ_discrete x 10) (λ e. rw (first_stop 10 x (y ∷ t) e) (lines_feed x (y ∷ t) e))
    (λ d. rw (first_more 10 x (y ∷ t) d) (split_more x (y ∷ t) d (lines_split y t)))

-- the same for what is left of a text from a place on
pub lines_at : (s : List ℕ) (i f : ℕ) → i < length s → f ≡ first_of 10 (drop i s) → lines_of (drop i s) ≡ take (i + f - i) (drop i s) ∷ lines_of (drop (i + f + 1) s)
lines_at s i f h e =
    let p : i + f - i ≡ f = omega arith in
    let q : i + f + 1 ≡ i + (f + 1) = omega arith in
    let d : drop i s ≡ get_or s i 0 ∷ drop (suc i) s = drop-cons s i 0 h in
    let w : lines_of (drop i s) ≡ take (first_of 10 (drop i s)) (drop i s) ∷ lines_of (drop (first_of 10 (drop i s) + 1) (drop i s)) =
    rw d (lines_split (get_or s i 0) (drop (suc i) s)) in
    rw (p, q, ← drop-drop (f + 1) i s, e) w

pub lines_none : lines_of [] ≡ []
unfolding lines_of
lines_none = refl

-- no more lines than bytes
pub lines_few : (t : List ℕ) → length (lines_of t) ≤ length t
unfolding lines_of
lines_few [] = omega arith
lines_few (x ∷ t) = by_test (eqb x 10) (lines_of t) (length t) (lines_few t)
  where
    grown : (ls : List (List ℕ)) → length (grow x ls) ≤ suc (length ls)
    grown [] = omega arith
    grown (s ∷ ls) = omega arith

    by_test : (q : Bool) (ls : List (List ℕ)) (n : ℕ) → length ls ≤ n → length {A = List ℕ} (elim q [ true ↦ [] ∷ ls | false ↦ grow x ls ]) ≤ suc n
    by_test true ls n h = omega arith
    by_test false ls n h = omega (arith, grown ls, h)

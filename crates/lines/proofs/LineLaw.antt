-- Bytes one at a time: what remains of a list after i of its bytes decides the rest.
use mathlib.Core.Path.{◌≡◌, refl, sym, ap, ◌∙◌}
use mathlib.Core.Bool.{Bool, true, false, ◌&&◌, ◌||◌}
use mathlib.Core.List.{List, [], ◌∷◌}
use mathlib.Core.Logic.{by_cases}
use Prim.Native.Nat.{ℕ, zero, suc, ◌+◌, ◌-◌, ◌*◌, ◌^◌, ◌≤◌, ◌<◌}
use native.Mathlib.Decide.{dec_lt, ℕ_discrete}
use native.Mathlib.Numerals.{add-one}
use native.Mathlib.Omega.{arith}
use lib.Dec.{eqb}
use lib.Pointwise.{pointwise}
use lib.ListN.{length, get_or, take, drop, drop_of_length-le, length-drop}
use lib.Seq.{drop-cons, take_all}
use borrow.Author.Tests.{eq-eqb, ne_eqb, lt-ltb, le-ltb, le-leb, lt-leb}
use Rattle.std.specs.Prelude.{Option, Some, None, unwrap_or, MatchOption}
use Rattle.std.specs.List.{AllWithin, HoldsAt}
use Rattle.std.proofs.lemmas.Iterator.{index_from_first}
use Rattle.lines.specs.Lines.{Number, first_of, is_digit, decimal_from, is_padded, number_in, both, pair_in, starts, is_comment}

-- ---- the first b
pub first_stop : (b x : ℕ) (t : List ℕ) → x ≡ b → first_of b (x ∷ t) ≡ 0
unfolding first_of
first_stop b x t e = rw (eq-eqb x b e, first_of)

pub first_more : (b x : ℕ) (t : List ℕ) → (x ≡ b → ⊥) → first_of b (x ∷ t) ≡ suc (first_of b t)
unfolding first_of
first_more b x t d = rw (ne_eqb x b d, first_of)

pub first_none : (b : ℕ) → first_of b [] ≡ 0
unfolding first_of
first_none b = refl

pub first_found : (b : ℕ) (s : List ℕ) (r : Option ℕ) → MatchOption r (AllWithin (λ x. x ≡ b → ⊥) s 0 (length s)) (λ i. (i < length s) × HoldsAt (λ x. x ≡ b) s i × AllWithin (λ x. x ≡ b → ⊥) s 0 i)
    → first_of b s ≡ unwrap_or r (length s)
first_found b s r =
    index_from_first (first_of b) (λ x. x ≡ b) (λ x. x ≡ b → ⊥) (first_none b) (first_stop b) (λ x t d. rw (first_more b x t d) (omega arith)) s r

-- no more than all
pub first_le : (b : ℕ) (s : List ℕ) → first_of b s ≤ length s
unfolding first_of
first_le b [] = omega arith
first_le b (x ∷ t) = by_test (eqb x b) (first_of b t) (length t) (first_le b t)
  where
    by_test : (q : Bool) (f n : ℕ) → f ≤ n → elim q [ true ↦ 0 | false ↦ suc f ] ≤ suc n
    by_test true f n h = omega arith
    by_test false f n h = omega arith

-- ---- digits
digit_more : (a x : ℕ) (t : List ℕ) → 48 ≤ x → x ≤ 57 → decimal_from a (x ∷ t) ≡ decimal_from (10 * a + (x - 48)) t
unfolding decimal_from
digit_more a x t h l = rw (le-leb 48 x h, le-leb x 57 l, decimal_from)

pub digit_low : (a x : ℕ) (t : List ℕ) → x < 48 → decimal_from a (x ∷ t) ≡ None
unfolding decimal_from
digit_low a x t h = rw (lt-leb 48 x h, decimal_from)

pub digit_none : (a x : ℕ) (t : List ℕ) → is_digit x ≡ false → decimal_from a (x ∷ t) ≡ None
unfolding decimal_from
digit_none a x t e = rw (e, decimal_from)

module _ (s : List ℕ) (i a : ℕ) where
  pub decimal_next : i < length s → 48 ≤ get_or s i 0 → get_or s i 0 ≤ 57 → decimal_from a (drop i s) ≡ decimal_from (10 * a + (get_or s i 0 - 48)) (drop (i + 1) s)
  decimal_next h l m = rw (add-one i, drop-cons s i 0 h) (digit_more a (get_or s i 0) (drop (suc i) s) l m)

  pub decimal_none : i < length s → is_digit (get_or s i 0) ≡ false → decimal_from a (drop i s) ≡ None
  decimal_none h e = rw (drop-cons s i 0 h) (digit_none a (get_or s i 0) (drop (suc i) s) e)

  pub decimal_end : length s ≤ i → decimal_from a (drop i s) ≡ Some a
  unfolding decimal_from
  decimal_end h = rw (drop_of_length-le s h)

-- i digits write a number below 10 to the i
pub small_next : (i a x : ℕ) → a < 10 ^ i → x ≤ 9 → 10 * a + x < 10 ^ (i + 1)
small_next i a x h l = rw (add-one i) (omega arith)

pub small_five : (i a : ℕ) → i ≤ 5 → a < 10 ^ i → a < 100000
small_five zero a h l = omega arith
small_five (suc zero) a h l = omega arith
small_five (suc (suc zero)) a h l = omega arith
small_five (suc (suc (suc zero))) a h l = omega arith
small_five (suc (suc (suc (suc zero)))) a h l = omega arith
small_five (suc (suc (suc (suc (suc zero))))) a h l = omega arith
small_five (suc (suc (suc (suc (suc (suc i)))))) a h l = absurd (omega arith)

-- ---- two numbers
pub both_wrong : (x : Number) → both x None ≡ None
both_wrong (Some a) = refl
both_wrong None = refl

-- without a space there is no second number
pub pair_none : (s : List ℕ) → length s ≤ first_of 32 s → pair_in s ≡ None
unfolding pair_in
pair_none s h =
    let l : length s ≤ first_of 32 s + 1 = omega arith in
    rw (drop_of_length-le s l) (both_wrong (number_in (take (first_of 32 s) s)))

-- ---- the bytes at the front
module _ (x : ℕ) (f : List ℕ) (y : ℕ) (s : List ℕ) where
  starts_same : y ≡ x → starts (x ∷ f) (y ∷ s) ≡ starts f s
  unfolding starts
  starts_same e = rw (eq-eqb y x e, starts)

  starts_differ : (y ≡ x → ⊥) → starts (x ∷ f) (y ∷ s) ≡ false
  unfolding starts
  starts_differ d = rw (ne_eqb y x d, starts)

-- a line shorter than the front
pub starts_short : (f s : List ℕ) → length s < length f → starts f s ≡ false
unfolding starts
starts_short [] s h = absurd (omega arith)
starts_short (x ∷ f) [] h = refl
starts_short (x ∷ f) (y ∷ s) h = ap (λ (b : Bool). eqb y x && b) (starts_short f s (omega arith)) ∙ none (eqb y x)
  where
    none : (b : Bool) → (b && false) ≡ false
    none true = refl
    none false = refl

-- what `starts_with` tests
pub starts_is : (f s : List ℕ) → pointwise eqb f (take (length f) s) ≡ starts f s
unfolding starts
starts_is [] s = refl
starts_is (x ∷ f) [] = refl
starts_is (x ∷ f) (y ∷ s) =
    by_cases (ℕ_discrete y x) (λ e. rw (e, eq-eqb x x refl) (starts_is f s))
    (λ d. rw (ne_eqb y x d, ne_eqb x y (λ e. d (sym e))) refl)

-- a line that begins so is as long
pub starts_long : (f s : List ℕ) → starts f s ≡ true → length f ≤ length s
starts_long f s e = by_cases (dec_lt (length s) (length f)) (λ h. absurd (clash (sym (starts_short f s h) ∙ e))) (λ h. omega arith)
  where
    clash : false ≡ true → ⊥
    clash q = let z : ◌≡◌ {A = ℕ} 0 1 = cc in omega arith

-- ---- comments and numbers
-- the line "c"
alone : (s : List ℕ) → pointwise eqb s (99 ∷ []) ≡ (eqb (length s) 1 && starts (99 ∷ []) s)
unfolding starts
alone [] = refl
alone (x ∷ []) = refl
alone (x ∷ y ∷ t) = rw (ne_eqb (length (x ∷ y ∷ t)) 1 (λ e. omega arith)) (none (eqb x 99))
  where
    none : (b : Bool) → (b && false) ≡ false
    none true = refl
    none false = refl

module _ (s : List ℕ) where
  pub comment_alone : pointwise eqb s (99 ∷ []) ≡ true → true ≡ is_comment s
  comment_alone e = rw (sym (alone s) ∙ e) (sym (or_true (starts (99 ∷ 32 ∷ []) s)))
    where
      or_true : (b : Bool) → (b || true) ≡ true
      or_true true = refl
      or_true false = refl

  pub comment_other : pointwise eqb s (99 ∷ []) ≡ false → starts (99 ∷ 32 ∷ []) s ≡ is_comment s
  comment_other e = rw (sym (alone s) ∙ e) (sym (or_none (starts (99 ∷ 32 ∷ []) s)))
    where
      or_none : (b : Bool) → (b || false) ≡ b
      or_none true = refl
      or_none false = refl

  pub comment_none : starts (99 ∷ 32 ∷ []) s ≡ false → (length s ≡ 1 → ⊥) → false ≡ is_comment s
  comment_none e h = rw (e, ne_eqb (length s) 1 h)

  pub number_plain : 1 ≤ length s → length s ≤ 5 → is_padded s ≡ false → decimal_from 0 s ≡ number_in s
  number_plain l h e = rw (le-ltb (length s) 1 l, le-ltb 5 (length s) h, e)

-- a part up to the end of a list
pub rest_is : (s : List ℕ) (k : ℕ) → take (length s - k) (drop k s) ≡ drop k s
rest_is s k = take_all (length s - k) (drop k s) (omega (arith, length-drop k s))

pub pair_is : (s : List ℕ) (k : ℕ) → k ≡ first_of 32 s → both (number_in (take k s)) (number_in (take (length s - (k + 1)) (drop (k + 1) s))) ≡ pair_in s
unfolding pair_in
pair_is s k e = ap (λ (t : List ℕ). both (number_in (take k s)) (number_in t)) (rest_is s (k + 1)) ∙ ap (λ (j : ℕ). both (number_in (take j s)) (number_in (drop (j + 1) s))) e

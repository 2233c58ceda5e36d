-- Carriage returns: what holds one is no number and no two numbers, since it is no digit and no space.
use mathlib.Core.Path.{◌≡◌, refl, sym, ap, ap₂, ◌∙◌}
use mathlib.Core.Bool.{Bool, true, false, Bool-discrete, ◌||◌}
use mathlib.Core.List.{List, [], ◌∷◌, ◌++◌}
use mathlib.Core.Logic.{by_cases}
use Prim.Native.Nat.{ℕ, suc, ◌+◌, ◌-◌, ◌*◌, ◌≤◌, ◌<◌}
use native.Mathlib.Decide.{dec_lt, ℕ_discrete}
use native.Mathlib.Numerals.{add-one}
use native.Mathlib.Omega.{arith}
use lib.Dec.{eqb, ltb}
use lib.ListN.{length, get_or, take, drop, take-append-drop, drop_of_length-le}
use lib.Seq.{drop-cons}
use borrow.Author.Tests.{eq-eqb, ne_eqb}
use Rattle.std.specs.Prelude.{Some, None}
use Rattle.lines.specs.Lines.{Number, has, first_of, is_digit, decimal_from, pick_number, is_padded, number_in, both, pair_in, starts}
use Rattle.lines.proofs.LineLaw.{first_stop, first_more, digit_low, both_wrong}

clash : false ≡ true → ⊥
clash e = let z : ◌≡◌ {A = ℕ} 0 1 = cc in omega arith

pub other_true : (b : Bool) → (b ≡ true → ⊥) → b ≡ false
other_true true n = absurd (n refl)
other_true false n = refl

-- ---- a byte in a list
pub has_none : (x : ℕ) → has x [] ≡ false
unfolding has
has_none x = refl

pub has_cons : (x y : ℕ) (t : List ℕ) → has x (y ∷ t) ≡ (eqb y x || has x t)
unfolding has
has_cons x y t = refl

pub has_next : (x y : ℕ) (t : List ℕ) → (y ≡ x → ⊥) → has x (y ∷ t) ≡ has x t
unfolding has
has_next x y t d = rw (ne_eqb y x d, has)

pub has_append : (x : ℕ) (s t : List ℕ) → has x (s ++ t) ≡ (has x s || has x t)
unfolding has
has_append x [] t = refl
has_append x (y ∷ s) t = ap (λ (b : Bool). eqb y x || b) (has_append x s t) ∙ assoc (eqb y x) (has x s) (has x t)
  where
    assoc : (a b c : Bool) → (a || (b || c)) ≡ ((a || b) || c)
    assoc true b c = refl
    assoc false b c = refl

-- ---- numbers
test_wrong : (q : Bool) (n : Number) → n ≡ None → elim q as (λ _. Number) [ true ↦ n | false ↦ None ] ≡ None
test_wrong true n e = e
test_wrong false n e = refl

decimal_step : (a x : ℕ) (t : List ℕ) → decimal_from (10 * a + (x - 48)) t ≡ None → decimal_from a (x ∷ t) ≡ None
unfolding decimal_from
decimal_step a x t e = test_wrong (is_digit x) (decimal_from (10 * a + (x - 48)) t) e

decimal_return : (s : List ℕ) (a : ℕ) → has 13 s ≡ true → decimal_from a s ≡ None
decimal_return [] a h = absurd (clash (sym (has_none 13) ∙ h))
decimal_return (x ∷ t) a h =
    by_cases (ℕ_discrete x 13) (λ e. digit_low a x t (omega arith))
    (λ d. decimal_step a x t (decimal_return t (10 * a + (x - 48)) (sym (has_next 13 x t d) ∙ h)))

pick_wrong : (b : Bool) (n : Number) → n ≡ None → pick_number b None n ≡ None
pick_wrong true n e = refl
pick_wrong false n e = e

pub number_return : (s : List ℕ) → has 13 s ≡ true → number_in s ≡ None
number_return s h =
    pick_wrong (ltb (length s) 1) _ (pick_wrong (ltb 5 (length s)) _ (pick_wrong (is_padded s) _ (decimal_return s 0 h)))

-- ---- two numbers
first_at : (b : ℕ) (s : List ℕ) → first_of b s < length s → get_or s (first_of b s) 0 ≡ b
first_at b [] h = absurd (omega arith)
first_at b (x ∷ t) h =
    by_cases (ℕ_discrete x b) (λ e. rw (first_stop b x t e) e)
    (λ d. rw (first_more b x t d) (first_at b t (let l : suc (first_of b t) < suc (length t) = rw (first_more b x t d) at h in omega arith)))

-- what is left from the first b on holds x only after it
has_after : (x b : ℕ) (s : List ℕ) → (b ≡ x → ⊥) → has x (drop (first_of b s) s) ≡ has x (drop (first_of b s + 1) s)
has_after x b s d =
    by_cases (dec_lt (first_of b s) (length s))
    (λ h.
    let n : get_or s (first_of b s) 0 ≡ x → ⊥ = λ e. d (sym (first_at b s h) ∙ e) in
    ap (has x) (drop-cons s (first_of b s) 0 h) ∙ has_next x (get_or s (first_of b s) 0) (drop (suc (first_of b s)) s) n ∙ ap (λ (k : ℕ). has x (drop k s)) (sym (add-one (first_of b s))))
    (λ h.
    let l : length s ≤ first_of b s = omega arith in
    let m : length s ≤ first_of b s + 1 = omega arith in
    ap (has x) (drop_of_length-le s l ∙ sym (drop_of_length-le s m)))

split_has : (x k : ℕ) (s : List ℕ) → has x s ≡ (has x (take k s) || has x (drop k s))
split_has x k s = ap (has x) (sym (take-append-drop k s)) ∙ has_append x (take k s) (drop k s)

later : (a b : Bool) → (a || b) ≡ true → a ≡ false → b ≡ true
later true b e n = absurd (clash (sym n))
later false b e n = e

pair_is : (s : List ℕ) → pair_in s ≡ both (number_in (take (first_of 32 s) s)) (number_in (drop (first_of 32 s + 1) s))
unfolding pair_in
pair_is s = refl

pub pair_return : (s : List ℕ) → has 13 s ≡ true → pair_in s ≡ None
pair_return s h =
    pair_is s
    ∙ by_cases (Bool-discrete (has 13 (take k s)) true)
    (λ e. ap (λ (n : Number). both n (number_in (drop (k + 1) s))) (number_return (take k s) e))
    (λ d.
    let f = other_true (has 13 (take k s)) d in
    let g = later (has 13 (take k s)) (has 13 (drop k s)) (sym (split_has 13 k s) ∙ h) f in
    ap (both (number_in (take k s))) (number_return (drop (k + 1) s) (sym (has_after 13 32 s (λ e. omega arith)) ∙ g)) ∙ both_wrong (number_in (take k s)))
  where
    k : ℕ
    k = first_of 32 s

-- ---- fronts
starts_take : (f s : List ℕ) → starts f s ≡ true → take (length f) s ≡ f
unfolding starts
starts_take [] s e = refl
starts_take (x ∷ f) [] e = absurd (clash e)
starts_take (x ∷ f) (y ∷ s) e =
    by_cases (ℕ_discrete y x)
    (λ q. ap₂ (λ (z : ℕ) (l : List ℕ). z ∷ l) q (starts_take f s (rw (eq-eqb y x q) at e)))
    (λ d. absurd (clash (rw (ne_eqb y x d) at e)))

-- what holds x and begins with a front that does not, holds it after the front
pub has_rest : (x : ℕ) (f s : List ℕ) → starts f s ≡ true → has x f ≡ false → has x s ≡ true → has x (drop (length f) s) ≡ true
has_rest x f s e n h =
    later (has x (take (length f) s)) (has x (drop (length f) s)) (sym (split_has x (length f) s) ∙ h) (ap (has x) (starts_take f s e) ∙ n)

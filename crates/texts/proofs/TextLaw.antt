-- Bytes put into a text one after another, and the digits of numbers.
use mathlib.Core.Path.{◌≡◌, sym, ap, subst, ◌∙◌}
use mathlib.Core.List.{List, [], ◌∷◌, ◌++◌, append_assoc, append-nil}
use Prim.Native.Nat.{ℕ, zero, suc, ◌+◌, ◌-◌, ◌*◌, ◌/◌, ◌%◌, ◌^◌, ◌≤◌, ◌<◌}
use native.Mathlib.Numerals.{add-one}
use native.Mathlib.Omega.{arith}
use native.Mathlib.Nat.{pow-succ'}
use borrow.Author.Tests.{lt-ltb, le-ltb}
use lib.ListN.{length, get_or, set, take, drop, length-append, length-drop, length-set}
use lib.Seq.{length-take-le, take-suc-set, drop-cons, drop-length, drop-drop, drop-set-lt, get_or-set_same, take_all}
use Rattle.texts.specs.Text.{decimal_in, decimal_of, Put}

-- ---- what was put
-- bytes that are the same from k on are so from j on
pub drop_past : (k j : ℕ) (l m : List ℕ) → k ≤ j → drop k l ≡ drop k m → drop j l ≡ drop j m
drop_past k j l m h e =
    let n : k + (j - k) ≡ j = omega arith in
    ap (λ (i : ℕ). drop i l) (sym n) ∙ sym (drop-drop (j - k) k l) ∙ ap (drop (j - k)) e ∙ drop-drop (j - k) k m ∙ ap (λ (i : ℕ). drop i m) n

-- a byte is written before them
pub drop_turn : (k v : ℕ) (l m : List ℕ) → drop k l ≡ drop k m → drop (k + 1) (set l k v) ≡ drop (k + 1) m
drop_turn k v l m e = drop-set-lt (k + 1) l k v (omega arith) ∙ drop_past k (k + 1) l m (omega arith) e

pub put_is : (old : List ℕ) (at : ℕ) (s new : List ℕ) (k : ℕ) → length new ≡ length old → at ≤ length old → k ≤ length new → take k new ≡ take at old ++ s → drop k new ≡ drop k old → Put old at s new k
put_is old at s new k e h l f g =
    record {
      size = e;
      next = sym (length-take-le k new l) ∙ ap length f ∙ length-append (take at old) s ∙ ap (λ (n : ℕ). n + length s) (length-take-le at old h);
      front = f;
      rest = g;
    }

pub put_join : {a : List ℕ} {i : ℕ} {s b : List ℕ} {j : ℕ} {t c : List ℕ} {k : ℕ} → Put a i s b j → Put b j t c k → Put a i (s ++ t) c k
put_join {a} {i} {s} {b} {j} {t} {c} {k} p q =
    record {
      size = q.size ∙ p.size;
      next = omega (arith, p.next, q.next, length-append s t);
      front = q.front ∙ ap (λ (l : List ℕ). l ++ t) p.front ∙ append_assoc (take i a) s t;
      rest = q.rest ∙ drop_past j k b a (omega (arith, q.next)) p.rest;
    }

-- one byte more stands in the text
pub byte_turn : (l : List ℕ) (k v : ℕ) (rest : List ℕ) → k < length l → take (k + 1) (set l k v) ++ rest ≡ take k l ++ (v ∷ rest)
byte_turn l k v rest h =
    ap (λ (n : ℕ). take n (set l k v) ++ rest) (add-one k)
    ∙ ap (λ (m : List ℕ). m ++ rest) (take-suc-set l k v h)
    ∙ append_assoc (take k l) (v ∷ []) rest

pub drop_all : (s : List ℕ) (i : ℕ) → i ≡ length s → drop i s ≡ []
drop_all s i e = ap (λ (n : ℕ). drop n s) e ∙ drop-length s

-- nothing is left to put
pub none_left : (a r : List ℕ) → r ≡ [] → a ≡ a ++ r
none_left a r e = sym (append-nil a) ∙ ap (λ (m : List ℕ). a ++ m) (sym e)

-- ---- decimal digits
pub decimal_one : (k x : ℕ) → x < 10 → decimal_in (suc k) x ≡ (48 + x) ∷ []
unfolding decimal_in
decimal_one k x h = rw (lt-ltb x 10 h, decimal_in)

pub decimal_more : (k x : ℕ) → 10 ≤ x → decimal_in (suc k) x ≡ decimal_in k (x / 10) ++ ((48 + x % 10) ∷ [])
unfolding decimal_in
decimal_more k x h = rw (le-ltb x 10 h, decimal_in)

pub drop_set : (l : List ℕ) (i v : ℕ) → i < length l → drop i (set l i v) ≡ v ∷ drop (suc i) l
drop_set l i v h =
    let n : i < length (set l i v) = omega (arith, length-set l i v) in
    let z : i < suc i = omega arith in
    drop-cons (set l i v) i 0 n
    ∙ ap (λ (w : ℕ). w ∷ drop (suc i) (set l i v)) (get_or-set_same l i v 0 h)
    ∙ ap (λ (m : List ℕ). v ∷ m) (drop-set-lt (suc i) l i v z)

-- a number of one digit at byte 0 has no more
pub spell_first : (i x : ℕ) → 10 ≤ x → x < 10 ^ suc i → 1 ≤ i
spell_first zero x h l = absurd (omega arith)
spell_first (suc i) x h l = omega arith

pub spell_fits : (i x : ℕ) → 1 ≤ i → x < 10 ^ suc i → x / 10 < 10 ^ suc (i - 1)
spell_fits zero x h l = absurd (omega arith)
spell_fits (suc i) x h l =
    let e : suc i - 1 ≡ i = omega arith in
    let p : x < 10 * 10 ^ suc i = rw pow-succ' at l in
    rw e (omega arith)

pub spell_turn : (l : List ℕ) (i x : ℕ) (w : List ℕ) → i < length l → 1 ≤ i → 10 ≤ x → decimal_in (suc i) x ++ drop (suc i) l ≡ w
    → decimal_in (suc (i - 1)) (x / 10) ++ drop (suc (i - 1)) (set l i (48 + x % 10)) ≡ w
spell_turn l i x w h g t e =
    let n : suc (i - 1) ≡ i = omega arith in
    ap (λ (k : ℕ). decimal_in k (x / 10) ++ drop k (set l i (48 + x % 10))) n
    ∙ ap (λ (m : List ℕ). decimal_in i (x / 10) ++ m) (drop_set l i (48 + x % 10) h)
    ∙ sym (append_assoc (decimal_in i (x / 10)) ((48 + x % 10) ∷ []) (drop (suc i) l))
    ∙ ap (λ (m : List ℕ). m ++ drop (suc i) l) (sym (decimal_more i x t))
    ∙ e

pub spell_last : (l : List ℕ) (i x : ℕ) (w : List ℕ) → i < length l → x < 10 → decimal_in (suc i) x ++ drop (suc i) l ≡ w → drop i (set l i (48 + x)) ≡ w
spell_last l i x w h t e = drop_set l i (48 + x) h ∙ ap (λ (m : List ℕ). m ++ drop (suc i) l) (sym (decimal_one i x t)) ∙ e

-- a number that was put is what stands at the end of 20 bytes
pub number_put : (a : List ℕ) (at : ℕ) (bytes : List ℕ) (first x : ℕ) (b : List ℕ) (k : ℕ) → first < 20 → length bytes ≡ 20 → drop first bytes ≡ decimal_of x → Put a at (take (20 - first) (drop first bytes)) b k → Put a at (decimal_of x) b k × (k ≤ at + 20)
number_put a at bytes first x b k h n e p =
    let l : length (drop first bytes) ≤ 20 - first = omega (arith, length-drop first bytes) in
    let t : take (20 - first) (drop first bytes) ≡ decimal_of x = take_all (20 - first) (drop first bytes) l ∙ e in
    let q : Put a at (decimal_of x) b k = rw t at p in
    (q, omega (arith, q.next, ap length e, length-drop first bytes))

pub number_is : {a : List ℕ} {at : ℕ} {x y : ℕ} {b : List ℕ} {k : ℕ} → x ≡ y → Put a at (decimal_of x) b k → Put a at (decimal_of y) b k
number_is {a} {at} {x} {y} {b} {k} e p = subst (λ (z : ℕ). Put a at (decimal_of z) b k) e p

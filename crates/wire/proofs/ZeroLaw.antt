-- Bytes that are all zero: one after the other in one byte, and the words that they stand for.
use mathlib.Core.Path.{◌≡◌, refl, sym, ap, ap₂, ◌∙◌}
use mathlib.Core.Bool.{Bool, true, false, ◌&&◌}
use mathlib.Core.Logic.{by_cases}
use mathlib.Core.List.{List, [], ◌∷◌, ◌++◌}
use Prim.Native.Nat.{ℕ, zero, suc, ◌+◌, ◌*◌, ◌≤◌, ◌<◌}
use native.Mathlib.Numerals.{add-one}
use native.Mathlib.Decide.{ℕ_discrete}
use native.Mathlib.Omega.{arith}
use lib.Bits.{bit_or, and_le_l, and_le_r, or_add_and}
use lib.Dec.{eqb}
use lib.ListN.{length, get_or, take, drop, length-drop, take-append-drop, drop_of_length-le}
use lib.Seq.{drop-cons}
use borrow.Author.Tests.{eq-eqb, ne_eqb}
use Rattle.codec.specs.Codec.{value_of, words_of}
use Rattle.opening.specs.First.{all_zero}
use Rattle.wire.specs.Wire.{record_in}
use Rattle.wire.proofs.WireLaw.{seconds_in}

and_assoc : (x y z : Bool) → ((x && y) && z) ≡ (x && (y && z))
and_assoc true y z = refl
and_assoc false y z = refl

and_true : (x : Bool) → (x && true) ≡ x
and_true true = refl
and_true false = refl

-- a number that is zero where two are
both_zero : (r x y : ℕ) → (x ≡ 0 → y ≡ 0 → r ≡ 0) → x ≤ r → y ≤ r → eqb r 0 ≡ (eqb x 0 && eqb y 0)
both_zero r x y z hx hy =
    by_cases (ℕ_discrete x 0)
    (λ ex. by_cases (ℕ_discrete y 0)
    (λ ey. eq-eqb r 0 (z ex ey) ∙ sym (ap₂ ◌&&◌ (eq-eqb x 0 ex) (eq-eqb y 0 ey)))
    (λ fy. ne_eqb r 0 (λ e. fy (omega (arith, e, hy))) ∙ sym (ap₂ ◌&&◌ (eq-eqb x 0 ex) (ne_eqb y 0 fy))))
    (λ fx. ne_eqb r 0 (λ e. fx (omega (arith, e, hx))) ∙ sym (ap (λ (b : Bool). b && eqb y 0) (ne_eqb x 0 fx)))

or_zero : (x y : ℕ) → eqb (bit_or x y) 0 ≡ (eqb x 0 && eqb y 0)
or_zero x y =
    both_zero (bit_or x y) x y (λ ex ey. omega (arith, ex, ey, or_add_and x y)) (omega (arith, or_add_and x y, and_le_r x y)) (omega (arith, or_add_and x y, and_le_l x y))

-- ---- byte after byte
module _ (b : List ℕ) (any i : ℕ) (w : Bool) (rest : (eqb any 0 && all_zero (drop i b)) ≡ w) where
  pub any_go : i < length b → (eqb (bit_or any (get_or b i 0)) 0 && all_zero (drop (i + 1) b)) ≡ w
  unfolding all_zero
  any_go h =
      let x = get_or b i 0 in
      let more = all_zero (drop (i + 1) b) in
      let e : all_zero (drop i b) ≡ (eqb x 0 && more) = ap all_zero (drop-cons b i 0 h) ∙ rw (add-one i) in
      ap (λ (z : Bool). z && more) (or_zero any x) ∙ and_assoc (eqb any 0) (eqb x 0) more ∙ ap (λ (z : Bool). eqb any 0 && z) (sym e) ∙ rest

  pub any_end : length b ≤ i → eqb any 0 ≡ w
  unfolding all_zero
  any_end h = sym (and_true (eqb any 0)) ∙ ap (λ (z : Bool). eqb any 0 && z) (sym (ap all_zero (drop_of_length-le b h))) ∙ rest

-- ---- the words of bytes
value_zero : (l : List ℕ) → eqb (value_of l) 0 ≡ all_zero l
unfolding value_of all_zero
value_zero [] = refl
value_zero (x ∷ l) =
    both_zero (x + 256 * value_of l) x (value_of l) (λ ex ey. omega (arith, ex, ey)) (omega arith) (omega arith) ∙ ap (λ (z : Bool). eqb x 0 && z) (value_zero l)

append_zero : (u v : List ℕ) → all_zero (u ++ v) ≡ (all_zero u && all_zero v)
unfolding all_zero
append_zero [] v = refl
append_zero (x ∷ u) v = ap (λ (z : Bool). eqb x 0 && z) (append_zero u v) ∙ sym (and_assoc (eqb x 0) (all_zero u) (all_zero v))

words_zero : (k : ℕ) (b : List ℕ) → length b ≡ 8 * k → all_zero (words_of k b) ≡ all_zero b
unfolding words_of all_zero
words_zero zero [] e = refl
words_zero zero (x ∷ b) e = absurd (omega (arith, e))
words_zero (suc k) b e =
    ap₂ ◌&&◌ (value_zero (take 8 b)) (words_zero k (drop 8 b) (length-drop 8 b ∙ omega (arith, e)))
    ∙ sym (append_zero (take 8 b) (drop 8 b)) ∙ ap all_zero (take-append-drop 8 b)

pub seconds_zero : (b : List ℕ) → length b ≡ 3720 → all_zero (drop 360 b) ≡ all_zero (record_in b).seconds
seconds_zero b e = sym (words_zero 420 (drop 360 b) (length-drop 360 b ∙ omega (arith, e))) ∙ ap all_zero (seconds_in b)

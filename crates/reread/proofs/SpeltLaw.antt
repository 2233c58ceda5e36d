-- Numbers of one or two digits, as they are written, are read.
use mathlib.Core.Path.{◌≡◌, refl, sym, ap, ◌∙◌}
use mathlib.Core.Bool.{false}
use mathlib.Core.List.{List, [], ◌∷◌, ◌++◌}
use mathlib.Core.Logic.{by_cases}
use Prim.Native.Nat.{ℕ, ◌+◌, ◌-◌, ◌*◌, ◌/◌, ◌%◌, ◌≤◌, ◌<◌}
use native.Mathlib.Decide.{dec_lt}
use native.Mathlib.Omega.{arith}
use lib.ListN.{length}
use borrow.Author.Tests.{ne_eqb}
use Rattle.std.specs.Prelude.{Some, None}
use Rattle.lines.specs.Lines.{has, number_in}
use Rattle.lines.proofs.LineLaw.{decimal_next, decimal_end, number_plain}
use Rattle.lines.proofs.ReturnLaw.{has_none, has_next}
use Rattle.texts.specs.Text.{decimal_of}
use Rattle.texts.proofs.TextLaw.{decimal_one, decimal_more}

-- at most two bytes that write a number, with neither a space nor a line feed among them
pub record Spelt (x : ℕ) (s : List ℕ) : Type 0 where
  pub value : number_in s ≡ Some x
  pub no_space : has 32 s ≡ false
  pub no_feed : has 10 s ≡ false
  pub short : length s ≤ 2

-- a digit is no such byte
digit_not : (b d : ℕ) (s : List ℕ) → b < 48 → has b s ≡ false → has b ((48 + d) ∷ s) ≡ false
digit_not b d s l h = has_next b (48 + d) s (λ e. omega arith) ∙ h

one : (x : ℕ) → x < 10 → Spelt x ((48 + x) ∷ [])
one x l =
    record {
      value =
          sym (number_plain s (omega arith) (omega arith) refl)
          ∙ decimal_next s 0 0 (omega arith) (omega arith) (omega arith)
          ∙ decimal_end s 1 (10 * 0 + ((48 + x) - 48)) (omega arith)
          ∙ ap Some (let z : 10 * 0 + ((48 + x) - 48) ≡ x = omega arith in z);
      no_space = digit_not 32 x [] (omega arith) (has_none 32);
      no_feed = digit_not 10 x [] (omega arith) (has_none 10);
      short = omega arith;
    }
  where
    s : List ℕ
    s = (48 + x) ∷ []

two : (x y : ℕ) → 1 ≤ x → x < 10 → y < 10 → Spelt (10 * x + y) ((48 + x) ∷ (48 + y) ∷ [])
two x y g l m =
    record {
      value =
          sym (number_plain s (omega arith) (omega arith) (ne_eqb (48 + x) 48 (λ e. omega arith)))
          ∙ decimal_next s 0 0 (omega arith) (omega arith) (omega arith)
          ∙ decimal_next s 1 (10 * 0 + ((48 + x) - 48)) (omega arith) (omega arith) (omega arith)
          ∙ decimal_end s 2 (10 * (10 * 0 + ((48 + x) - 48)) + ((48 + y) - 48)) (omega arith)
          ∙ ap Some (let z : 10 * (10 * 0 + ((48 + x) - 48)) + ((48 + y) - 48) ≡ 10 * x + y = omega arith in z);
      no_space = digit_not 32 x ((48 + y) ∷ []) (omega arith) (digit_not 32 y [] (omega arith) (has_none 32));
      no_feed = digit_not 10 x ((48 + y) ∷ []) (omega arith) (digit_not 10 y [] (omega arith) (has_none 10));
      short = omega arith;
    }
  where
    s : List ℕ
    s = (48 + x) ∷ (48 + y) ∷ []

two_digits : (x : ℕ) → 10 ≤ x → x < 100 → decimal_of x ≡ (48 + x / 10) ∷ (48 + x % 10) ∷ []
two_digits x l m = decimal_more 19 x l ∙ ap (λ (s : List ℕ). s ++ ((48 + x % 10) ∷ [])) (decimal_one 18 (x / 10) (omega arith))

pub spelt : (x : ℕ) → x < 100 → Spelt x (decimal_of x)
spelt x m =
    by_cases (dec_lt x 10)
    (λ l. rw (decimal_one 19 x l) (one x l))
    (λ n.
    let l : 10 ≤ x = omega arith in
    let e : 10 * (x / 10) + x % 10 ≡ x = omega arith in
    rw (two_digits x l m) (rw e at (two (x / 10) (x % 10) (omega arith) (omega arith) (omega arith))))

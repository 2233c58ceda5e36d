-- What is told, by what was taken and closed.
use Rattle.std.specs.Prelude.{Option, None, is_some, unwrap_or}
use mathlib.Core.Path.{◌≡◌, refl, sym, ap, ◌∙◌}
use mathlib.Core.Bool.{Bool, true, false, ◌&&◌}
use mathlib.Core.List.{List}
use Prim.Native.Nat.{ℕ, ◌≤◌}
use native.Mathlib.Omega.{arith}
use lib.Dec.{eqb}
use lib.ListN.{length, take}
use borrow.Author.Tests.{eq-eqb, eqb-true}
use Rattle.texts.specs.Text.{line_if}
use Rattle.endings.specs.declared.Ending.{Ending}
use Rattle.endings.specs.Endings.{Tells, told_if, Concludes, Delivers}

and_false : (x : Bool) → x && false ≡ false
and_false true = refl
and_false false = refl

fits_if : (x : Bool) (k n : ℕ) → k ≤ n → unwrap_or (told_if x k) 0 ≤ n
fits_if true k n h = h
fits_if false k n h = omega arith

told_if_lem : (x : Bool) (k : ℕ) (b l : List ℕ) → take k b ≡ l → take (unwrap_or (told_if x k) 0) b ≡ line_if x l
told_if_lem true k b l h = h
told_if_lem false k b l h = refl

some_if : (x : Bool) (k : ℕ) → is_some (told_if x k) ≡ x
some_if true k = refl
some_if false k = refl

pub concludes : (k bytes : ℕ) (told : Option ℕ) (x : Bool) → told ≡ told_if x k → Concludes k bytes (record { told = told; sent = bytes; closed = x })
concludes k bytes told x e = record { told = e; sent = refl }

-- not all was taken
pub not_delivered : (k all sent : ℕ) → Delivers k all (record { told = None; sent = sent; closed = false })
not_delivered k all sent = record { told = sym (ap (λ (x : Bool). told_if x k) (and_false (eqb sent all))) }

-- all was
pub delivered : (k all sent : ℕ) (r : Ending) → sent ≡ all → Concludes k sent r → Delivers k all r
delivered k all sent r e h =
    record { told = h.told ∙ ap (λ (x : Bool). told_if (x && r.closed) k) (sym (ap (λ (j : ℕ). eqb j all) h.sent ∙ eq-eqb sent all e)) }

-- the line that stands in the text told of
pub line_ends : (k all : ℕ) (line b : List ℕ) (r : Ending) → Delivers k all r → k ≤ length b → take k b ≡ line → Tells all line b r
line_ends k all line b r h l e =
    record {
      fits = rw h.told (fits_if (eqb r.sent all && r.closed) k (length b) l);
      told = ap (λ (j : Option ℕ). take (unwrap_or j 0) b) h.told ∙ told_if_lem (eqb r.sent all && r.closed) k b line e;
      some = ap is_some h.told ∙ some_if (eqb r.sent all && r.closed) k;
    }

-- the same from the parts: nothing where the output was not closed, the line once all was taken
pub not_told : (all sent : ℕ) (line b : List ℕ) → Tells all line b (record { told = None; sent = sent; closed = false })
not_told all sent line b =
    let none = sym (and_false (eqb sent all)) in
    record { fits = omega arith; told = ap (λ (x : Bool). line_if x line) none; some = none }

pub line_told : (k all sent : ℕ) (line b : List ℕ) (r : Ending) → eqb sent all ≡ true → Concludes k sent r → k ≤ length b → take k b ≡ line
    → Tells all line b r
line_told k all sent line b r f h l e = line_ends k all line b r (delivered k all sent r (eqb-true sent all f) h) l e

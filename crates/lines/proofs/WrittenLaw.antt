-- What was written is read: a line that ends with a line feed, and two numbers with a space between them.
use mathlib.Core.Path.{◌≡◌, refl, sym, ap, ap₂, ◌∙◌}
use mathlib.Core.Bool.{Bool, true, false, ◌||◌}
use mathlib.Core.List.{List, [], ◌∷◌, ◌++◌}
use Prim.Native.Nat.{ℕ, suc, ◌+◌}
use native.Mathlib.Omega.{arith}
use lib.Dec.{eqb}
use lib.ListN.{length, take, drop}
use lib.Seq.{take-append_seam, drop-append-add}
use borrow.Author.Tests.{eqb-false}
use Rattle.std.specs.Prelude.{Some, None}
use Rattle.lines.specs.Lines.{Number, first_of, has, number_in, both, pair_in, grow, lines_of}
use Rattle.lines.proofs.LineLaw.{first_stop, first_more}
use Rattle.lines.proofs.SplitLaw.{lines_feed, lines_byte}
use Rattle.lines.proofs.ReturnLaw.{has_cons}

-- ---- a byte that does not stand in a list
or_first : (a b : Bool) → (a || b) ≡ false → a ≡ false
or_first true b e = e
or_first false b e = refl

or_second : (a b : Bool) → (a || b) ≡ false → b ≡ false
or_second true b e = absurd (let z : ◌≡◌ {A = ℕ} 0 1 = cc in omega arith)
or_second false b e = e

module _ (x y : ℕ) (s : List ℕ) (h : has x (y ∷ s) ≡ false) where
  other : y ≡ x → ⊥
  other = eqb-false y x (or_first (eqb y x) (has x s) (sym (has_cons x y s) ∙ h))

  none : has x s ≡ false
  none = or_second (eqb y x) (has x s) (sym (has_cons x y s) ∙ h)

first_is : (b : ℕ) (s t : List ℕ) → has b s ≡ false → first_of b (s ++ (b ∷ t)) ≡ length s
first_is b [] t h = first_stop b b t refl
first_is b (x ∷ s) t h = first_more b x (s ++ (b ∷ t)) (other b x s h) ∙ ap suc (first_is b s t (none b x s h))

-- ---- lines
pub lines_written : (s t : List ℕ) → has 10 s ≡ false → lines_of (s ++ (10 ∷ t)) ≡ s ∷ lines_of t
lines_written [] t h = lines_feed 10 t refl
lines_written (x ∷ s) t h = lines_byte x (s ++ (10 ∷ t)) (other 10 x s h) ∙ ap (grow x) (lines_written s t (none 10 x s h))

-- ---- two numbers
pub pair_written : (s t : List ℕ) (a b : ℕ) → has 32 s ≡ false → number_in s ≡ Some a → number_in t ≡ Some b → pair_in (s ++ (32 ∷ t)) ≡ Some (a, b)
unfolding pair_in
pair_written s t a b h p q =
    ap (λ (k : ℕ). both (number_in (take k (s ++ (32 ∷ t)))) (number_in (drop (k + 1) (s ++ (32 ∷ t))))) (first_is 32 s t h)
    ∙ ap₂ (λ (x y : List ℕ). both (number_in x) (number_in y)) (take-append_seam s (32 ∷ t)) (drop-append-add s (32 ∷ t) 1)
    ∙ ap₂ (λ (x y : Number). both x y) p q

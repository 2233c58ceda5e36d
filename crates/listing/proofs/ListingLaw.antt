-- The digits of a point and the lines of a list, one after another.
use mathlib.Core.Path.{◌≡◌, refl, sym, ap, ◌∙◌}
use mathlib.Core.List.{List, [], ◌∷◌, ◌++◌, append_assoc}
use Prim.Native.Nat.{ℕ, zero, suc, ◌+◌, ◌-◌, ◌/◌, ◌%◌, ◌<◌}
use native.Mathlib.Numerals.{add-one}
use native.Mathlib.Omega.{arith}
use lib.ListN.{length, get_or, set, take, drop}
use lib.Seq.{drop-cons}
use Rattle.texts.specs.Text.{Put}
use Rattle.texts.proofs.TextLaw.{byte_turn}
use Rattle.listing.specs.Listing.{digits_of, layout_line, layout_lines}

-- ---- digits of a point
pub digits_none : (n x : ℕ) → n ≡ 0 → digits_of n x ≡ []
unfolding digits_of
digits_none zero x e = refl
digits_none (suc n) x e = absurd (omega arith)

pub digits_more : (n x : ℕ) → digits_of (suc n) x ≡ (48 + x % 3) ∷ digits_of n (x / 3)
unfolding digits_of
digits_more n x = refl

pub digits_turn : (l : List ℕ) (k end x : ℕ) → k < length l → k < end → take (k + 1) (set l k (48 + x % 3)) ++ digits_of (end - (k + 1)) (x / 3) ≡ take k l ++ digits_of (end - k) x
digits_turn l k end x h g =
    let e : suc (end - (k + 1)) ≡ end - k = omega arith in
    byte_turn l k (48 + x % 3) (digits_of (end - (k + 1)) (x / 3)) h
    ∙ ap (λ (m : List ℕ). take k l ++ m) (sym (digits_more (end - (k + 1)) x) ∙ ap (λ (n : ℕ). digits_of n x) e)

-- ---- lines
pub lines_none : (n : ℕ) (s : List ℕ) → s ≡ [] → layout_lines n s ≡ []
unfolding layout_lines
lines_none n [] e = refl
lines_none n (x ∷ s) e = cc

pub lines_more : (n x : ℕ) (s : List ℕ) → layout_lines n (x ∷ s) ≡ layout_line n x ++ layout_lines n s
unfolding layout_lines
lines_more n x s = refl

pub lines_turn : (n : ℕ) (a : List ℕ) (j : ℕ) (b : List ℕ) (k i : ℕ) (s : List ℕ) → i < length s → Put a j (layout_line n (get_or s i 0)) b k → take k b ++ layout_lines n (drop (i + 1) s) ≡ take j a ++ layout_lines n (drop i s)
lines_turn n a j b k i s h p =
    let x = get_or s i 0 in
    ap (λ (m : List ℕ). m ++ layout_lines n (drop (i + 1) s)) p.front
    ∙ append_assoc (take j a) (layout_line n x) (layout_lines n (drop (i + 1) s))
    ∙ ap (λ (m : ℕ). take j a ++ (layout_line n x ++ layout_lines n (drop m s))) (add-one i)
    ∙ ap (λ (m : List ℕ). take j a ++ m) (sym (lines_more n x (drop (suc i) s)) ∙ ap (layout_lines n) (sym (drop-cons s i 0 h)))

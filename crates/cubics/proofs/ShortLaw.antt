-- Over F3 the closed forms of pairs and single unknowns are short: what code adds up.
use mathlib.Core.Path.{◌≡◌, refl, ap, ap₂, ◌∙◌}
use mathlib.Core.List.{List, [], ◌∷◌}
use Prim.Native.Nat.{ℕ, zero, suc, ◌+◌, ◌*◌, ◌<◌}
use native.Mathlib.Nat.{add-zero}
use native.Mathlib.Omega.{arith}
use Rattle.residues.proofs.ModLaw.{Cong, crefl, cof, ◌⨾◌, cadd, cwhole}
use Rattle.positions.specs.Positions.{positions}
use Rattle.polynomials.specs.Poly.{slope}
use Rattle.polynomials.proofs.FormLaw.{half_three}
use Rattle.held.specs.Held.{entry, along}
use Rattle.cubics.specs.Cubic.{Cubic, cubic_of}
use Rattle.cubics.specs.Derived.{derived}
use Rattle.cubics.specs.Rows.{under_of, line_of, shift_of, pair_of}
use Rattle.cubics.proofs.TripleLaw.{line_self, line_other}
use Rattle.cubics.proofs.PairLaw.{shift_self, shift_other, pair_is}
use Rattle.cubics.proofs.BracketLaw.{slope_turn}

module _ (l : ℕ → ℕ) (B : ℕ → ℕ → ℕ) where
  -- the numbers of the unknown before: of b, of b twice, of c and of b with that of c
  a : ℕ → ℕ → ℕ
  a b i = under_of (λ j. B j i) b

  line : ℕ → ℕ → ℕ → ℕ
  line b c i = line_of 3 1 (λ j. B j i) b c

  under_line : (b c d : ℕ) → (c ≡ b → ⊥) → under_of (line b c) d ≡ 1 * under_of (λ i. B b i) d + under_of (λ i. B c i) d + 2 * (2 * under_of (a b) d)
  unfolding under_of line a
  under_line b c zero n = refl
  under_line b c (suc d) n = line_other 3 1 (λ j. B j d) b c n

  -- b, c
  pub short_pair : (b c : ℕ) → (c ≡ b → ⊥)
      → Cong 3 (pair_of 3 2 l B b c) (l b + l c + under_of l b + B b b + under_of (λ j. B j b) b + 2 * (B c c + under_of (λ j. B j c) b + under_of (λ i. B b i) c + under_of (λ i. B c i) c + under_of (λ i. under_of (λ j. B j i) b) c) + (B c b + 2 * B b c))
  unfolding pair_of line a
  short_pair b c n =
      cof (ap₂ (λ (x y : ℕ). x + 2 * y + shift_of 3 (line b c) b c) (line_other 3 1 l b c n) (line_other 3 1 (line b c) b c n)
      ∙ ap (λ (y : ℕ). 1 * l b + l c + 2 * (2 * under_of l b) + 2 * (1 * line b c b + line b c c + 2 * (2 * under_of (line b c) b)) + y) (shift_other 3 (line b c) b c n)
      ∙ turn (l b) (l c) (under_of l b) (line b c b) (line b c c) (under_of (line b c) b) (under_of (line b c) c))
      ⨾ cwhole _ (under_of l b + line b c b + 3 * under_of (line b c) b)
      ⨾ cof (ap₂ (λ (x y : ℕ). l b + l c + under_of l b + x + 2 * y + 2 * under_of (line b c) c) (line_other 3 1 (λ j. B j b) b c n) (line_other 3 1 (λ j. B j c) b c n)
      ∙ ap (λ (y : ℕ). l b + l c + under_of l b + (1 * B b b + B c b + 2 * (2 * under_of (λ j. B j b) b)) + 2 * (1 * B b c + B c c + 2 * (2 * under_of (λ j. B j c) b)) + 2 * y) (under_line b c c n)
      ∙ ring (l b) (l c) (under_of l b) (B b b) (B c b) (under_of (λ j. B j b) b) (B b c) (B c c) (under_of (λ j. B j c) b) (under_of (λ i. B b i) c) (under_of (λ i. B c i) c) (under_of (λ i. under_of (λ j. B j i) b) c))
      ⨾ cwhole _ (under_of (λ j. B j b) b + 2 * under_of (λ j. B j c) b + 2 * under_of (λ i. under_of (λ j. B j i) b) c)
    where
      turn : (lb lc la tb tc ta tp : ℕ) → 1 * lb + lc + 2 * (2 * la) + 2 * (1 * tb + tc + 2 * (2 * ta)) + (ta + 2 * (tp + tb)) ≡ lb + lc + la + tb + 2 * tc + 2 * tp + 3 * (la + tb + 3 * ta)
      turn lb lc la tb tc ta tp = omega arith

      ring : (lb lc la bb cb ab bc cc ac bp cp ap : ℕ)
          → lb + lc + la + (1 * bb + cb + 2 * (2 * ab)) + 2 * (1 * bc + cc + 2 * (2 * ac)) + 2 * (1 * bp + cp + 2 * (2 * ap))
          ≡ lb + lc + la + bb + ab + 2 * (cc + ac + bp + cp + ap) + (cb + 2 * bc) + 3 * (ab + 2 * ac + 2 * ap)
      ring lb lc la bb cb ab bc cc ac bp cp ap = omega arith

  -- b, b
  pub short_same : (b : ℕ) → Cong 3 (pair_of 3 2 l B b b) (l b + 2 * under_of l b + 2 * B b b + under_of (λ j. B j b) b)
  unfolding pair_of line
  short_same b =
      cof (ap₂ (λ (x y : ℕ). x + 2 * y + shift_of 3 (line b b) b b) (line_self 3 1 l b) (line_self 3 1 (line b b) b)
      ∙ ap (λ (y : ℕ). l b + 2 * under_of l b + 2 * (line b b b + 2 * under_of (line b b) b) + y) (shift_self 3 (line b b) b)
      ∙ turn (l b) (under_of l b) (line b b b) (under_of (line b b) b))
      ⨾ cwhole _ (2 * under_of (line b b) b)
      ⨾ cof (ap (λ (y : ℕ). l b + 2 * under_of l b + 2 * y) (line_self 3 1 (λ j. B j b) b) ∙ ring (l b) (under_of l b) (B b b) (under_of (λ j. B j b) b))
      ⨾ cwhole _ (under_of (λ j. B j b) b)
    where
      turn : (lb la tb ta : ℕ) → lb + 2 * la + 2 * (tb + 2 * ta) + 2 * ta ≡ lb + 2 * la + 2 * tb + 3 * (2 * ta)
      turn lb la tb ta = omega arith

      ring : (lb la bb ab : ℕ) → lb + 2 * la + 2 * (bb + 2 * ab) ≡ lb + 2 * la + 2 * bb + ab + 3 * ab
      ring lb la bb ab = omega arith

-- ---- the entries of a cubic over F3, in its first difference in the direction b: numbers l i and B i j
module _ (f : Cubic) (n b : ℕ) where
  two : 1 < 3
  two = omega arith

  pub three_pair : (c p : ℕ) (ps : List ℕ) → positions 3 p ≡ b ∷ c ∷ ps → b < n → c < n → (c ≡ b → ⊥)
      → Cong 3 (entry 3 (along 3 (cubic_of f n)) (b ∷ c ∷ []))
      ((derived f b).lin b + (derived f b).lin c + under_of (derived f b).lin b + slope (derived f b) b b + under_of (λ j. slope (derived f b) j b) b
      + 2 * (slope (derived f b) c c + under_of (λ j. slope (derived f b) j c) b + under_of (λ i. slope (derived f b) b i) c + under_of (λ i. slope (derived f b) c i) c
      + under_of (λ i. under_of (λ j. slope (derived f b) j i) b) c))
  three_pair c p ps e lb lc n' =
      pair_is 3 two f n 2 half_three b c p ps e lb lc ⨾ short_pair (derived f b).lin (slope (derived f b)) b c n'
      ⨾ cadd (crefl _) (cof (ap (λ (x : ℕ). x + 2 * slope (derived f b) b c) (slope_turn (derived f b) c b) ∙ once (slope (derived f b) b c)) ⨾ cwhole 0 (slope (derived f b) b c)) ⨾ cof (add-zero _)
    where
      once : (x : ℕ) → x + 2 * x ≡ 0 + 3 * x
      once x = omega arith

  pub three_same : (p : ℕ) (ps : List ℕ) → positions 3 p ≡ b ∷ b ∷ ps → b < n
      → Cong 3 (entry 3 (along 3 (cubic_of f n)) (b ∷ b ∷ []))
      ((derived f b).lin b + 2 * under_of (derived f b).lin b + 2 * slope (derived f b) b b + under_of (λ j. slope (derived f b) j b) b)
  three_same p ps e lb = pair_is 3 two f n 2 half_three b b p ps e lb lb ⨾ short_same (derived f b).lin (slope (derived f b)) b

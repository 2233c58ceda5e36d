-- The entries of a cubic's triples in closed form, in any base: lines of lines of the slopes of its first differences.
use mathlib.Core.Path.{◌≡◌, refl, sym, ap, ap₂, ◌∙◌}
use mathlib.Core.Bool.{true}
use mathlib.Core.Logic.{by_cases}
use mathlib.Core.List.{List, [], ◌∷◌}
use Prim.Native.Nat.{ℕ, zero, suc, ◌+◌, ◌-◌, ◌*◌, ◌<◌}
use native.Mathlib.Decide.{ℕ_discrete}
use native.Mathlib.Omega.{arith}
use Rattle.residues.specs.Sums.{sum, same}
use Rattle.residues.proofs.ModLaw.{Cong, crefl, cof, ◌⨾◌, cadd}
use Rattle.residues.proofs.SumLaw.{same_self, same_other, sum_ext, sum_zero}
use Rattle.positions.specs.Positions.{positions}
use Rattle.polynomials.specs.Poly.{Poly, eval, slope}
use Rattle.held.specs.Held.{begins, entry, along}
use Rattle.cubics.specs.Cubic.{Cubic, cubic_of}
use Rattle.cubics.specs.Derived.{derived, bil}
use Rattle.cubics.specs.Rows.{under_of, line_of, times_of, triple_of}
use Rattle.held.proofs.HeldLaw.{begins_append}
use Rattle.held.proofs.StemLaw.{Stem, root, grow, grow_self, grow_other, grow_at, one_run}
use Rattle.held.proofs.ApartLaw.{dir_of, dir_self, dir_other, one_dir}
use Rattle.held.proofs.FlatLaw.{plus, delta, delta_like}
use Rattle.held.proofs.ConstantLaw.{nowhere, deltas, entry_is}
use Rattle.cubics.proofs.CubicLaw.{flat_cubic, ext_cubic}
use Rattle.cubics.proofs.CubicFormLaw.{eval3_is}
use Rattle.cubics.proofs.PolarLaw.{bil_add, bil_scale, bil_less}
use Rattle.cubics.proofs.ThirdLaw.{bil_turn, bil_unit, first_is, second_is}

-- ---- lines
pub line_self : (q r : ℕ) (T : ℕ → ℕ) (c : ℕ) → line_of q r T c c ≡ T c + (q - 1) * under_of T c
unfolding line_of
line_self q r T c = rw (same_self c, line_of)

pub line_other : (q r : ℕ) (T : ℕ → ℕ) (c d : ℕ) → (d ≡ c → ⊥) → line_of q r T c d ≡ r * T c + T d + (q - 1) * (suc r * under_of T c)
unfolding line_of
line_other q r T c d n = rw (same_other d c n, line_of)

pub under_ext : (n : ℕ) (T S : ℕ → ℕ) → ((i : ℕ) → i < n → T i ≡ S i) → (c : ℕ) → c < n → under_of T c ≡ under_of S c
unfolding under_of
under_ext n T S e zero l = refl
under_ext n T S e (suc c) l = e c (omega arith)

pub line_ext : (q r n : ℕ) (T S : ℕ → ℕ) → ((i : ℕ) → i < n → T i ≡ S i) → (c d : ℕ) → c < n → d < n → line_of q r T c d ≡ line_of q r S c d
line_ext q r n T S e c d l m =
    by_cases (ℕ_discrete d c)
    (λ (s : d ≡ c). rw s (line_self q r T c ∙ ap₂ (λ (x y : ℕ). x + (q - 1) * y) (e c l) (under_ext n T S e c l) ∙ sym (line_self q r S c)))
    (λ s. line_other q r T c d s ∙ ap₂ (λ (x y : ℕ). r * x + y + (q - 1) * (suc r * under_of T c)) (e c l) (e d m)
    ∙ ap (λ (y : ℕ). r * S c + S d + (q - 1) * (suc r * y)) (under_ext n T S e c l) ∙ sym (line_other q r S c d s))

-- ---- the polar form in a direction of the walk
module _ (h : Poly) where
  pub bil_ext : (n : ℕ) (x y w : ℕ → ℕ) → ((k : ℕ) → x k ≡ y k) → bil h n x w ≡ bil h n y w
  unfolding bil
  bil_ext zero x y w e = refl
  bil_ext (suc n) x y w e =
      ap₂ (λ (u s : ℕ). u + s * sum (suc n) (λ i. h.quad i n * w i) + w n * sum (suc n) (λ i. h.quad i n * x i)) (bil_ext n x y w e) (e n)
      ∙ ap (λ (s : ℕ). bil h n y w + y n * sum (suc n) (λ i. h.quad i n * w i) + w n * s) (sum_ext (suc n) (λ i. h.quad i n * x i) (λ i. h.quad i n * y i) (λ i l. ap (λ (z : ℕ). h.quad i n * z) (e i)))

  pub bil_zero : (n : ℕ) (w : ℕ → ℕ) → bil h n (λ k. 0) w ≡ 0
  unfolding bil
  bil_zero zero w = refl
  bil_zero (suc n) w =
      ap₂ (λ (u s : ℕ). u + 0 * sum (suc n) (λ i. h.quad i n * w i) + w n * s) (bil_zero n w) (sum_zero (suc n) (λ i. h.quad i n)) ∙ none (sum (suc n) (λ i. h.quad i n * w i)) (w n)
    where
      none : (a b : ℕ) → 0 + 0 * a + b * 0 ≡ 0
      none a b = omega arith

  pub bil_under : (n : ℕ) (w : ℕ → ℕ) (c : ℕ) → bil h n (λ k. same (suc k) c) w ≡ under_of (λ i. bil h n (λ k. same k i) w) c
  unfolding under_of same
  bil_under n w zero = bil_zero n w
  bil_under n w (suc c) = refl

  pub bil_dir : (q n : ℕ) (s : Stem) (d : ℕ) (w : ℕ → ℕ) → bil h n (dir_of q s d) w ≡ line_of q s.run (λ i. bil h n (λ k. same k i) w) s.at d
  bil_dir q n s d w =
      by_cases (ℕ_discrete d s.at)
      (λ (e : d ≡ s.at).
      bil_ext n (dir_of q s d) (λ k. same k s.at + (q - 1) * same (suc k) s.at) w (λ k. ap (λ (x : ℕ). dir_of q s x k) e ∙ dir_self q s k)
      ∙ bil_less h n (q - 1) (λ k. same k s.at) (λ k. same (suc k) s.at) w
      ∙ ap (λ (x : ℕ). bil h n (λ k. same k s.at) w + (q - 1) * x) (bil_under n w s.at)
      ∙ sym (ap (line_of q s.run (λ i. bil h n (λ k. same k i) w) s.at) e ∙ line_self q s.run (λ i. bil h n (λ k. same k i) w) s.at))
      (λ e.
      bil_ext n (dir_of q s d) (λ k. s.run * same k s.at + same k d + (q - 1) * (suc s.run * same (suc k) s.at)) w (λ k. dir_other q s d k e)
      ∙ bil_less h n (q - 1) (λ k. s.run * same k s.at + same k d) (λ k. suc s.run * same (suc k) s.at) w
      ∙ ap₂ (λ (x y : ℕ). x + (q - 1) * y)
      (bil_add h n (λ k. s.run * same k s.at) (λ k. same k d) w ∙ ap (λ (x : ℕ). x + bil h n (λ k. same k d) w) (bil_scale h n s.run (λ k. same k s.at) w))
      (bil_scale h n (suc s.run) (λ k. same (suc k) s.at) w ∙ ap (λ (x : ℕ). suc s.run * x) (bil_under n w s.at))
      ∙ sym (line_other q s.run (λ i. bil h n (λ k. same k i) w) s.at d e))

-- ---- the stems of one and two positions
pub two_run : (q b c : ℕ) → (grow q (grow q root b) c).run ≡ times_of b c
unfolding times_of
two_run q b c =
    by_cases (ℕ_discrete c b)
    (λ (e : c ≡ b).
    ap (λ (x : ℕ). (grow q (grow q root b) x).run) (e ∙ sym (grow_at q root b)) ∙ ap (λ (t : Stem). t.run) (grow_self q (grow q root b)) ∙ ap suc (one_run q b)
    ∙ rw (e, same_self b, times_of))
    (λ e. ap (λ (t : Stem). t.run) (grow_other q (grow q root b) c (λ i. e (i ∙ grow_at q root b))) ∙ rw (same_other c b e, times_of))

module _ (q : ℕ) (two : 1 < q) (f : Cubic) (n : ℕ) where
  pos : 0 < q
  pos = omega arith

  -- the first difference
  pub first_at : (b : ℕ) → b < n → (x : ℕ → ℕ) → Cong q (delta q (dir_of q root b) (cubic_of f n) x) (eval (derived f b) n x)
  first_at b l x =
      cadd (ext_cubic q pos f n (plus x (dir_of q root b)) (plus x (λ k. same k b)) (λ k. cof (ap (λ (y : ℕ). x k + y) (one_dir q b k)))) (crefl ((q - 1) * cubic_of f n x))
      ⨾ cof (ap₂ (λ (u w : ℕ). u + (q - 1) * w) (sym (eval3_is f (plus x (λ k. same k b)) n)) (sym (eval3_is f x n)))
      ⨾ first_is q pos f n b x l

  -- the polar form with the direction of b, c
  pub line_two : (h : Poly) (b c : ℕ) → b < n → c < n → (i : ℕ) → i < n
      → bil h n (λ k. same k i) (dir_of q (grow q root b) c) ≡ line_of q 1 (λ j. slope h j i) b c
  line_two h b c lb lc i m =
      bil_turn h n (λ k. same k i) (dir_of q (grow q root b) c) ∙ bil_dir h q n (grow q root b) c (λ k. same k i)
      ∙ ap₂ (λ (r a : ℕ). line_of q r (λ j. bil h n (λ k. same k j) (λ k. same k i)) a c) (one_run q b) (grow_at q root b)
      ∙ line_ext q 1 n (λ j. bil h n (λ k. same k j) (λ k. same k i)) (λ j. slope h j i) (λ j l. bil_unit h n j i l m) b c lb lc

  -- the entry of the first positions b, c, d of a place
  pub triple_is : (b c d p : ℕ) (ps : List ℕ) → positions q p ≡ b ∷ c ∷ d ∷ ps → b < n → c < n → d < n
      → Cong q (entry q (along q (cubic_of f n)) (b ∷ c ∷ d ∷ [])) (triple_of q (slope (derived f b)) b c d)
  unfolding deltas triple_of
  triple_is b c d p ps e lb lc ld =
      let g : begins (b ∷ c ∷ d ∷ []) (positions q p) ≡ true = rw e (begins_append (b ∷ c ∷ d ∷ []) ps) in
      let s : Stem = grow q root b in
      let t : Stem = grow q s c in
      let h : Poly = derived f b in
      entry_is q two (cubic_of f n) (ext_cubic q pos f n) 3 (flat_cubic q pos f n) (b ∷ c ∷ d ∷ []) p refl g
      ⨾ delta_like q pos (delta q (dir_of q s c) (delta q (dir_of q root b) (cubic_of f n))) (delta q (dir_of q s c) (eval h n)) (dir_of q t d)
      (delta_like q pos (delta q (dir_of q root b) (cubic_of f n)) (eval h n) (dir_of q s c) (first_at b lb)) nowhere
      ⨾ second_is q pos h n (dir_of q s c) (dir_of q t d)
      ⨾ cof (bil_dir h q n t d (dir_of q s c)
      ∙ ap₂ (λ (r a : ℕ). line_of q r (λ i. bil h n (λ k. same k i) (dir_of q s c)) a d) (two_run q b c) (grow_at q s c)
      ∙ line_ext q (times_of b c) n (λ i. bil h n (λ k. same k i) (dir_of q s c)) (λ i. line_of q 1 (λ j. slope h j i) b c) (λ i m. line_two h b c lb lc i m) c d lc ld)

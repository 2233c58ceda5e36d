-- The entries of a cubic's pairs and single unknowns in closed form, in any base in which 2 has an inverse.
use mathlib.Core.Path.{◌≡◌, refl, sym, ap, ap₂, ◌∙◌}
use mathlib.Core.Bool.{true}
use mathlib.Core.Logic.{by_cases}
use mathlib.Core.List.{List, [], ◌∷◌}
use Prim.Native.Nat.{ℕ, zero, suc, ◌+◌, ◌-◌, ◌*◌, ◌<◌}
use native.Mathlib.Nat.{add-zero, mul-zero, one-mul}
use native.Mathlib.Decide.{ℕ_discrete}
use native.Mathlib.Omega.{arith}
use Rattle.residues.specs.Sums.{sum, same}
use Rattle.residues.proofs.ModLaw.{Cong, crefl, cof, csym, ◌⨾◌, cadd, cmul, cancel, cminus}
use Rattle.residues.proofs.SumLaw.{same_self, same_other, sum_ext, sum_one, sum_zero, sum_both, sum_scale}
use Rattle.gray.specs.Numbers.{point_digit}
use Rattle.positions.specs.Positions.{positions}
use Rattle.polynomials.specs.Poly.{Poly, eval, slope}
use Rattle.held.specs.Held.{begins, first_of, entry, along}
use Rattle.cubics.specs.Cubic.{Cubic, cubic_of}
use Rattle.cubics.specs.Derived.{derived, bil}
use Rattle.cubics.specs.Rows.{under_of, line_of, single_of, shift_of, pair_of}
use Rattle.held.proofs.HeldLaw.{begins_append, begins_self}
use Rattle.held.proofs.StemLaw.{Stem, root, grow, grow_at, one_run}
use Rattle.held.proofs.PastLaw.{first_positions}
use Rattle.held.proofs.ApartLaw.{dir_of, dir_self, dir_other, one_dir}
use Rattle.held.proofs.PointLaw.{all_of, point_is}
use Rattle.held.proofs.FlatLaw.{plus, delta, delta_like}
use Rattle.held.proofs.ConstantLaw.{deltas, way, change_at}
use Rattle.cubics.proofs.CubicLaw.{ext_cubic}
use Rattle.cubics.proofs.PolarLaw.{polar, bil_add, bil_scale, bil_less}
use Rattle.cubics.proofs.ThirdLaw.{bil_turn, bil_unit}
use Rattle.cubics.proofs.TripleLaw.{line_self, line_other, line_ext, under_ext, bil_under, bil_dir, first_at, line_two}

-- ---- sums along a direction
sum_times : (n r : ℕ) (l u : ℕ → ℕ) → sum n (λ i. l i * (r * u i)) ≡ r * sum n (λ i. l i * u i)
sum_times n r l u = sum_ext n (λ i. l i * (r * u i)) (λ i. r * (l i * u i)) (λ i m. turn (l i) r (u i)) ∙ sym (sum_scale n r (λ i. l i * u i))
  where
    turn : (a r b : ℕ) → a * (r * b) ≡ r * (a * b)
    turn a r b = omega arith

sum_under : (n : ℕ) (l : ℕ → ℕ) (c : ℕ) → c < n → sum n (λ i. l i * same (suc i) c) ≡ under_of l c
unfolding under_of same
sum_under n l zero h = sum_zero n l
sum_under n l (suc c) h = sum_one n c l (omega arith)

sum_dir : (q n : ℕ) (s : Stem) (d : ℕ) (l : ℕ → ℕ) → s.at < n → d < n → sum n (λ i. l i * dir_of q s d i) ≡ line_of q s.run l s.at d
sum_dir q n s d l h m =
    by_cases (ℕ_discrete d s.at)
    (λ (e : d ≡ s.at).
    sum_ext n (λ i. l i * dir_of q s d i) (λ i. l i * (same i s.at + (q - 1) * same (suc i) s.at)) (λ i k. ap (λ (x : ℕ). l i * x) (ap (λ (x : ℕ). dir_of q s x i) e ∙ dir_self q s i))
    ∙ sum_both n l (λ i. same i s.at) (λ i. (q - 1) * same (suc i) s.at)
    ∙ ap₂ (λ (x y : ℕ). x + y) (sum_one n s.at l h) (sum_times n (q - 1) l (λ i. same (suc i) s.at) ∙ ap (λ (x : ℕ). (q - 1) * x) (sum_under n l s.at h))
    ∙ sym (ap (line_of q s.run l s.at) e ∙ line_self q s.run l s.at))
    (λ e.
    sum_ext n (λ i. l i * dir_of q s d i) (λ i. l i * (s.run * same i s.at + same i d + (q - 1) * (suc s.run * same (suc i) s.at))) (λ i k. ap (λ (x : ℕ). l i * x) (dir_other q s d i e))
    ∙ sum_both n l (λ i. s.run * same i s.at + same i d) (λ i. (q - 1) * (suc s.run * same (suc i) s.at))
    ∙ ap₂ (λ (x y : ℕ). x + y)
    (sum_both n l (λ i. s.run * same i s.at) (λ i. same i d) ∙ ap₂ (λ (x y : ℕ). x + y) (sum_times n s.run l (λ i. same i s.at) ∙ ap (λ (x : ℕ). s.run * x) (sum_one n s.at l h)) (sum_one n d l m))
    (sum_times n (q - 1) l (λ i. suc s.run * same (suc i) s.at) ∙ ap (λ (x : ℕ). (q - 1) * x) (sum_times n (suc s.run) l (λ i. same (suc i) s.at) ∙ ap (λ (x : ℕ). suc s.run * x) (sum_under n l s.at h)))
    ∙ sym (line_other q s.run l s.at d e))

-- ---- a polynomial of degree 2 by its parts
module _ (h : Poly) where
  pure : Poly
  pure = record { const = 0; lin = λ i. 0; quad = h.quad }

  parts : (n : ℕ) (x : ℕ → ℕ) → eval h n x ≡ h.const + sum n (λ i. h.lin i * x i) + eval pure n x
  unfolding eval sum pure
  parts zero x = omega arith
  parts (suc n) x =
      ap (λ (y : ℕ). y + x n * (h.lin n + (sum n (λ i. h.quad i n * x i) + h.quad n n * x n))) (parts n x)
      ∙ ring h.const (sum n (λ i. h.lin i * x i)) (eval pure n x) (x n) (h.lin n) (sum n (λ i. h.quad i n * x i) + h.quad n n * x n)
    where
      ring : (c s e x l t : ℕ) → c + s + e + x * (l + t) ≡ c + (s + l * x) + (e + x * (0 + t))
      ring c s e x l t = omega arith

  bil_self : (n : ℕ) (x : ℕ → ℕ) → bil h n x x ≡ 2 * eval pure n x
  unfolding eval bil pure
  bil_self zero x = refl
  bil_self (suc n) x = ap (λ (y : ℕ). y + x n * sum (suc n) (λ i. h.quad i n * x i) + x n * sum (suc n) (λ i. h.quad i n * x i)) (bil_self n x) ∙ ring (eval pure n x) (x n) (sum (suc n) (λ i. h.quad i n * x i))
    where
      ring : (e x s : ℕ) → 2 * e + x * s + x * s ≡ 2 * (e + x * (0 + s))
      ring e x s = omega arith

  module _ (q : ℕ) (pos : 0 < q) (half : ℕ) (halves : Cong q (2 * half) 1) where
    by_half : (n : ℕ) (x : ℕ → ℕ) → Cong q (eval pure n x) (half * bil h n x x)
    by_half n x = csym (cof (ap (λ (y : ℕ). half * y) (bil_self n x) ∙ turn half (eval pure n x)) ⨾ cmul halves (crefl (eval pure n x)) ⨾ cof (one-mul (eval pure n x)))
      where
        turn : (a e : ℕ) → a * (2 * e) ≡ 2 * a * e
        turn a e = omega arith

    -- a difference, by its direction u and its point X
    delta_parts : (n : ℕ) (u X : ℕ → ℕ) → Cong q (delta q u (eval h n) X) (sum n (λ i. h.lin i * u i) + half * bil h n u u + bil h n X u)
    delta_parts n u X =
        cof (ring (eval h n (plus X u)) h.const (eval h n X) (eval h n u) (bil h n X u) (sum n (λ i. h.lin i * u i)) (eval pure n u) (q - 1) (polar h n X u) (parts n u))
        ⨾ cadd (crefl _) (cminus q pos (eval h n X)) ⨾ cof (add-zero _)
        ⨾ cadd (cadd (crefl _) (by_half n u)) (crefl _)
      where
        plain : (E c G H B s e : ℕ) → E + c ≡ G + H + B → H ≡ c + s + e → E ≡ s + e + B + G
        plain E c G H B s e a b = omega arith

        move_in : (a g r : ℕ) → a + g + r * g ≡ a + (g + r * g)
        move_in a g r = omega arith

        ring : (E c G H B s e r : ℕ) → E + c ≡ G + H + B → H ≡ c + s + e → E + r * G ≡ s + e + B + (G + r * G)
        ring E c G H B s e r a b = ap (λ (y : ℕ). y + r * G) (plain E c G H B s e a b) ∙ move_in (s + e + B) G r

-- ---- shifts
pub shift_self : (q : ℕ) (T : ℕ → ℕ) (b : ℕ) → shift_of q T b b ≡ (q - 1) * under_of T b
unfolding shift_of
shift_self q T b = rw (same_self b, shift_of)

pub shift_other : (q : ℕ) (T : ℕ → ℕ) (b c : ℕ) → (c ≡ b → ⊥) → shift_of q T b c ≡ under_of T b + (q - 1) * (under_of T c + T b)
unfolding shift_of
shift_other q T b c n = rw (same_other c b n, shift_of)

shift_ext : (q n : ℕ) (T S : ℕ → ℕ) → ((i : ℕ) → i < n → T i ≡ S i) → (b c : ℕ) → b < n → c < n → shift_of q T b c ≡ shift_of q S b c
shift_ext q n T S e b c l m =
    by_cases (ℕ_discrete c b)
    (λ (s : c ≡ b). rw s (shift_self q T b ∙ ap (λ (x : ℕ). (q - 1) * x) (under_ext n T S e b l) ∙ sym (shift_self q S b)))
    (λ s. shift_other q T b c s ∙ ap₂ (λ (x y : ℕ). x + (q - 1) * (y + T b)) (under_ext n T S e b l) (under_ext n T S e c m) ∙ ap (λ (y : ℕ). under_of S b + (q - 1) * (under_of S c + y)) (e b l) ∙ sym (shift_other q S b c s))

module _ (q : ℕ) (two : 1 < q) (f : Cubic) (n half : ℕ) (halves : Cong q (2 * half) 1) where
  pos : 0 < q
  pos = omega arith

  -- the entry of b, c, from the point X that the directions leave
  pair_from : (b c p : ℕ) (ps : List ℕ) (X : ℕ → ℕ) → positions q p ≡ b ∷ c ∷ ps → b < n → c < n
      → ((k : ℕ) → Cong q (X k + (same k b + dir_of q (grow q root b) c k) + (same (suc k) b + same (suc k) c)) (same k b + same k c))
      → bil (derived f b) n X (dir_of q (grow q root b) c) ≡ shift_of q (λ i. bil (derived f b) n (λ k. same k i) (dir_of q (grow q root b) c)) b c
      → Cong q (entry q (along q (cubic_of f n)) (b ∷ c ∷ [])) (pair_of q half (derived f b).lin (slope (derived f b)) b c)
  unfolding entry deltas way all_of pair_of
  pair_from b c p ps X e lb lc x t =
      let L : List ℕ = b ∷ c ∷ [] in
      let g : begins (b ∷ c ∷ []) (positions q p) ≡ true = rw e (begins_append (b ∷ c ∷ []) ps) in
      let P = first_of q (b ∷ c ∷ []) in
      let o : positions q (first_of q (b ∷ c ∷ [])) ≡ b ∷ c ∷ [] = first_positions q two (b ∷ c ∷ []) p g in
      let i : begins (b ∷ c ∷ []) (positions q (first_of q (b ∷ c ∷ []))) ≡ true = rw o (begins_self (b ∷ c ∷ [])) in
      let h : Poly = derived f b in
      let u : ℕ → ℕ = dir_of q (grow q root b) c in
      let w : (k : ℕ) → Cong q (X k + (dir_of q root b k + (u k + 0))) (point_digit q (first_of q (b ∷ c ∷ [])) k)
      = λ k. cancel pos (same (suc k) b + same (suc k) c)
      (cof (ap (λ (y : ℕ). X k + (y + (u k + 0)) + (same (suc k) b + same (suc k) c)) (one_dir q b k) ∙ drop0 (X k) (same k b) (u k) (same (suc k) b + same (suc k) c)) ⨾ x k
      ⨾ csym (cof (ap (λ (y : ℕ). point_digit q (first_of q (b ∷ c ∷ [])) k + y) (end (same (suc k) b) (same (suc k) c))) ⨾ point_is q two (b ∷ c ∷ []) (first_of q (b ∷ c ∷ [])) o k ⨾ cof (sym (end (same k b) (same k c))))) in
      let T : ℕ → ℕ = λ i. bil h n (λ k. same k i) u in
      change_at q two (cubic_of f n) (ext_cubic q pos f n) (b ∷ c ∷ []) (first_of q (b ∷ c ∷ [])) X i w
      ⨾ delta_like q pos (delta q (dir_of q root b) (cubic_of f n)) (eval h n) u (first_at q two f n b lb) X
      ⨾ delta_parts h q pos half halves n u X
      ⨾ cof (ap₂ (λ (y z : ℕ). y + half * z + bil h n X u)
      (sum_dir q n (grow q root b) c h.lin (rw (grow_at q root b) lb) lc ∙ ap₂ (λ (r a : ℕ). line_of q r h.lin a c) (one_run q b) (grow_at q root b))
      (bil_dir h q n (grow q root b) c u ∙ ap₂ (λ (r a : ℕ). line_of q r (λ i. bil h n (λ k. same k i) u) a c) (one_run q b) (grow_at q root b)
      ∙ line_ext q 1 n (λ i. bil h n (λ k. same k i) u) (λ i. line_of q 1 (λ j. slope h j i) b c) (λ i m. line_two q two f n h b c lb lc i m) b c lb lc)
      ∙ ap (λ (y : ℕ). line_of q 1 h.lin b c + half * line_of q 1 (λ i. line_of q 1 (λ j. slope h j i) b c) b c + y)
      (t ∙ shift_ext q n (λ i. bil h n (λ k. same k i) u) (λ i. line_of q 1 (λ j. slope h j i) b c) (λ i m. line_two q two f n h b c lb lc i m) b c lb lc))
    where
      drop0 : (x s u r : ℕ) → x + (s + (u + 0)) + r ≡ x + (s + u) + r
      drop0 x s u r = omega arith

      end : (a b : ℕ) → a + b ≡ a + (b + 0)
      end a b = omega arith

  -- the entry of the first positions b, c of a place
  pub pair_is : (b c p : ℕ) (ps : List ℕ) → positions q p ≡ b ∷ c ∷ ps → b < n → c < n
      → Cong q (entry q (along q (cubic_of f n)) (b ∷ c ∷ [])) (pair_of q half (derived f b).lin (slope (derived f b)) b c)
  pair_is b c p ps e lb lc =
      by_cases (ℕ_discrete c b)
      (λ (s : c ≡ b). pair_from b c p ps (λ k. (q - 1) * same (suc k) b) e lb lc (λ k.
      cof (ap₂ (λ (y z : ℕ). (q - 1) * same (suc k) b + (same k b + y) + (same (suc k) b + z))
      (ap (λ (y : ℕ). dir_of q (grow q root b) y k) (s ∙ sym (grow_at q root b)) ∙ dir_self q (grow q root b) k ∙ ap (λ (y : ℕ). same k y + (q - 1) * same (suc k) y) (grow_at q root b))
      (ap (same (suc k)) s) ∙ ring1 (same k b) (same (suc k) b) (q - 1))
      ⨾ cadd (crefl (same k b + same k b)) (cadd (cminus q pos (same (suc k) b)) (cminus q pos (same (suc k) b))) ⨾ cof (add-zero _ ∙ ap (λ (y : ℕ). same k b + same k y) (sym s)))
      (bil_scale (derived f b) n (q - 1) (λ k. same (suc k) b) (dir_of q (grow q root b) c) ∙ ap (λ (y : ℕ). (q - 1) * y) (bil_under (derived f b) n (dir_of q (grow q root b) c) b)
      ∙ sym (ap (shift_of q (λ i. bil (derived f b) n (λ k. same k i) (dir_of q (grow q root b) c)) b) s ∙ shift_self q (λ i. bil (derived f b) n (λ k. same k i) (dir_of q (grow q root b) c)) b)))
      (λ s. pair_from b c p ps (λ k. same (suc k) b + (q - 1) * (same (suc k) c + same k b)) e lb lc (λ k.
      cof (ap (λ (y : ℕ). same (suc k) b + (q - 1) * (same (suc k) c + same k b) + (same k b + y) + (same (suc k) b + same (suc k) c))
      (dir_other q (grow q root b) c k (λ i. s (i ∙ grow_at q root b)) ∙ ap₂ (λ (r y : ℕ). r * same k y + same k c + (q - 1) * (suc r * same (suc k) y)) (one_run q b) (grow_at q root b))
      ∙ ring2 (same k b) (same k c) (same (suc k) b) (same (suc k) c) (q - 1))
      ⨾ cadd (crefl (same k b + same k c)) (cadd (cadd (cminus q pos (same (suc k) b)) (cminus q pos (same (suc k) b))) (cadd (cminus q pos (same (suc k) c)) (cminus q pos (same k b)))) ⨾ cof (add-zero _))
      (bil_less (derived f b) n (q - 1) (λ k. same (suc k) b) (λ k. same (suc k) c + same k b) (dir_of q (grow q root b) c)
      ∙ ap₂ (λ (x y : ℕ). x + (q - 1) * y) (bil_under (derived f b) n (dir_of q (grow q root b) c) b)
      (bil_add (derived f b) n (λ k. same (suc k) c) (λ k. same k b) (dir_of q (grow q root b) c) ∙ ap (λ (x : ℕ). x + bil (derived f b) n (λ k. same k b) (dir_of q (grow q root b) c)) (bil_under (derived f b) n (dir_of q (grow q root b) c) c))
      ∙ sym (shift_other q (λ i. bil (derived f b) n (λ k. same k i) (dir_of q (grow q root b) c)) b c s)))
    where
      ring1 : (s t r : ℕ) → r * t + (s + (s + r * t)) + (t + t) ≡ s + s + (t + r * t + (t + r * t))
      ring1 s t r = omega arith

      ring2 : (s v t w r : ℕ) → t + r * (w + s) + (s + (1 * s + v + r * (2 * t))) + (t + w) ≡ s + v + (t + r * t + (t + r * t) + (w + r * w + (s + r * s)))
      ring2 s v t w r = omega arith

  -- minus minus
  twice : (k : ℕ) → Cong q ((q - 1) * ((q - 1) * k)) k
  twice k = cancel pos ((q - 1) * k) (cof (swap ((q - 1) * ((q - 1) * k)) ((q - 1) * k)) ⨾ cminus q pos ((q - 1) * k) ⨾ csym (cminus q pos k))
    where
      swap : (a b : ℕ) → a + b ≡ b + a
      swap a b = omega arith

  under_times : (a : ℕ) (T : ℕ → ℕ) (c : ℕ) → under_of (λ i. a * T i) c ≡ a * under_of T c
  unfolding under_of
  under_times a T zero = sym (mul-zero a)
  under_times a T (suc c) = refl

  -- the polar form twice at the point before the first move of b
  bil_first : (h : Poly) (b : ℕ) → b < n → bil h n (λ k. (q - 1) * same (suc k) b) (λ k. (q - 1) * same (suc k) b) ≡ (q - 1) * ((q - 1) * under_of (λ i. under_of (λ j. slope h j i) b) b)
  bil_first h b l =
      bil_scale h n (q - 1) (λ k. same (suc k) b) (λ k. (q - 1) * same (suc k) b)
      ∙ ap (λ (x : ℕ). (q - 1) * x) (bil_under h n (λ k. (q - 1) * same (suc k) b) b
      ∙ under_ext n (λ i. bil h n (λ k. same k i) (λ k. (q - 1) * same (suc k) b)) (λ i. (q - 1) * under_of (λ j. slope h j i) b) (λ i m.
      bil_turn h n (λ k. same k i) (λ k. (q - 1) * same (suc k) b) ∙ bil_scale h n (q - 1) (λ k. same (suc k) b) (λ k. same k i)
      ∙ ap (λ (x : ℕ). (q - 1) * x) (bil_under h n (λ k. same k i) b ∙ under_ext n (λ j. bil h n (λ k. same k j) (λ k. same k i)) (λ j. slope h j i) (λ j o. bil_unit h n j i o m) b l)) b l
      ∙ under_times (q - 1) (λ i. under_of (λ j. slope h j i) b) b)

  -- the entry of b
  pub single_is : (b p : ℕ) (ps : List ℕ) → positions q p ≡ b ∷ ps → b < n
      → Cong q (entry q (along q (cubic_of f n)) (b ∷ [])) (single_of q half (derived f b).const (derived f b).lin (slope (derived f b)) b)
  unfolding entry deltas way all_of single_of
  single_is b p ps e l =
      let g : begins (b ∷ []) (positions q p) ≡ true = rw e (begins_append (b ∷ []) ps) in
      let o : positions q (first_of q (b ∷ [])) ≡ b ∷ [] = first_positions q two (b ∷ []) p g in
      let i : begins (b ∷ []) (positions q (first_of q (b ∷ []))) ≡ true = rw o (begins_self (b ∷ [])) in
      let h : Poly = derived f b in
      let X : ℕ → ℕ = λ k. (q - 1) * same (suc k) b in
      let w : (k : ℕ) → Cong q (X k + (dir_of q root b k + 0)) (point_digit q (first_of q (b ∷ [])) k)
      = λ k. cancel pos (same (suc k) b)
      (cof (ap (λ (y : ℕ). (q - 1) * same (suc k) b + (y + 0) + same (suc k) b) (one_dir q b k) ∙ ring (same k b) (same (suc k) b) (q - 1))
      ⨾ cadd (crefl (same k b)) (cminus q pos (same (suc k) b)) ⨾ cof (add-zero (same k b))
      ⨾ csym (cof (ap (λ (y : ℕ). point_digit q (first_of q (b ∷ [])) k + y) (sym (add-zero (same (suc k) b)))) ⨾ point_is q two (b ∷ []) (first_of q (b ∷ [])) o k ⨾ cof (add-zero (same k b)))) in
      change_at q two (cubic_of f n) (ext_cubic q pos f n) (b ∷ []) (first_of q (b ∷ [])) X i w
      ⨾ first_at q two f n b l X
      ⨾ cof (parts h n X ∙ ap (λ (y : ℕ). h.const + y + eval (pure h) n X) (sum_times n (q - 1) h.lin (λ i. same (suc i) b) ∙ ap (λ (y : ℕ). (q - 1) * y) (sum_under n h.lin b l)))
      ⨾ cadd (crefl (h.const + (q - 1) * under_of h.lin b))
      (by_half h q pos half halves n X ⨾ cmul (crefl half) (cof (bil_first h b l) ⨾ twice (under_of (λ i. under_of (λ j. slope h j i) b) b)))
    where
      ring : (s t r : ℕ) → r * t + (s + 0) + t ≡ s + (t + r * t)
      ring s t r = omega arith

-- The triples of a cubic over F3: their entries are the table in brackets, whose way back is BackLaw's.
use mathlib.Core.Path.{◌≡◌, refl, sym, ap, ap₂, ◌∙◌}
use mathlib.Core.Logic.{by_cases}
use mathlib.Core.List.{List, [], ◌∷◌}
use Prim.Native.Nat.{ℕ, zero, suc, ◌+◌, ◌*◌, ◌<◌, ◌≤◌}
use native.Mathlib.Decide.{ℕ_discrete, dec_lt}
use native.Mathlib.Omega.{arith}
use Rattle.residues.specs.Sums.{same}
use Rattle.residues.proofs.ModLaw.{Cong, crefl, cof, csym, ◌⨾◌, cdrop, cadd, cmul, cwhole}
use Rattle.residues.proofs.SumLaw.{same_self, same_other}
use Rattle.positions.specs.Positions.{positions}
use Rattle.polynomials.specs.Poly.{Poly, slope}
use Rattle.polynomials.proofs.PolyLaw.{slope_self, slope_above, slope_below}
use Rattle.held.specs.Held.{entry, along}
use Rattle.cubics.specs.Cubic.{Cubic, cubic_of}
use Rattle.cubics.specs.Derived.{row, derived}
use Rattle.cubics.specs.Rows.{under_of, line_of, times_of, triple_of}
use Rattle.cubics.specs.Triples.{Triples, prev3, low3, high3, table_of3}
use Rattle.cubics.proofs.DerivedLaw.{quad_at, quad_above}
use Rattle.cubics.proofs.TripleLaw.{line_self, line_other, triple_is}
use Rattle.cubics.proofs.BackLaw.{low_same, low_other, table_all_same, table_all_other}

-- the bracket [bij]
abbrev pub bracket : Cubic → ℕ → ℕ → ℕ → ℕ
bracket f b i j = slope (derived f b) i j

module _ (f : Cubic) where
  -- above b: [bbk], [bck], [bcc]
  pub bracket_two : (b k : ℕ) → b < k → bracket f b b k ≡ 2 * f.cube b b k
  unfolding row
  bracket_two b k l = slope_above (derived f b) b k l ∙ quad_above f b b k l ∙ slope_self (row f k) b

  pub bracket_all : (b c k : ℕ) → b < c → c < k → bracket f b c k ≡ f.cube b c k
  unfolding row
  bracket_all b c k l m = slope_above (derived f b) c k m ∙ quad_above f b c k (omega arith) ∙ slope_above (row f k) b c l

  pub bracket_same : (b c : ℕ) → b < c → bracket f b c c ≡ 2 * f.cube b c c
  unfolding row
  bracket_same b c l = slope_self (derived f b) c ∙ ap (λ (x : ℕ). 2 * x) (quad_above f b c c l ∙ slope_above (row f c) b c l)

  -- one index below: [abk], [abb]
  pub bracket_low : (a b k : ℕ) → a < b → b < k → bracket f b a k ≡ f.cube a b k
  unfolding row
  bracket_low a b k l m = slope_above (derived f b) a k (omega arith) ∙ quad_above f b a k m ∙ slope_below (row f k) b a l

  pub bracket_low_same : (a b : ℕ) → a < b → bracket f b a b ≡ 2 * f.cube a b b
  unfolding row
  bracket_low_same a b l =
      slope_above (derived f b) a b l ∙ quad_at f b a ∙ ap (λ (x : ℕ). f.cube a b b + x) (slope_below (row f b) b a l) ∙ double (f.cube a b b)
    where
      double : (x : ℕ) → x + x ≡ 2 * x
      double x = omega arith

  -- all three equal
  pub bracket_none : (b : ℕ) → bracket f b b b ≡ 6 * f.cube b b b
  unfolding row
  bracket_none b = slope_self (derived f b) b ∙ ap (λ (x : ℕ). 2 * x) (quad_at f b b ∙ ap (λ (x : ℕ). f.cube b b b + x) (slope_self (row f b) b)) ∙ six (f.cube b b b)
    where
      six : (x : ℕ) → 2 * (x + 2 * x) ≡ 6 * x
      six x = omega arith

-- the brackets of a cubic
unfoldable pub triples_of : Cubic → Triples
triples_of f = record {
  two = λ b k. 2 * f.cube b b k;
  all = λ b c k. elim (same c k) [ zero ↦ f.cube b c k | suc s ↦ 2 * f.cube b c c ];
}

pub all_same : (f : Cubic) (b c : ℕ) → (triples_of f).all b c c ≡ 2 * f.cube b c c
unfolding triples_of
all_same f b c = rw (same_self c, triples_of)

pub all_other : (f : Cubic) (b c k : ℕ) → (c ≡ k → ⊥) → (triples_of f).all b c k ≡ f.cube b c k
unfolding triples_of
all_other f b c k n = rw (same_other c k n, triples_of)

pub slope_turn : (h : Poly) (i j : ℕ) → slope h i j ≡ slope h j i
slope_turn h i j =
    by_cases (ℕ_discrete i j)
    (λ (e : i ≡ j). rw e refl)
    (λ n. by_cases (dec_lt i j) (λ l. slope_above h i j l ∙ sym (slope_below h j i l)) (λ l. let m : j < i = omega arith in slope_below h i j m ∙ sym (slope_above h j i m)))

module _ (f : Cubic) (b : ℕ) where
  two_is : (k : ℕ) → b < k → bracket f b b k ≡ (triples_of f).two b k
  unfolding triples_of
  two_is k l = bracket_two f b k l

  all_is : (c k : ℕ) → b < c → c ≤ k → bracket f b c k ≡ (triples_of f).all b c k
  all_is c k l m =
      by_cases (ℕ_discrete c k)
      (λ (e : c ≡ k). rw (← e) (bracket_same f b c l ∙ sym (all_same f b c)))
      (λ n. bracket_all f b c k l (omega arith) ∙ sym (all_other f b c k n))

-- [b-1, b, k]
under_is : (f : Cubic) (b k : ℕ) → b ≤ k → under_of (λ j. bracket f b j k) b ≡ prev3 (triples_of f) b k
unfolding under_of prev3
under_is f zero k l = refl
under_is f (suc a) k l =
    by_cases (ℕ_discrete (suc a) k)
    (λ (e : suc a ≡ k). rw (← e) (bracket_low_same f a (suc a) (omega arith) ∙ sym (all_same f a (suc a))))
    (λ n. bracket_low f a (suc a) k (omega arith) (omega arith) ∙ sym (all_other f a (suc a) k n))

pub none_is : (f : Cubic) (b : ℕ) → Cong 3 (bracket f b b b) 0
none_is f b = cof (bracket_none f b ∙ six (f.cube b b b)) ⨾ cwhole 0 (2 * f.cube b b b)
  where
    six : (x : ℕ) → 6 * x ≡ 0 + 3 * (2 * x)
    six x = omega arith

module _ (f : Cubic) (b c : ℕ) (l : b < c) where
  -- T of the pair b, c
  pub line_t : ℕ → ℕ
  line_t i = line_of 3 1 (λ j. bracket f b j i) b c

  apart : c ≡ b → ⊥
  apart e = omega arith

  pub t_is : (k : ℕ) → line_t k ≡ 1 * bracket f b b k + bracket f b c k + 2 * (2 * under_of (λ j. bracket f b j k) b)
  unfolding line_t
  t_is k = line_other 3 1 (λ j. bracket f b j k) b c apart

  high_is : (k : ℕ) → c ≤ k → Cong 3 (line_t k) (high3 (triples_of f) b c k)
  unfolding high3
  high_is k m =
      cof (t_is k ∙ ap₂ (λ (x y : ℕ). 1 * x + y + 2 * (2 * under_of (λ j. bracket f b j k) b)) (two_is f b k (omega arith)) (all_is f b c k l m)
      ∙ ap (λ (x : ℕ). 1 * (triples_of f).two b k + (triples_of f).all b c k + 2 * (2 * x)) (under_is f b k (omega arith)) ∙ ring _ _ _) ⨾ cwhole _ (prev3 (triples_of f) b k)
    where
      ring : (s a p : ℕ) → 1 * s + a + 2 * (2 * p) ≡ s + a + p + 3 * p
      ring s a p = omega arith

pub low_t : (f : Cubic) (b c : ℕ) (l : b < c) → Cong 3 (under_of (line_t f b c l) c) (low3 (triples_of f) b c)
unfolding under_of
low_t f b zero l = absurd (omega arith)
low_t f b (suc p) l =
    by_cases (ℕ_discrete b p)
    (λ (e : b ≡ p).
    cof (ap (line_t f b (suc p) l) (sym e) ∙ t_is f b (suc p) l b) ⨾ cadd (cadd (cmul (crefl 1) (none_is f b)) (cof (slope_turn (derived f b) (suc p) b ∙ two_is f b (suc p) l))) (cof (ap (λ (x : ℕ). 2 * (2 * x)) (under_is f b b (omega arith))))
    ⨾ cof (ring1 ((triples_of f).two b (suc p)) (prev3 (triples_of f) b b)) ⨾ cwhole _ (prev3 (triples_of f) b b)
    ⨾ cof (ap (λ (x : ℕ). (triples_of f).two b (suc x) + prev3 (triples_of f) b b) (sym e) ∙ sym (low_same (triples_of f) b) ∙ ap (λ (x : ℕ). low3 (triples_of f) b (suc x)) e))
    (λ n. let o : b < p = omega arith in
    cof (t_is f b (suc p) l p ∙ ap₂ (λ (x y : ℕ). 1 * x + y + 2 * (2 * under_of (λ j. bracket f b j p) b)) (two_is f b p o) (slope_turn (derived f b) (suc p) p ∙ all_is f b p (suc p) o (omega arith))
    ∙ ap (λ (x : ℕ). 1 * (triples_of f).two b p + (triples_of f).all b p (suc p) + 2 * (2 * x)) (under_is f b p (omega arith)) ∙ ring2 _ _ _)
    ⨾ cwhole _ (prev3 (triples_of f) b p) ⨾ cof (sym (low_other (triples_of f) b p n)))
  where
    ring1 : (s p : ℕ) → 1 * 0 + s + 2 * (2 * p) ≡ s + p + 3 * p
    ring1 s p = omega arith

    ring2 : (s a p : ℕ) → 1 * s + a + 2 * (2 * p) ≡ s + a + p + 3 * p
    ring2 s a p = omega arith

-- ---- the table in brackets
times_once : (b c : ℕ) → (c ≡ b → ⊥) → times_of b c ≡ 1
unfolding times_of
times_once b c n = rw (same_other c b n, times_of)

times_twice : (b : ℕ) → times_of b b ≡ 2
unfolding times_of
times_twice b = rw (same_self b, times_of)

pub triple_all : (f : Cubic) (b c d : ℕ) → b < c → c ≤ d → Cong 3 (triple_of 3 (bracket f b) b c d) ((table_of3 (triples_of f)).all b c d)
unfolding triple_of line_t
triple_all f b c d l m =
    cof (ap (λ (r : ℕ). line_of 3 r (line_t f b c l) c d) (times_once b c (λ e. omega arith)))
    ⨾ by_cases (ℕ_discrete d c)
    (λ (e : d ≡ c).
    cof (ap (line_of 3 1 (line_t f b c l) c) e ∙ line_self 3 1 (line_t f b c l) c) ⨾ cadd (high_is f b c l c (omega arith)) (cmul (crefl 2) (low_t f b c l))
    ⨾ csym (cdrop _) ⨾ cof (sym (table_all_same (triples_of f) b c) ∙ ap ((table_of3 (triples_of f)).all b c) (sym e)))
    (λ n.
    cof (line_other 3 1 (line_t f b c l) c d n) ⨾ cadd (cadd (cof (one (line_t f b c l c)) ⨾ high_is f b c l c (omega arith)) (high_is f b c l d m)) (cmul (crefl 2) (cmul (crefl 2) (low_t f b c l)))
    ⨾ cof (ring (high3 (triples_of f) b c c + high3 (triples_of f) b c d) (low3 (triples_of f) b c)) ⨾ cwhole _ (low3 (triples_of f) b c)
    ⨾ csym (cdrop _) ⨾ cof (sym (table_all_other (triples_of f) b c d (λ e. n (sym e)))))
  where
    one : (x : ℕ) → 1 * x ≡ x
    one x = omega arith

    ring : (h w : ℕ) → h + 2 * (2 * w) ≡ h + w + 3 * w
    ring h w = omega arith

pub triple_two : (f : Cubic) (b d : ℕ) → b < d → Cong 3 (triple_of 3 (bracket f b) b b d) ((table_of3 (triples_of f)).two b d)
unfolding triple_of table_of3
triple_two f b d l =
    cof (ap (λ (r : ℕ). line_of 3 r (λ i. line_of 3 1 (λ j. bracket f b j i) b b) b d) (times_twice b)
    ∙ line_other 3 2 (λ i. line_of 3 1 (λ j. bracket f b j i) b b) b d (λ e. omega arith))
    ⨾ cadd (cadd (cmul (crefl 2) (cof (line_self 3 1 (λ j. bracket f b j b) b) ⨾ cadd (none_is f b) (cof (ap (λ (x : ℕ). 2 * x) (under_is f b b (omega arith))))))
    (cof (line_self 3 1 (λ j. bracket f b j d) b ∙ ap₂ (λ (x y : ℕ). x + 2 * y) (two_is f b d l) (under_is f b d (omega arith))))) (crefl _)
    ⨾ cof (ring ((triples_of f).two b d) (prev3 (triples_of f) b d) (prev3 (triples_of f) b b) (under_of (λ i. line_of 3 1 (λ j. bracket f b j i) b b) b))
    ⨾ cwhole _ (prev3 (triples_of f) b b + 2 * under_of (λ i. line_of 3 1 (λ j. bracket f b j i) b b) b) ⨾ csym (cdrop _)
  where
    ring : (s p r u : ℕ) → 2 * (0 + 2 * r) + (s + 2 * p) + 2 * (3 * u) ≡ s + 2 * p + r + 3 * (r + 2 * u)
    ring s p r u = omega arith

-- ---- the entries of the first positions of a place
module _ (f : Cubic) (n : ℕ) where
  two : 1 < 3
  two = omega arith

  pub entry_all : (b c d p : ℕ) (ps : List ℕ) → positions 3 p ≡ b ∷ c ∷ d ∷ ps → b < c → c ≤ d → d < n
      → Cong 3 (entry 3 (along 3 (cubic_of f n)) (b ∷ c ∷ d ∷ [])) ((table_of3 (triples_of f)).all b c d)
  entry_all b c d p ps e l m o = triple_is 3 two f n b c d p ps e (omega arith) (omega arith) o ⨾ triple_all f b c d l m

  pub entry_two : (b d p : ℕ) (ps : List ℕ) → positions 3 p ≡ b ∷ b ∷ d ∷ ps → b < d → d < n
      → Cong 3 (entry 3 (along 3 (cubic_of f n)) (b ∷ b ∷ d ∷ [])) ((table_of3 (triples_of f)).two b d)
  entry_two b d p ps e l o = triple_is 3 two f n b b d p ps e (omega arith) (omega arith) o ⨾ triple_two f b d l

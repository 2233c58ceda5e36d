-- The zeros of a graph's system are its colourings: each equation has one sum of at most three terms, and nine pairs of digits decide it.
use mathlib.Core.Path.{◌≡◌, refl, sym, ap, ap₂, ◌∙◌}
use mathlib.Core.Bool.{true, false, not}
use mathlib.Core.List.{List}
use mathlib.Core.Logic.{◌↔◌, ⊎_elim, by_cases}
use Prim.Native.Nat.{ℕ, zero, suc, ◌+◌, ◌-◌, ◌*◌, ◌%◌, ◌<◌}
use native.Mathlib.Decide.{dec_lt, ℕ_discrete}
use native.Mathlib.Omega.{arith}
use lib.Dec.{eqb}
use lib.ListN.{length, get_or}
use borrow.Author.Tests.{eq-eqb, ne_eqb, eqb-true, not-true}
use Rattle.residues.specs.Sums.{sum, same}
use Rattle.residues.proofs.SumLaw.{same_self, same_other, sum_ext, sum_zero, sum_scale, sum_both, sum_one}
use Rattle.polynomials.specs.Poly.{Poly, value_of}
use Rattle.lines.specs.Lines.{lines_of}
use Rattle.graphs.specs.Edges.{Ends, has_edge}
use Rattle.graphs.specs.Reading.{graph, outcome_of, edge_lines}
use Rattle.graphs.specs.Drawn.{no_ends, Edged}
use Rattle.graphs.proofs.EdgeLaw.{meets_ends, has_own, has_among}
use Rattle.graphs.proofs.OnceLaw.{text_has}
use Rattle.graphs.proofs.SoundLaw.{text_drawn}
use Rattle.equations.specs.Equations.{is_end, edge_poly, system_of}
use Rattle.equations.proofs.WriteLaw.{edge_swap}

-- ---- the value of an edge's equation
same_shift : (a d c : ℕ) → same (a + d) (a + c) ≡ same d c
same_shift a d c =
    by_cases (ℕ_discrete d c) (λ e. rw e (same_self (a + c) ∙ sym (same_self c)))
    (λ n. same_other (a + d) (a + c) (λ e. n (omega arith)) ∙ sym (same_other d c n))

module _ (x : ℕ → ℕ) (n a b : ℕ) (h : a < b) (l : b < n) where
  -- the products of x i with the ends from i on
  row : ℕ → ℕ
  row i = sum (n - i) (λ d. is_end a b (i + d) * (x i * x (i + d)))

  row_first : row a ≡ x a * x a + x a * x b
  unfolding row is_end
  row_first =
      sum_ext (n - a) _ (λ d. (x a * x (a + d)) * (same d 0 + same d (b - a))) (λ d z. at d)
      ∙ sum_both (n - a) (λ d. x a * x (a + d)) (λ d. same d 0) (λ d. same d (b - a))
      ∙ ap₂ (λ (p q : ℕ). p + q) (sum_one (n - a) 0 (λ d. x a * x (a + d)) (omega arith)) (sum_one (n - a) (b - a) (λ d. x a * x (a + d)) (omega arith))
      ∙ ap₂ (λ (p q : ℕ). x a * x p + x a * x q) none there
    where
      none : a + 0 ≡ a
      none = omega arith

      there : a + (b - a) ≡ b
      there = omega arith

      turn : (p q : ℕ) → p * q ≡ q * p
      turn p q = omega arith

      at : (d : ℕ) → (same (a + d) a + same (a + d) b) * (x a * x (a + d)) ≡ (x a * x (a + d)) * (same d 0 + same d (b - a))
      at d =
          ap₂ (λ (p q : ℕ). (p + q) * (x a * x (a + d))) (ap (same (a + d)) (sym none) ∙ same_shift a d 0) (ap (same (a + d)) (sym there) ∙ same_shift a d (b - a))
          ∙ turn (same d 0 + same d (b - a)) (x a * x (a + d))

  row_second : row b ≡ x b * x b
  unfolding row is_end
  row_second =
      sum_ext (n - b) _ (λ d. (x b * x (b + d)) * same d 0) (λ d z. at d)
      ∙ sum_one (n - b) 0 (λ d. x b * x (b + d)) (omega arith)
      ∙ ap (λ (p : ℕ). x b * x p) none
    where
      none : b + 0 ≡ b
      none = omega arith

      turn : (p q : ℕ) → (0 + p) * q ≡ q * p
      turn p q = omega arith

      at : (d : ℕ) → (same (b + d) a + same (b + d) b) * (x b * x (b + d)) ≡ (x b * x (b + d)) * same d 0
      at d =
          ap₂ (λ (p q : ℕ). (p + q) * (x b * x (b + d))) (same_other (b + d) a (λ e. omega arith)) (ap (same (b + d)) (sym none) ∙ same_shift b d 0)
          ∙ turn (same d 0) (x b * x (b + d))

  -- every row but those of the ends is 0
  rows : sum n (λ i. sum (n - i) (λ d. (edge_poly a b).quad i (i + d) * (x i * x (i + d)))) ≡ row a + row b
  unfolding row edge_poly is_end
  rows =
      sum_ext n _ (λ i. row i * (same i a + same i b)) (λ i z. at i)
      ∙ sum_both n row (λ i. same i a) (λ i. same i b)
      ∙ ap₂ (λ (p q : ℕ). p + q) (sum_one n a row (omega arith)) (sum_one n b row (omega arith))
    where
      out : (p q r : ℕ) → p * q * r ≡ p * (q * r)
      out p q r = omega arith

      turn : (p q : ℕ) → p * q ≡ q * p
      turn p q = omega arith

      at : (i : ℕ) → sum (n - i) (λ d. is_end a b i * is_end a b (i + d) * (x i * x (i + d))) ≡ row i * (same i a + same i b)
      at i =
          sum_ext (n - i) _ (λ d. is_end a b i * (is_end a b (i + d) * (x i * x (i + d)))) (λ d z. out (is_end a b i) (is_end a b (i + d)) (x i * x (i + d)))
          ∙ sym (sum_scale (n - i) (is_end a b i) (λ d. is_end a b (i + d) * (x i * x (i + d))))
          ∙ turn (is_end a b i) (row i)

  value_up : value_of (edge_poly a b) n x ≡ x a * x a + x a * x b + x b * x b + 2
  unfolding value_of edge_poly
  value_up =
      ap₂ (λ (p q : ℕ). 2 + p + q) (sum_ext n (λ i. 0 * x i) (λ i. x i * 0) (λ i z. omega arith) ∙ sum_zero n x) (rows ∙ ap₂ (λ (p q : ℕ). p + q) row_first row_second)
      ∙ last (x a * x a) (x a * x b) (x b * x b)
    where
      last : (p q r : ℕ) → 2 + 0 + (p + q + r) ≡ p + q + r + 2
      last p q r = omega arith

-- x² + xy + y² + 2
pub edge_value : (x : ℕ → ℕ) (n a b : ℕ) → a < n → b < n → (a ≡ b → ⊥) → value_of (edge_poly a b) n x ≡ x a * x a + x a * x b + x b * x b + 2
edge_value x n a b h l d =
    by_cases (dec_lt a b) (λ z. value_up x n a b z l)
    (λ z.
    let m : ¬ (a ≡ b) = d in
    ap (λ (f : Poly). value_of f n x) (edge_swap a b) ∙ value_up x n b a (omega arith) h ∙ turn (x a) (x b))
  where
    turn : (p q : ℕ) → q * q + q * p + p * p + 2 ≡ p * p + p * q + q * q + 2
    turn p q = omega arith

-- ---- nine pairs of digits
by_digit : (P : ℕ → Type 0) → P 0 → P 1 → P 2 → (u : ℕ) → u < 3 → P u
by_digit P p q r zero h = p
by_digit P p q r (suc zero) h = q
by_digit P p q r (suc (suc zero)) h = r
by_digit P p q r (suc (suc (suc u))) h = absurd (omega arith)

test : ℕ → ℕ → Type 0
test u v = eqb ((u * u + u * v + v * v + 2) % 3) 0 ≡ not (eqb u v)

tested : (u : ℕ) → u < 3 → (v : ℕ) → v < 3 → test u v
unfolding test
tested = by_digit (λ u. (v : ℕ) → v < 3 → test u v) (by_digit (test 0) refl refl refl) (by_digit (test 1) refl refl refl) (by_digit (test 2) refl refl refl)

clash : true ≡ false → ⊥
clash e = let z : ◌≡◌ {A = ℕ} 0 1 = cc in omega arith

pub edge_zero : (u v : ℕ) → u < 3 → v < 3 → ((u * u + u * v + v * v + 2) % 3 ≡ 0) ↔ (u ≡ v → ⊥)
unfolding test
edge_zero u v h l = (
  (λ e q. clash (sym (eq-eqb u v q) ∙ not-true (eqb u v) (sym (tested u h v l) ∙ eq-eqb ((u * u + u * v + v * v + 2) % 3) 0 e))),
  (λ d. eqb-true ((u * u + u * v + v * v + 2) % 3) 0 (tested u h v l ∙ ap not (ne_eqb u v d))),
)

system_is : (es : List Ends) (e : ℕ) → system_of es e ≡ edge_poly ((get_or es e no_ends).one - 1) ((get_or es e no_ends).other - 1)
unfolding system_of
system_is es e = refl

-- ---- what the reader is for
-- a common zero of the equations of a list of edges, one for each
abbrev pub Zero : List Ends → ℕ → (ℕ → ℕ) → Type 0
Zero es v x = (e : ℕ) → e < length es → value_of (system_of es e) v x % 3 ≡ 0

-- the ends of every edge of a list have different digits, and of every edge of its set
abbrev pub Apart : List Ends → (ℕ → ℕ) → Type 0
Apart es x = (e : ℕ) → e < length es → x ((get_or es e no_ends).one - 1) ≡ x ((get_or es e no_ends).other - 1) → ⊥

abbrev pub Differs : List Ends → (ℕ → ℕ) → Type 0
Differs es x = (a b : ℕ) → has_edge es a b ≡ true → x (a - 1) ≡ x (b - 1) → ⊥

abbrev Each : ℕ → List Ends → Type 0
Each v es = (e : ℕ) → e < length es → Edged v (get_or es e no_ends)

module _ (v : ℕ) (x : ℕ → ℕ) (small : (i : ℕ) → x i < 3) where
  zero_apart : (es : List Ends) → Each v es → Zero es v x ↔ Apart es x
  zero_apart es each = (
    (λ z e h. (edge_zero _ _ (small _) (small _)).0 (ap (λ (y : ℕ). y % 3) (sym (value e h)) ∙ z e h)),
    (λ d e h. ap (λ (y : ℕ). y % 3) (value e h) ∙ (edge_zero _ _ (small _) (small _)).1 (d e h)),
  )
    where
      value : (e : ℕ) → e < length es → value_of (system_of es e) v x
          ≡ x ((get_or es e no_ends).one - 1) * x ((get_or es e no_ends).one - 1) + x ((get_or es e no_ends).one - 1) * x ((get_or es e no_ends).other - 1)
          + x ((get_or es e no_ends).other - 1) * x ((get_or es e no_ends).other - 1) + 2
      value e h =
          let p = get_or es e no_ends in
          let g = each e h in
          let d = g.apart in
          ap (λ (f : Poly). value_of f v x) (system_is es e)
          ∙ edge_value x v (p.one - 1) (p.other - 1) (omega (arith, g.one_least, g.one_most)) (omega (arith, g.other_least, g.other_most))
          (λ q. d (omega (arith, g.one_least, g.other_least)))

  -- the edges of a list and those of its set
  apart_differs : (es : List Ends) → Apart es x ↔ Differs es x
  apart_differs es = (
    (λ d a b h q.
        let m = has_among es a b h in
        ⊎_elim
        (λ e. d m.place m.within (ap (λ (k : ℕ). x (k - 1)) e.0 ∙ q ∙ sym (ap (λ (k : ℕ). x (k - 1)) e.1)))
        (λ e. d m.place m.within (ap (λ (k : ℕ). x (k - 1)) e.0 ∙ sym q ∙ sym (ap (λ (k : ℕ). x (k - 1)) e.1)))
        (meets_ends (get_or es m.place no_ends) a b m.met)),
    (λ d e h. d (get_or es e no_ends).one (get_or es e no_ends).other (has_own es e h)),
  )

  zero_differs : (es : List Ends) → Each v es → Zero es v x ↔ Differs es x
  zero_differs es each = ((λ z. (apart_differs es).0 ((zero_apart es each).0 z)), (λ d. (zero_apart es each).1 ((apart_differs es).1 d)))

  -- two lists of the same set
  differs_same : (es xs : List Ends) → ((a b : ℕ) → has_edge xs a b ≡ has_edge es a b) → Differs es x → Differs xs x
  differs_same es xs s d a b h = d a b (sym (s a b) ∙ h)

-- what meets an edge between two of v vertices is one
each_same : (v : ℕ) (es xs : List Ends) → ((a b : ℕ) → has_edge xs a b ≡ has_edge es a b) → Each v es → Each v xs
each_same v es xs s each e h =
    let y = get_or xs e no_ends in
    let m = has_among es y.one y.other (sym (s y.one y.other) ∙ has_own xs e h) in
    let g = each m.place m.within in
    ⊎_elim (λ q. straight (get_or es m.place no_ends) y g q.0 q.1) (λ q. turned (get_or es m.place no_ends) y g q.0 q.1) (meets_ends (get_or es m.place no_ends) y.one y.other m.met)
  where
    straight : (w y : Ends) → Edged v w → w.one ≡ y.one → w.other ≡ y.other → Edged v y
    straight w y g p q =
        let n = g.apart in
        record { one_least = omega (arith, p, g.one_least); one_most = omega (arith, p, g.one_most); other_least = omega (arith, q, g.other_least); other_most = omega (arith, q, g.other_most); apart = λ e. n (p ∙ e ∙ sym q) }

    turned : (w y : Ends) → Edged v w → w.one ≡ y.other → w.other ≡ y.one → Edged v y
    turned w y g p q =
        let n = g.apart in
        record { one_least = omega (arith, q, g.other_least); one_most = omega (arith, q, g.other_most); other_least = omega (arith, p, g.one_least); other_most = omega (arith, p, g.one_most); apart = λ e. n (p ∙ sym e ∙ sym q) }

module _ (t : List ℕ) (w v : ℕ) (es : List Ends) (r : outcome_of t w ≡ graph v es) (x : ℕ → ℕ) (small : (i : ℕ) → x i < 3) where
  -- a point is a common zero of the equations of a text that is read exactly if the two ends of every edge have different digits
  pub colours : Zero es v x ↔ Apart es x
  colours = zero_apart v x small es (text_drawn t w v es r).each

  -- the same over the set of edges
  pub colours_set : Zero es v x ↔ Differs es x
  colours_set = zero_differs v x small es (text_drawn t w v es r).each

  -- with an equation for every e line, repeats and all, the zeros are the same
  pub repeats : Zero (edge_lines (lines_of t)) v x ↔ Zero es v x
  repeats =
      let xs = edge_lines (lines_of t) in
      let s = text_has t w v es r in
      let b = zero_differs v x small xs (each_same v es xs (λ a b. sym (s a b)) (text_drawn t w v es r).each) in
      ((λ z. colours_set.1 (differs_same v x small xs es s (b.0 z))), (λ z. b.1 (differs_same v x small es xs (λ a b. sym (s a b)) (colours_set.0 z))))

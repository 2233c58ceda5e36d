-- The two directions between coefficients and differences write the same formulas; both tables meet them.
use mathlib.Core.Path.{◌≡◌, refl, sym, ap, ap₂, ◌∙◌}
use mathlib.Core.List.{List}
use Prim.Native.Nat.{ℕ, zero, suc, ◌+◌, ◌-◌, ◌*◌, ◌<◌}
use native.Mathlib.Omega.{arith}
use lib.ListN.{length}
use Rattle.residues.proofs.ModLaw.{Cong, crefl, cof, csym, ◌⨾◌, cdrop, cadd, cmul, cwhole}
use Rattle.trits.specs.declared.Vector.{Vector}
use Rattle.trits.specs.Trit.{trit, Legal, of_trits, none}
use Rattle.trits.specs.Words.{Added, Negated}
use Rattle.trits.proofs.LegalLaw.{bit_zero}
use Rattle.trits.proofs.ExtLaw.{of_ext}
use Rattle.polynomials.specs.Poly.{Poly, prev, table_of, prev_of, back_of}
use Rattle.polynomials.proofs.TableLaw.{same_is, other_is, back_same, back_other}
use Rattle.polynomials.proofs.FormLaw.{half_three}
use Rattle.tables.specs.Monomials.{count_of, index_of, nth}
use Rattle.tables.specs.Words.{entry, put_at, Written, Table, poly_at, words_of, differences_of, coefficients_of}
use Rattle.turns.specs.Parts.{Filled, Products, Turned, before_of}
use Rattle.tables.proofs.IndexLaw.{index_lt, count_is}
use Rattle.tables.proofs.MonomialLaw.{nth_const, nth_lin, nth_quad}
use Rattle.tables.proofs.WordLaw.{entry_words}
use Rattle.tables.proofs.RoundLaw.{coefficients_hold}
use Rattle.tables.proofs.VectorLaw.{of_self, of_add, of_negate}
use Rattle.tables.proofs.WriteLaw.{row_entry, written_put, written_first, length_put}
use Rattle.turns.proofs.FillLaw.{filled_next}

-- ---- the later products of one unknown
module _ (n m i j : ℕ) (from : List ℕ) (f : ℕ → ℕ) (g old t : List ℕ) (step : Vector) where
  pub products_next : i < j → j < n → length old ≡ 2 * count_of n → Table n m from → step ≡ of_trits m f → Products n m i from f g
      → (k : ℕ) → k ≡ index_of n i j → (x : Vector) → x ≡ entry from k → (v : Vector) → Added x step v
      → Written g (index_of n i i + 1) (index_of n i i + (j - i)) old t → Written g (index_of n i i + 1) (index_of n i i + (j + 1 - i)) old (put_at t k v)
  products_next h l size table s p k e x y v a w =
      let b : k < count_of n = rw e (index_lt n i j (omega arith) l) in
      let c : index_of n i i + (j - i) ≡ k = sym (e ∙ row_entry n i j (omega arith)) in
      let d : index_of n i i + (j + 1 - i) ≡ k + 1 = omega arith in
      let z : v ≡ entry g k = of_add m (trit (entry from k)) f x step v (y ∙ of_self m (entry from k) (table.legal k b)) s a
      ∙ sym (ap (entry g) e ∙ p j h l ∙ ap (λ (x : ℕ). of_trits m (λ q. trit (entry from x) q + f q)) (sym e)) in
      rw d (written_put g old t (index_of n i i + 1) k v (omega arith) (omega arith) z (rw c at w))

pub products_all : (n i j : ℕ) (g old t : List ℕ) → j ≡ n → Written g (index_of n i i + 1) (index_of n i i + (j - i)) old t
    → Written g (index_of n i i + 1) (index_of n i i + (n - i)) old t
products_all n i j g old t e w = let d : j - i ≡ n - i = omega arith in rw d at w

-- ---- one unknown
module _ (n m i : ℕ) (from : List ℕ) (p : Vector) (g t : List ℕ) (h : i < n) (size : length t ≡ 2 * count_of n) (table : Table n m from) (l : Legal m p)
    (turned : Turned n m i from p g) (filled : Filled g n i t) where
  -- the vectors of the code: the two entries read, the entry of xi, that of xi xi, and what the later products get more
  module _ (x square both minus single : Vector) (x-is : x ≡ entry from (1 + i)) (square-is : square ≡ entry from (index_of n i i))
      (both_is : Added x square both) (minus_is : Negated p minus) (single_is : Added both minus single) where
    square_of : square ≡ of_trits m (trit (entry from (index_of n i i)))
    square_of = square-is ∙ of_self m (entry from (index_of n i i)) (table.legal (index_of n i i) (index_lt n i i (omega arith) h))

    single_of : single ≡ entry g (1 + i)
    single_of =
        let c : 1 + i < count_of n = omega (arith, count_is n) in
        let a = of_add m (trit (entry from (1 + i))) (trit (entry from (index_of n i i))) x square both (x-is ∙ of_self m (entry from (1 + i)) (table.legal (1 + i) c)) square_of both_is in
        let b = of_negate m (trit p) p minus (of_self m p l) minus_is in
        of_add m (λ e. trit (entry from (1 + i)) e + trit (entry from (index_of n i i)) e) (λ e. 2 * trit p e) both minus single a b single_is ∙ sym turned.single

    pub turn_next : (k : ℕ) → k ≡ index_of n i i → (sum first opposite step : Vector) → Added square p sum → Negated sum first → Negated square opposite → Added p opposite step
        → (u : List ℕ)
        → ((f : ℕ → ℕ) → step ≡ of_trits m f → Products n m i from f g → Written g (index_of n i i + 1) (index_of n i i + (n - i)) (put_at (put_at t (1 + i) single) k first) u)
        → Filled g n (i + 1) u
    turn_next k e sum first opposite step sum_is_lem first_is opposite-is step_is u w =
        let s = of_add m (trit (entry from (index_of n i i))) (trit p) square p sum square_of (of_self m p l) sum_is_lem in
        let a : first ≡ entry g (index_of n i i) = of_negate m (λ e. trit (entry from (index_of n i i)) e + trit p e) sum first s first_is ∙ sym turned.square in
        let o = of_negate m (trit (entry from (index_of n i i))) square opposite square_of opposite-is in
        let d = of_add m (trit p) (λ e. 2 * trit (entry from (index_of n i i)) e) p opposite step (of_self m p l) o step_is in
        let r = w (λ e. trit p e + 2 * trit (entry from (index_of n i i)) e) d turned.products in
        filled_next n i g t u single h size single_of filled
        (written_first g (put_at t (1 + i) single) u (index_of n i i) (index_of n i i + (n - i)) first (omega arith)
        (omega (arith, length_put t (1 + i) single, index_lt n i i (omega arith) h)) a (rw e at r))

-- ---- both tables meet the formulas
two : 1 < 3
two = omega arith

trit_none : (e : ℕ) → trit none e ≡ 0
unfolding trit
trit_none e = ap₂ (λ (x y : ℕ). x + y) (bit_zero e) (bit_zero e)

legal_none : (m : ℕ) → Legal m none
legal_none m = record { paired = λ e. omega (arith, bit_zero e); above = λ e h. bit_zero e }

pub before_legal : (n m : ℕ) (c : List ℕ) (i : ℕ) → Table n m c → i < n → Legal m (before_of n c i)
unfolding before_of
before_legal n m c zero t h = legal_none m
before_legal n m c (suc i) t h = t.legal (index_of n i (suc i)) (index_lt n i (suc i) (omega arith) h)

-- entry k of the words of a system, where coefficient k of each equation is known modulo 3
entry_is : (n m : ℕ) (F : ℕ → Poly) (k : ℕ) (f : ℕ → ℕ) → k < count_of n → ((e : ℕ) → e < m → Cong 3 (nth n (F e) k) (f e)) → entry (words_of n m F) k ≡ of_trits m f
entry_is n m F k f h c = entry_words n m F k h ∙ of_ext m (λ e. nth n (F e) k) f (λ e l. (c e l).same)

module _ (n m : ℕ) (c : List ℕ) where
  prev_is : (e i : ℕ) → prev (poly_at n c e) i ≡ trit (before_of n c i) e
  unfolding prev poly_at before_of
  prev_is e zero = sym (trit_none e)
  prev_is e (suc i) = refl

  pub differences_first : Table n m c → entry c 0 ≡ entry (differences_of n m c) 0
  unfolding differences_of table_of poly_at
  differences_first t =
      let z : 0 < count_of n = omega (arith, count_is n) in
      of_self m (entry c 0) (t.legal 0 z)
      ∙ sym (entry_is n m (λ e. table_of 3 (poly_at n c e)) 0 (trit (entry c 0)) z (λ e l. cof (nth_const n (table_of 3 (poly_at n c e))) ⨾ cdrop _))

  pub differences_turned : (i : ℕ) → i < n → Turned n m i c (before_of n c i) (differences_of n m c)
  unfolding differences_of table_of poly_at
  differences_turned i h =
      record {
        single = entry_is n m (λ e. table_of 3 (poly_at n c e)) (1 + i) _ (omega (arith, count_is n)) (λ e l. cof (nth_lin n (table_of 3 (poly_at n c e)) i h) ⨾ cdrop _
            ⨾ cof (ap (λ (x : ℕ). trit (entry c (1 + i)) e + trit (entry c (index_of n i i)) e + 2 * x) (prev_is e i)));
        square = entry_is n m (λ e. table_of 3 (poly_at n c e)) (index_of n i i) _ (index_lt n i i (omega arith) h) (λ e l. cof (nth_quad n (table_of 3 (poly_at n c e)) i i (omega arith) h ∙ same_is 3 two (poly_at n c e) i)
            ⨾ cdrop _ ⨾ cof (ap (λ (x : ℕ). 2 * trit (entry c (index_of n i i)) e + 2 * x) (prev_is e i) ∙ both (trit (entry c (index_of n i i)) e) (trit (before_of n c i) e)));
        products = λ j p q. entry_is n m (λ e. table_of 3 (poly_at n c e)) (index_of n i j) _ (index_lt n i j (omega arith) q) (λ e l.
            cof (nth_quad n (table_of 3 (poly_at n c e)) i j (omega arith) q ∙ other_is 3 two (poly_at n c e) i j (λ z. omega arith)) ⨾ cdrop _
            ⨾ cof (ap (λ (x : ℕ). trit (entry c (index_of n i j)) e + 2 * trit (entry c (index_of n i i)) e + 2 * (2 * x)) (prev_is e i) ∙ four (trit (entry c (index_of n i j)) e) (trit (entry c (index_of n i i)) e) (trit (before_of n c i) e))
            ⨾ cwhole _ (trit (before_of n c i) e));
      }
    where
      both : (a b : ℕ) → 2 * a + 2 * b ≡ 2 * (a + b)
      both a b = omega arith

      four : (a b p : ℕ) → a + 2 * b + 2 * (2 * p) ≡ a + (p + 2 * b) + 3 * p
      four a b p = omega arith

module _ (n m : ℕ) (t : List ℕ) where
  -- the coefficient of the unknown before i and i, in the coefficients
  back_prev : (e i : ℕ) → e < m → i < n → Cong 3 (prev_of 3 (poly_at n t e) i) (trit (before_of n (coefficients_of n m t) i) e)
  unfolding prev_of poly_at before_of
  back_prev e zero l h = cof (sym (trit_none e))
  back_prev e (suc i) l h =
      cof (sym (back_other 3 two 2 half_three (poly_at n t e) i (suc i) (λ z. omega arith))) ⨾ csym ((coefficients_hold n m t e l).quad i (suc i) (omega arith) h)

  pub coefficients_first : Table n m t → entry t 0 ≡ entry (coefficients_of n m t) 0
  unfolding coefficients_of back_of poly_at
  coefficients_first l =
      let z : 0 < count_of n = omega (arith, count_is n) in
      of_self m (entry t 0) (l.legal 0 z)
      ∙ sym (entry_is n m (λ e. back_of 3 2 (poly_at n t e)) 0 (trit (entry t 0)) z (λ e l. cof (nth_const n (back_of 3 2 (poly_at n t e))) ⨾ cdrop _))

  pub coefficients_turned : (i : ℕ) → i < n → Turned n m i t (before_of n (coefficients_of n m t) i) (coefficients_of n m t)
  unfolding coefficients_of back_of poly_at
  coefficients_turned i h =
      record {
        single = entry_is n m (λ e. back_of 3 2 (poly_at n t e)) (1 + i) _ (omega (arith, count_is n)) (λ e l.
            cof (nth_lin n (back_of 3 2 (poly_at n t e)) i h) ⨾ cdrop _
            ⨾ cof (five (trit (entry t (1 + i)) e) (trit (entry t (index_of n i i)) e) (prev_of 3 (poly_at n t e) i)) ⨾ cwhole _ _
            ⨾ cadd (crefl _) (cmul (crefl 2) (back_prev e i l h)));
        square = entry_is n m (λ e. back_of 3 2 (poly_at n t e)) (index_of n i i) _ (index_lt n i i (omega arith) h) (λ e l.
            cof (nth_quad n (back_of 3 2 (poly_at n t e)) i i (omega arith) h ∙ back_same 3 two 2 half_three (poly_at n t e) i) ⨾ cdrop _
            ⨾ cmul (crefl 2) (cadd (crefl _) (back_prev e i l h)));
        products = λ j p q. entry_is n m (λ e. back_of 3 2 (poly_at n t e)) (index_of n i j) _ (index_lt n i j (omega arith) q) (λ e l.
            cof (nth_quad n (back_of 3 2 (poly_at n t e)) i j (omega arith) q ∙ back_other 3 two 2 half_three (poly_at n t e) i j (λ z. omega arith)) ⨾ cdrop _
            ⨾ cof (left (trit (entry t (index_of n i j)) e) (prev_of 3 (poly_at n t e) i) (2 * trit (entry t (index_of n i i)) e))
            ⨾ cadd (crefl _) (cadd (back_prev e i l h) (crefl _)));
      }
    where
      five : (a b p : ℕ) → a + p + 2 * (2 * (b + p)) ≡ a + b + 2 * p + 3 * (b + p)
      five a b p = omega arith

      left : (a b c : ℕ) → a + b + c ≡ a + (b + c)
      left a b c = omega arith

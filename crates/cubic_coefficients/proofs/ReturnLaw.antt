-- The way back: the coefficients meet the formulas that the code writes, and both tables give back each other.
use mathlib.Core.Path.{◌≡◌, refl, sym, ap, ap₂, ◌∙◌}
use mathlib.Core.Bool.{true}
use mathlib.Core.Logic.{by_cases}
use mathlib.Core.List.{List, ◌++◌}
use Prim.Native.Nat.{ℕ, ◌+◌, ◌-◌, ◌*◌, ◌%◌, ◌≤◌, ◌<◌}
use native.Mathlib.Decide.{ℕ_discrete, dec_lt}
use native.Mathlib.Omega.{arith}
use lib.ListN.{length, get_or, drop, length-append, length-drop, get_or-append}
use lib.Seq.{get_or-append-add, get_or-drop}
use Rattle.residues.proofs.ModLaw.{Cong, crefl, cof, csym, ◌⨾◌, cdrop, cadd, cmul}
use Rattle.trits.specs.Trit.{trit, of_trits}
use Rattle.trits.proofs.ExtLaw.{of_ext}
use Rattle.polynomials.specs.Poly.{Poly, back_of}
use Rattle.polynomials.proofs.FormLaw.{half_three}
use Rattle.tables.specs.Monomials.{count_of, index_of, nth}
use Rattle.tables.specs.Words.{entry, Written, Table, poly_at, words_of, coefficients_of}
use Rattle.tables.proofs.IndexLaw.{index_lt, count_is}
use Rattle.tables.proofs.MonomialLaw.{nth_const, nth_lin, nth_quad}
use Rattle.tables.proofs.AgreeLaw as low
use Rattle.tables.proofs.RoundLaw.{words_agree}
use Rattle.tables.proofs.VectorLaw.{of_self}
use Rattle.tables.proofs.WordLaw.{entry_words, words_table}
use Rattle.tables.proofs.WriteLaw.{entries_ext}
use Rattle.cubics.specs.Cubic.{Cubic, low_of}
use Rattle.cubics.specs.Triples.{Triples, prev3, low3, two_from, prev_back, low_back, back_of3}
use Rattle.cubics.specs.Whole.{cubes_from, entries_of, cubes_back, low_table, back_cubic}
use Rattle.cubics.proofs.BracketLaw.{triples_of}
use Rattle.cubics.proofs.AlikeLaw.{Agree, agree_turn, agree_join, prev_like, low_like}
use Rattle.cubics.proofs.BackLaw.{two_of, all_of, prev_back_lem, low_back_lem, from_same, from_other}
use Rattle.cubics.proofs.OneSystemLaw.{from_agree, from_none, from_two, from_last, from_all}
use Rattle.cubic_tables.specs.Order.{cubic_count, triple_index, cubic_nth}
use Rattle.brackets.specs.Brackets.{brackets_at, entries_at, back_cell}
use Rattle.cubic_tables.specs.Words.{CubicTable, cubic_at, cubic_coefficients}
use Rattle.cubic_turns.specs.Parts.{Made, Shifted}
use Rattle.cubic_tables.proofs.OrderLaw.{triple_lt, cubic_count_is}
use Rattle.cubic_tables.proofs.NthLaw.{cubic_nth_cube, cubic_nth_low}
use Rattle.brackets.proofs.BracketLaw.{back_two, back_same, back_other}
use Rattle.cubic_tables.proofs.WordsLaw.{Alike, cube_at, const_at, lin_at, quad_at, cubic_words_hold, cubic_entry_is}
use Rattle.cubic_differences.proofs.ExtraLaw.{single_like, pair_like, cubes_single, cubes_pair}
use Rattle.cubic_differences.proofs.FormLaw.{clash, brackets_agree, alike_agree}

two : 1 < 3
two = omega arith

-- ---- the fields of the way back
module _ (n : ℕ) (t : Cubic) where
  pub back_cube : (i j k : ℕ) → (back_cubic n t).cube i j k ≡ cubes_from (back_of3 (entries_of t)) i j k
  unfolding back_cubic
  back_cube i j k = refl

  pub back_low : low_of (back_cubic n t) ≡ back_of 3 2 (low_table n t)
  unfolding back_cubic
  back_low = refl

  pub back_none : (i : ℕ) → (back_cubic n t).cube i i i ≡ 0
  back_none i = back_cube i i i ∙ from_none (back_of3 (entries_of t)) i

  -- the coefficient of b, c, d, from brackets that agree with those of the way back and entries that agree with the table's
  pub back_cell_lem : (T E : Triples) → Agree n T (back_of3 (entries_of t)) → Agree n E (entries_of t) → (b c d : ℕ) → b ≤ c → c ≤ d → b < d → d < n → Cong 3 ((back_cubic n t).cube b c d) (back_cell T E b c d)
  back_cell_lem T E a w b c d h l m o =
      let B = back_of3 (entries_of t) in
      let P = prev_back (entries_of t) b in
      let prev : (k : ℕ) → b ≤ k → k < n → Cong 3 (P k) (prev3 T b k) = λ k p q. cof (sym (prev_back_lem (entries_of t) b k)) ⨾ csym (prev_like n T B a b k p q) in
      cof (back_cube b c d)
      ⨾ by_cases (ℕ_discrete b c)
      (λ (i : b ≡ c). rw (← i) (cof (from_two B b d (λ e. omega arith) ∙ ap (λ (x : ℕ). 2 * x) (two_of (entries_of t) b d)) ⨾ cmul (crefl 2) (cdrop _ ⨾ cadd (cadd (csym (w.two b d m o)) (prev d (omega arith) o)) (cmul (crefl 2) (prev b (omega arith) (omega arith))))
      ⨾ cof (sym (back_two T E b b d refl))))
      (λ i.
      let p : b < c = omega arith in
      let lows : Cong 3 (low_back (entries_of t) b c) (low3 T b c) = cof (sym (low_back_lem (entries_of t) b c p)) ⨾ csym (low_like n T B a b c p (omega arith)) in
      let twos : Cong 3 (two_from P (entries_of t) b d) (T.two b d) = cof (sym (two_of (entries_of t) b d)) ⨾ csym (a.two b d m o) in
      by_cases (ℕ_discrete c d)
      (λ (j : c ≡ d).
      cof (ap (cubes_from B b c) (sym j) ∙ from_last B b c i ∙ ap (λ (x : ℕ). 2 * x) (all_of (entries_of t) b c c ∙ from_same P (entries_of t) b c (low_back (entries_of t) b c) ∙ ap (λ (x : ℕ). (t.cube b c x + low_back (entries_of t) b c + 2 * two_from P (entries_of t) b x + 2 * P x) % 3) j))
      ⨾ cmul (crefl 2) (cdrop _ ⨾ cadd (cadd (cadd (csym (w.all b c d p l o)) lows) (cmul (crefl 2) twos)) (cmul (crefl 2) (prev d (omega arith) o)) ⨾ cof (join (E.all b c d) (low3 T b c) (T.two b d) (prev3 T b d)))
      ⨾ cof (sym (back_same T E b c d i j)))
      (λ j.
      cof (from_all B b c d i j ∙ all_of (entries_of t) b c d ∙ from_other P (entries_of t) b c (low_back (entries_of t) b c) d j)
      ⨾ cdrop _ ⨾ cadd (cadd (cadd (cadd (csym (w.all b c d p l o)) (cmul (crefl 2) (csym (w.all b c c p (omega arith) (omega arith))))) lows) (cmul (crefl 2) twos)) (cmul (crefl 2) (prev d (omega arith) o))
      ⨾ cof (more (E.all b c d) (E.all b c c) (low3 T b c) (T.two b d) (prev3 T b d)) ⨾ cof (sym (back_other T E b c d i j))))
    where
      join : (a l s p : ℕ) → a + l + 2 * s + 2 * p ≡ a + l + 2 * (s + p)
      join a l s p = omega arith

      more : (a b l s p : ℕ) → a + 2 * b + l + 2 * s + 2 * p ≡ a + 2 * b + l + 2 * (s + p)
      more a b l s p = omega arith

-- ---- words
module _ (n m : ℕ) (t : List ℕ) where
  coefficients_alike : (e : ℕ) → e < m → Alike n (cubic_at n (cubic_coefficients n m t) e) (back_cubic n (cubic_at n t e))
  unfolding cubic_coefficients
  coefficients_alike e l = cubic_words_hold n m (λ e. back_cubic n (cubic_at n t e)) e l

  -- the brackets of the coefficients are those of the way back
  brackets_back : (e : ℕ) → e < m → Agree n (brackets_at n (cubic_coefficients n m t) e) (back_of3 (entries_of (cubic_at n t e)))
  brackets_back e l =
      let g = cubic_coefficients n m t in
      let f = back_cubic n (cubic_at n t e) in
      agree_join n (brackets_at n g e) (triples_of (cubic_at n g e)) (back_of3 (entries_of (cubic_at n t e))) (agree_turn n (triples_of (cubic_at n g e)) (brackets_at n g e) (brackets_agree n g e))
      (agree_join n (triples_of (cubic_at n g e)) (triples_of f) (back_of3 (entries_of (cubic_at n t e))) (alike_agree n (cubic_at n g e) f (coefficients_alike e l)) (from_agree n (back_of3 (entries_of (cubic_at n t e))) f (back_cube n (cubic_at n t e))))

  entries_agree : (e : ℕ) → Agree n (entries_at n t e) (entries_of (cubic_at n t e))
  unfolding entries_at
  entries_agree e = record { two = λ b d l m. cof (sym (cube_at n t e b b d l)); all = λ b c d l m o. cof (sym (cube_at n t e b c d (omega arith))) }

  entry_coefficients : (k : ℕ) (f : ℕ → ℕ) → k < cubic_count n → ((e : ℕ) → e < m → Cong 3 (cubic_nth n (back_cubic n (cubic_at n t e)) k) (f e)) → entry (cubic_coefficients n m t) k ≡ of_trits m f
  unfolding cubic_coefficients
  entry_coefficients k f h c = cubic_entry_is n m (λ e. back_cubic n (cubic_at n t e)) k f h c

  pub coefficients_made : Made n m true t (cubic_coefficients n m t)
  coefficients_made = record {
    there = λ i. absurd (clash (sym i));
    here = λ i b c d h l p o. entry_coefficients (triple_index n b c d) (λ e. back_cell (brackets_at n (cubic_coefficients n m t) e) (entries_at n t e) b c d) (triple_lt n b c d h l p o) (λ e z.
        cof (cubic_nth_cube n (back_cubic n (cubic_at n t e)) b c d h l p o) ⨾ back_cell_lem n (cubic_at n t e) (brackets_at n (cubic_coefficients n m t) e) (entries_at n t e) (brackets_back e z) (entries_agree e) b c d h l p o);
  }

  -- ---- the part of degree up to 2, without what the products of three add
  pub low_words : List ℕ
  low_words = words_of n m (λ e. low_table n (cubic_at n t e))

  cubes_agree : (e : ℕ) → e < m → Agree n (triples_of (cubes_back (cubic_at n t e))) (brackets_at n (cubic_coefficients n m t) e)
  cubes_agree e l =
      let E = entries_of (cubic_at n t e) in
      agree_join n (triples_of (cubes_back (cubic_at n t e))) (back_of3 E) (brackets_at n (cubic_coefficients n m t) e) (from_agree n (back_of3 E) (cubes_back (cubic_at n t e)) (λ i j k. refl))
      (agree_turn n (brackets_at n (cubic_coefficients n m t) e) (back_of3 E) (brackets_back e l))

  low_entry : (k : ℕ) (f : ℕ → ℕ) → k < count_of n → ((e : ℕ) → e < m → Cong 3 (nth n (low_table n (cubic_at n t e)) k) (f e)) → entry low_words k ≡ of_trits m f
  unfolding low_words
  low_entry k f h c = entry_words n m (λ e. low_table n (cubic_at n t e)) k h ∙ of_ext m (λ e. nth n (low_table n (cubic_at n t e)) k) f (λ e l. (c e l).same)

  pub coefficients_shifted : CubicTable n m t → Shifted n m true (cubic_coefficients n m t) t low_words
  coefficients_shifted w = record {
    first = low_entry 0 (trit (entry t 0)) (omega (arith, count_is n)) (λ e z. cof (nth_const n (low_table n (cubic_at n t e)) ∙ const_at n t e)) ∙ sym (of_self m (entry t 0) (w.legal 0 (omega (arith, cubic_count_is n, count_is n))));
    single = λ b l. low_entry (1 + b) _ (omega (arith, count_is n)) (λ e z. cof (nth_lin n (low_table n (cubic_at n t e)) b l)
        ⨾ cadd (cof (lin_at n t e b)) (cmul (crefl 2) (cubes_single (cubes_back (cubic_at n t e)) (from_none (back_of3 (entries_of (cubic_at n t e)))) n b l
        ⨾ single_like n (triples_of (cubes_back (cubic_at n t e))) (brackets_at n (cubic_coefficients n m t) e) (cubes_agree e z) b l)));
    pair = λ b d h l. low_entry (index_of n b d) _ (index_lt n b d h l) (λ e z. cof (nth_quad n (low_table n (cubic_at n t e)) b d h l)
        ⨾ cadd (cof (quad_at n t e b d)) (cmul (crefl 2) (cubes_pair (cubes_back (cubic_at n t e)) (from_none (back_of3 (entries_of (cubic_at n t e)))) n b d h l
        ⨾ pair_like n (triples_of (cubes_back (cubic_at n t e))) (brackets_at n (cubic_coefficients n m t) e) (cubes_agree e z) b d h l)));
  }

  pub low_table_lem : Table n m low_words
  unfolding low_words
  low_table_lem = words_table n m (λ e. low_table n (cubic_at n t e))

  -- the landed way back of that part
  pub low_back_is : (k : ℕ) → k < count_of n → entry (coefficients_of n m low_words) k ≡ entry (cubic_coefficients n m t) k
  unfolding coefficients_of low_words
  low_back_is k h =
      entry_words n m (λ e. back_of 3 2 (poly_at n low_words e)) k h
      ∙ of_ext m (λ e. nth n (back_of 3 2 (poly_at n low_words e)) k) (λ e. nth n (back_of 3 2 (low_table n (cubic_at n t e))) k)
      (λ e l. (low.agree_nth 3 n _ _ (low.back_agree 3 two n (poly_at n low_words e) (low_table n (cubic_at n t e)) (words_agree n m (λ e. low_table n (cubic_at n t e)) e l) 2 half_three) k h).same)
      ∙ sym (entry_coefficients k (λ e. nth n (back_of 3 2 (low_table n (cubic_at n t e))) k) (omega (arith, cubic_count_is n)) (λ e l.
      cof (cubic_nth_low n (back_cubic n (cubic_at n t e)) k h ∙ ap (λ (f : Poly). nth n f k) (back_low n (cubic_at n t e)))))

-- ---- a front put in
entry_front : (x y : List ℕ) (j k : ℕ) → length x ≡ 2 * j → k < j → entry (x ++ y) k ≡ entry x k
unfolding entry
entry_front x y j k e h = λ i. record { high = get_or-append x y 0 (2 * k) (omega arith) i; low = get_or-append x y 0 (2 * k + 1) (omega arith) i }

entry_rest : (x t : List ℕ) (j k : ℕ) → length x ≡ 2 * j → j ≤ k → entry (x ++ drop (2 * j) t) k ≡ entry t k
unfolding entry
entry_rest x t j k e h = λ i. record { high = at (2 * k) (omega arith) i; low = at (2 * k + 1) (omega arith) i }
  where
    at : (p : ℕ) → 2 * j ≤ p → get_or (x ++ drop (2 * j) t) p 0 ≡ get_or t p 0
    at p l =
        let a : p ≡ length x + (p - 2 * j) = omega arith in
        let b : 2 * j + (p - 2 * j) ≡ p = omega arith in
        ap (λ (q : ℕ). get_or (x ++ drop (2 * j) t) q 0) a ∙ get_or-append-add x (drop (2 * j) t) (p - 2 * j) 0 ∙ get_or-drop (2 * j) t (p - 2 * j) 0 ∙ ap (λ (q : ℕ). get_or t q 0) b

-- the way back, written whole: the products of three, and the part of degree up to 2 put in before them
pub back_whole : (n m : ℕ) (g old t x : List ℕ) → CubicTable n m g → length old ≡ 2 * cubic_count n → length x ≡ 2 * count_of n → ((k : ℕ) → k < count_of n → entry x k ≡ entry g k)
    → Written g (count_of n) (cubic_count n) old t → x ++ drop (2 * count_of n) t ≡ g
back_whole n m g old t x w l lx e y =
    entries_ext (cubic_count n) (x ++ drop (2 * count_of n) t) g
    (length-append x (drop (2 * count_of n) t) ∙ ap₂ (λ (u v : ℕ). u + v) lx (length-drop (2 * count_of n) t) ∙ size)
    w.size
    (λ k h. by_cases (dec_lt k (count_of n)) (λ z. entry_front x (drop (2 * count_of n) t) (count_of n) k lx z ∙ e k z) (λ z. entry_rest x t (count_of n) k lx (omega arith) ∙ y.here k (omega arith) h))
  where
    size : 2 * count_of n + (length t - 2 * count_of n) ≡ 2 * cubic_count n
    size = omega (arith, y.size, l, cubic_count_is n)

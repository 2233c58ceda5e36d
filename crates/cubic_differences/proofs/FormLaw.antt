-- Both tables meet the formulas that the code writes.
use mathlib.Core.Path.{◌≡◌, refl, sym, ap, ◌∙◌}
use mathlib.Core.Bool.{true, false}
use mathlib.Core.Logic.{by_cases}
use mathlib.Core.List.{List, [], ◌∷◌}
use Prim.Native.Nat.{ℕ, ◌+◌, ◌*◌, ◌^◌, ◌≤◌, ◌<◌}
use native.Mathlib.Decide.{ℕ_discrete, dec_lt}
use native.Mathlib.Omega.{arith}
use lib.ListN.{length, take}
use lib.Seq.{get_or-take, length-take-le}
use Rattle.residues.proofs.SumLaw.{same_self, same_other}
use Rattle.residues.proofs.ModLaw.{Cong, crefl, cof, csym, ◌⨾◌, cadd, cmul}
use Rattle.trits.specs.declared.Vector.{Vector}
use Rattle.trits.specs.Trit.{trit}
use Rattle.polynomials.specs.Poly.{table_of}
use Rattle.tables.specs.Monomials.{count_of, index_of}
use Rattle.tables.specs.Words.{entry, Written, Table, poly_at, differences_of}
use Rattle.tables.proofs.IndexLaw.{index_lt, count_is}
use Rattle.tables.proofs.AgreeLaw as low
use Rattle.tables.proofs.EntryLaw.{lin_holds, quad_holds}
use Rattle.turns.proofs.TurnLaw.{differences_first}
use Rattle.tables.proofs.VectorLaw.{of_self}
use Rattle.tables.proofs.WriteLaw.{entries_ext}
use Rattle.held.specs.Held as held
use Rattle.cubics.specs.Cubic.{Cubic, low_of, cubic_of}
use Rattle.cubics.specs.Triples.{Triples, table_of3}
use Rattle.cubics.specs.Whole.{back_cubic}
use Rattle.cubics.proofs.LinearLaw.{cubic_lin, cubic_quad}
use Rattle.cubics.proofs.BracketLaw.{triples_of, all_same, all_other, entry_two, entry_all}
use Rattle.cubics.proofs.AlikeLaw.{Agree, table_like}
use Rattle.cubics.proofs.OneSystemLaw.{entry_const}
use Rattle.held.proofs.ExactLaw.{pair_place, triple_same, triple_over}
use Rattle.cubic_tables.specs.Order.{cubic_count, triple_index}
use Rattle.brackets.specs.Brackets.{brackets_at, cell_of, extra_single, extra_pair}
use Rattle.cubic_tables.specs.Words.{CubicTable, cubic_at, table_cubic, cubic_differences, cubic_coefficients}
use Rattle.cubic_turns.specs.Parts.{Made, Shifted}
use Rattle.cubic_tables.proofs.OrderLaw.{triple_lt, cubic_count_is}
use Rattle.cubic_tables.proofs.NthLaw.{cubic_nth_const, cubic_nth_lin, cubic_nth_quad, cubic_nth_cube}
use Rattle.brackets.proofs.BracketLaw.{cell_two, cell_all}
use Rattle.cubic_tables.proofs.WordsLaw.{Alike, cube_at, cube_none, const_at, lin_at, quad_at, cubic_words_table, cubic_entry_is}
use Rattle.cubic_differences.proofs.ExtraLaw.{single_like, pair_like, cubes_single, cubes_pair}

two : 1 < 3
two = omega arith

three : 2 < 3
three = omega arith

pub clash : false ≡ true → ⊥
clash e = let z : ◌≡◌ {A = ℕ} 0 1 = cc in omega arith

-- ---- brackets of a table and of its system
pub brackets_two : (n : ℕ) (t : List ℕ) (e b k : ℕ) → (brackets_at n t e).two b k ≡ 2 * trit (entry t (triple_index n b b k)) e
unfolding brackets_at
brackets_two n t e b k = refl

brackets_same : (n : ℕ) (t : List ℕ) (e b c : ℕ) → (brackets_at n t e).all b c c ≡ 2 * trit (entry t (triple_index n b c c)) e
unfolding brackets_at
brackets_same n t e b c = rw (same_self c, brackets_at)

brackets_other : (n : ℕ) (t : List ℕ) (e b c k : ℕ) → (c ≡ k → ⊥) → (brackets_at n t e).all b c k ≡ trit (entry t (triple_index n b c k)) e
unfolding brackets_at
brackets_other n t e b c k d = rw (same_other c k d, brackets_at)

triples_two : (f : Cubic) (b k : ℕ) → (triples_of f).two b k ≡ 2 * f.cube b b k
unfolding triples_of
triples_two f b k = refl

pub brackets_agree : (n : ℕ) (t : List ℕ) (e : ℕ) → Agree n (triples_of (cubic_at n t e)) (brackets_at n t e)
brackets_agree n t e = record {
  two = λ b d l m. cof (triples_two (cubic_at n t e) b d ∙ ap (λ (x : ℕ). 2 * x) (cube_at n t e b b d l) ∙ sym (brackets_two n t e b d));
  all = λ b c d l m o.
      by_cases (ℕ_discrete c d)
      (λ (i : c ≡ d). rw (← i) (cof (all_same (cubic_at n t e) b c ∙ ap (λ (x : ℕ). 2 * x) (cube_at n t e b c c l) ∙ sym (brackets_same n t e b c))))
      (λ i. cof (all_other (cubic_at n t e) b c d i ∙ cube_at n t e b c d (omega arith) ∙ sym (brackets_other n t e b c d i)));
}

-- systems that are alike have brackets that agree
pub alike_agree : (n : ℕ) (f g : Cubic) → Alike n f g → Agree n (triples_of f) (triples_of g)
alike_agree n f g a = record {
  two = λ b d l m. cof (triples_two f b d) ⨾ cmul (crefl 2) (a.cube b b d (omega arith) (omega arith) l m) ⨾ cof (sym (triples_two g b d));
  all = λ b c d l m o.
      by_cases (ℕ_discrete c d)
      (λ (i : c ≡ d). rw (← i) (cof (all_same f b c) ⨾ cmul (crefl 2) (a.cube b c c (omega arith) (omega arith) l (omega arith)) ⨾ cof (sym (all_same g b c))))
      (λ i. cof (all_other f b c d i) ⨾ a.cube b c d (omega arith) m (omega arith) o ⨾ cof (sym (all_other g b c d i)));
}

-- ---- the table of a cubic by its fields
pub table_const_is : (n : ℕ) (f : Cubic) → (table_cubic n f).const ≡ held.entry 3 (held.along 3 (cubic_of f n)) []
unfolding table_cubic
table_const_is n f = refl

pub table_lin_is : (n : ℕ) (f : Cubic) (b : ℕ) → (table_cubic n f).lin b ≡ held.entry 3 (held.along 3 (cubic_of f n)) (b ∷ [])
unfolding table_cubic
table_lin_is n f b = refl

pub table_quad_is : (n : ℕ) (f : Cubic) (b c : ℕ) → (table_cubic n f).quad b c ≡ held.entry 3 (held.along 3 (cubic_of f n)) (b ∷ c ∷ [])
unfolding table_cubic
table_quad_is n f b c = refl

pub table_cube_is : (n : ℕ) (f : Cubic) (b c d : ℕ) → (table_cubic n f).cube b c d ≡ held.entry 3 (held.along 3 (cubic_of f n)) (b ∷ c ∷ d ∷ [])
unfolding table_cubic
table_cube_is n f b c d = refl

pub table_cell : (n : ℕ) (f : Cubic) (T : Triples) → Agree n (triples_of f) T → (b c d : ℕ) → b ≤ c → c ≤ d → b < d → d < n → Cong 3 ((table_cubic n f).cube b c d) (cell_of (table_of3 T) b c d)
table_cell n f T a b c d h l m o =
    let w = table_like n (triples_of f) T a in
    cof (table_cube_is n f b c d)
    ⨾ by_cases (ℕ_discrete b c)
    (λ (i : b ≡ c). rw (← i) (entry_two f n b d (3 ^ b + (3 ^ b + 3 ^ d)) [] (triple_same 3 two three b d m) m o ⨾ w.two b d m o ⨾ cof (sym (cell_two (table_of3 T) b b d refl))))
    (λ i. let p : b < c = omega arith in
    entry_all f n b c d (3 ^ b + (3 ^ c + 3 ^ d)) [] (triple_over 3 two three b c d p l) p l o ⨾ w.all b c d p l o ⨾ cof (sym (cell_all (table_of3 T) b c d i)))

pub table_single : (n : ℕ) (f : Cubic) → ((i : ℕ) → f.cube i i i ≡ 0) → (T : Triples) → Agree n (triples_of f) T → (b : ℕ) → b < n → Cong 3 ((table_cubic n f).lin b) ((table_of 3 (low_of f)).lin b + extra_single T b)
table_single n f free T a b l =
    cof (table_lin_is n f b) ⨾ cubic_lin 3 two f n b l ⨾ cadd (crefl _) (cubes_single f free n b l ⨾ single_like n (triples_of f) T a b l)

pub table_pair : (n : ℕ) (f : Cubic) → ((i : ℕ) → f.cube i i i ≡ 0) → (T : Triples) → Agree n (triples_of f) T → (b c : ℕ) → b ≤ c → c < n → Cong 3 ((table_cubic n f).quad b c) ((table_of 3 (low_of f)).quad b c + extra_pair T b c)
table_pair n f free T a b c l m =
    let p = pair_place 3 two three b c n l m in
    cof (table_quad_is n f b c) ⨾ cubic_quad 3 two f n b c p.0 [] p.1 (omega arith) p.2 ⨾ cadd (crefl _) (cubes_pair f free n b c l m ⨾ pair_like n (triples_of f) T a b c l m)

-- ---- there
pub cubic_differences_table : (n m : ℕ) (c : List ℕ) → CubicTable n m (cubic_differences n m c)
unfolding cubic_differences
cubic_differences_table n m c = cubic_words_table n m (λ e. table_cubic n (cubic_at n c e))

pub cubic_coefficients_table : (n m : ℕ) (t : List ℕ) → CubicTable n m (cubic_coefficients n m t)
unfolding cubic_coefficients
cubic_coefficients_table n m t = cubic_words_table n m (λ e. back_cubic n (cubic_at n t e))

-- the part of degree up to 2 of a table
pub entry_take : (k : ℕ) (t : List ℕ) (j : ℕ) → j < k → entry (take (2 * k) t) j ≡ entry t j
unfolding entry
entry_take k t j h = λ i. record { high = get_or-take (2 * k) t (2 * j) 0 (omega arith) i; low = get_or-take (2 * k) t (2 * j + 1) 0 (omega arith) i }

pub take_table : (n m : ℕ) (t : List ℕ) → CubicTable n m t → Table n m (take (2 * count_of n) t)
take_table n m t w = record {
  size = length-take-le (2 * count_of n) t (omega (arith, w.size, cubic_count_is n));
  legal = λ k h. rw (entry_take (count_of n) t k h) (w.legal k (omega (arith, cubic_count_is n)));
}

poly_const : (n : ℕ) (t : List ℕ) (e : ℕ) → (poly_at n t e).const ≡ trit (entry t 0) e
unfolding poly_at
poly_const n t e = refl

poly_lin : (n : ℕ) (t : List ℕ) (e i : ℕ) → (poly_at n t e).lin i ≡ trit (entry t (1 + i)) e
unfolding poly_at
poly_lin n t e i = refl

poly_quad : (n : ℕ) (t : List ℕ) (e i j : ℕ) → (poly_at n t e).quad i j ≡ trit (entry t (index_of n i j)) e
unfolding poly_at
poly_quad n t e i j = refl

at_trit : (e : ℕ) {v w : Vector} → v ≡ w → trit v e ≡ trit w e
at_trit e p = ap (λ (x : Vector). trit x e) p

low_agree : (n : ℕ) (t : List ℕ) (e : ℕ) → low.Agree 3 n (poly_at n (take (2 * count_of n) t) e) (low_of (cubic_at n t e))
low_agree n t e = record {
  const = cof (poly_const n (take (2 * count_of n) t) e ∙ at_trit e (entry_take (count_of n) t 0 (omega (arith, count_is n))) ∙ sym (const_at n t e));
  lin = λ i h. cof (poly_lin n (take (2 * count_of n) t) e i ∙ at_trit e (entry_take (count_of n) t (1 + i) (omega (arith, count_is n))) ∙ sym (lin_at n t e i));
  quad = λ i j h k. cof (poly_quad n (take (2 * count_of n) t) e i j ∙ at_trit e (entry_take (count_of n) t (index_of n i j) (index_lt n i j h k)) ∙ sym (quad_at n t e i j));
}

module _ (n m : ℕ) (c : List ℕ) (w : CubicTable n m c) where
  pub differences_made : Made n m false c (cubic_differences n m c)
  unfolding cubic_differences
  differences_made = record {
    there = λ i b x d h l p o. cubic_entry_is n m (λ e. table_cubic n (cubic_at n c e)) (triple_index n b x d) _ (triple_lt n b x d h l p o) (λ e z.
        cof (cubic_nth_cube n (table_cubic n (cubic_at n c e)) b x d h l p o) ⨾ table_cell n (cubic_at n c e) (brackets_at n c e) (brackets_agree n c e) b x d h l p o);
    here = λ i. absurd (clash i);
  }

  pub differences_shifted : Shifted n m false c (differences_of n m (take (2 * count_of n) c)) (cubic_differences n m c)
  unfolding cubic_differences
  differences_shifted = record {
    first = cubic_entry_is n m (λ e. table_cubic n (cubic_at n c e)) 0 (trit (entry c 0)) (omega (arith, cubic_count_is n, count_is n)) (λ e z.
        cof (cubic_nth_const n (table_cubic n (cubic_at n c e)) ∙ table_const_is n (cubic_at n c e)) ⨾ entry_const (cubic_at n c e) n ⨾ cof (const_at n c e))
        ∙ sym (sym (differences_first n m (take (2 * count_of n) c) (take_table n m c w)) ∙ entry_take (count_of n) c 0 (omega (arith, count_is n)) ∙ of_self m (entry c 0) (w.legal 0 (omega (arith, cubic_count_is n, count_is n))));
    single = λ b l. cubic_entry_is n m (λ e. table_cubic n (cubic_at n c e)) (1 + b) _ (omega (arith, cubic_count_is n, count_is n)) (λ e z.
        cof (cubic_nth_lin n (table_cubic n (cubic_at n c e)) b l) ⨾ table_single n (cubic_at n c e) (cube_none n c e) (brackets_at n c e) (brackets_agree n c e) b l
        ⨾ cadd (csym ((low.table_agree 3 two n (poly_at n (take (2 * count_of n) c) e) (low_of (cubic_at n c e)) (low_agree n c e)).lin b l) ⨾ cof (sym (lin_holds n m (take (2 * count_of n) c) e z b l))) (cof (one _)));
    pair = λ b d h l. cubic_entry_is n m (λ e. table_cubic n (cubic_at n c e)) (index_of n b d) _ (omega (arith, cubic_count_is n, index_lt n b d h l)) (λ e z.
        cof (cubic_nth_quad n (table_cubic n (cubic_at n c e)) b d h l) ⨾ table_pair n (cubic_at n c e) (cube_none n c e) (brackets_at n c e) (brackets_agree n c e) b d h l
        ⨾ cadd (csym ((low.table_agree 3 two n (poly_at n (take (2 * count_of n) c) e) (low_of (cubic_at n c e)) (low_agree n c e)).quad b d h l) ⨾ cof (sym (quad_holds n m (take (2 * count_of n) c) e z b d h l))) (cof (one _)));
  }
    where
      one : (x : ℕ) → x ≡ 1 * x
      one x = omega arith

-- ---- written whole
pub whole_is : (n m : ℕ) (g old t u : List ℕ) → CubicTable n m g → length old ≡ 2 * cubic_count n → Written g 0 (count_of n) old t → Written g (count_of n) (cubic_count n) t u → u ≡ g
whole_is n m g old t u w l x y =
    entries_ext (cubic_count n) u g (y.size ∙ x.size ∙ l) w.size
    (λ k h. by_cases (dec_lt k (count_of n)) (λ z. y.kept k (λ a b. omega arith) ∙ x.here k (omega arith) z) (λ z. y.here k (omega arith) h))

-- Over F3 every cubic table comes from a system, and from one only.
use mathlib.Core.Path.{◌≡◌, refl, sym, ap, ◌∙◌}
use mathlib.Core.Logic.{by_cases}
use mathlib.Core.List.{List, [], ◌∷◌}
use Prim.Native.Nat.{ℕ, zero, suc, ◌+◌, ◌-◌, ◌*◌, ◌^◌, ◌<◌, ◌≤◌}
use native.Mathlib.Decide.{ℕ_discrete}
use native.Mathlib.Omega.{arith}
use Rattle.residues.proofs.ModLaw.{Cong, crefl, cof, csym, ◌⨾◌, cdrop, cadd, cmul, cwhole, cancel}
use Rattle.residues.proofs.SumLaw.{same_self, same_other, sum_cong}
use Rattle.gray.specs.Numbers.{point_digit}
use Rattle.polynomials.specs.Poly.{Poly, table_of, back_of, prev_of}
use Rattle.held.proofs.PointLaw.{point_none}
use Rattle.polynomials.proofs.FormLaw.{half_three}
use Rattle.polynomials.proofs.TableLaw.{back_same, back_other, table_back_lin, table_back_same, table_back_other, back_table_lin, back_table_same, back_table_other}
use Rattle.held.specs.Held.{first_of, change, entry, along}
use Rattle.cubics.specs.Cubic.{Cubic, low_of, cubes_of, cubic_of}
use Rattle.cubics.specs.Derived.{eval3}
use Rattle.cubics.specs.Triples.{Triples, table_of3, back_of3}
use Rattle.cubics.specs.Whole.{cubes_from, entries_of, cubes_back, low_table, back_cubic}
use Rattle.cubics.proofs.CubicLaw.{ext_cubic}
use Rattle.cubics.proofs.CubicFormLaw.{eval3_is}
use Rattle.cubics.proofs.LinearLaw.{entry_like, cubic_lin, cubic_quad}
use Rattle.cubics.proofs.BackLaw.{table_back_two, table_back_all}
use Rattle.cubics.proofs.BracketLaw.{triples_of, all_same, all_other, entry_two, entry_all}
use Rattle.cubics.proofs.AlikeLaw.{Agree, table_like, table_agree}
use Rattle.held.proofs.ExactLaw.{pair_place, triple_same, triple_over}

two : 1 < 3
two = omega arith

three : 2 < 3
three = omega arith

pos : 0 < 3
pos = omega arith

-- ---- coefficients from brackets
module _ (t : Triples) where
  pub from_none : (i : ℕ) → cubes_from t i i i ≡ 0
  unfolding cubes_from
  from_none i = rw (same_self i, cubes_from) (rw (same_self i, cubes_from))

  pub from_two : (i k : ℕ) → (i ≡ k → ⊥) → cubes_from t i i k ≡ 2 * t.two i k
  unfolding cubes_from
  from_two i k n = rw (same_self i, same_other i k n, cubes_from)

  pub from_last : (i j : ℕ) → (i ≡ j → ⊥) → cubes_from t i j j ≡ 2 * t.all i j j
  unfolding cubes_from
  from_last i j n = rw (same_other i j n, same_self j, cubes_from)

  pub from_all : (i j k : ℕ) → (i ≡ j → ⊥) → (j ≡ k → ⊥) → cubes_from t i j k ≡ t.all i j k
  unfolding cubes_from
  from_all i j k n m = rw (same_other i j n, same_other j k m, cubes_from)

four : (x : ℕ) → Cong 3 (2 * (2 * x)) x
four x = cof (is x) ⨾ cwhole x x
  where
    is : (x : ℕ) → 2 * (2 * x) ≡ x + 3 * x
    is x = omega arith

pub from_agree : (n : ℕ) (t : Triples) (f : Cubic) → ((i j k : ℕ) → f.cube i j k ≡ cubes_from t i j k) → Agree n (triples_of f) t
unfolding triples_of
from_agree n t f e = record {
  two = λ b d l m. cof (ap (λ (x : ℕ). 2 * x) (e b b d ∙ from_two t b d (λ i. omega arith))) ⨾ four (t.two b d);
  all = λ b c d l m o.
      by_cases (ℕ_discrete c d)
      (λ (i : c ≡ d). rw (← i) (cof (all_same f b c ∙ ap (λ (x : ℕ). 2 * x) (e b c c ∙ from_last t b c (λ i. omega arith))) ⨾ four (t.all b c c)))
      (λ i. cof (all_other f b c d i ∙ e b c d ∙ from_all t b c d (λ i. omega arith) i));
}

-- ---- cubes with the same coefficients
module _ (n : ℕ) (f g : Cubic) (same-cubes : (i d e : ℕ) → i + d + e < n → Cong 3 (f.cube i (i + d) (i + d + e)) (g.cube i (i + d) (i + d + e))) where
  cubes_like : (x : ℕ → ℕ) → Cong 3 (cubes_of f n x) (cubes_of g n x)
  unfolding cubes_of
  cubes_like x = sum_cong 3 n _ _ (λ i a. sum_cong 3 (n - i) _ _ (λ d b. sum_cong 3 (n - (i + d)) _ _ (λ e c. cmul (same-cubes i d e (omega arith)) (crefl (x i * (x (i + d) * x (i + d + e)))))))

  pub cubes_entry : (L : List ℕ) → Cong 3 (entry 3 (along 3 (cubes_of f n)) L) (entry 3 (along 3 (cubes_of g n)) L)
  cubes_entry L = entry_like 3 (along 3 (cubes_of f n)) (along 3 (cubes_of g n)) (λ p. cubes_like (point_digit 3 p)) L

-- ---- the constant
eval3_none : (f : Cubic) (n : ℕ) → eval3 f n (λ k. 0) ≡ f.const
unfolding eval3
eval3_none f zero = refl
eval3_none f (suc n) = omega (arith, eval3_none f n)

pub entry_const : (f : Cubic) (n : ℕ) → Cong 3 (entry 3 (along 3 (cubic_of f n)) []) f.const
unfolding entry change first_of
entry_const f n = ext_cubic 3 pos f n (point_digit 3 0) (λ k. 0) (λ k. point_none 3 two k) ⨾ cof (sym (eval3_is f (λ k. 0) n) ∙ eval3_none f n)

-- ---- every table comes from a system
module _ (n : ℕ) (t : Cubic) where
  cube_is : (i j k : ℕ) → (back_cubic n t).cube i j k ≡ cubes_from (back_of3 (entries_of t)) i j k
  unfolding back_cubic
  cube_is i j k = refl

  low_is : low_of (back_cubic n t) ≡ back_of 3 2 (low_table n t)
  unfolding back_cubic
  low_is = refl

  agree : Agree n (table_of3 (triples_of (back_cubic n t))) (table_of3 (back_of3 (entries_of t)))
  agree = table_like n (triples_of (back_cubic n t)) (back_of3 (entries_of t)) (from_agree n (back_of3 (entries_of t)) (back_cubic n t) cube_is)

  pub table_two : (b d : ℕ) → b < d → d < n → Cong 3 (entry 3 (along 3 (cubic_of (back_cubic n t) n)) (b ∷ b ∷ d ∷ [])) (t.cube b b d)
  table_two b d l m = entry_two (back_cubic n t) n b d (3 ^ b + (3 ^ b + 3 ^ d)) [] (triple_same 3 two three b d l) l m ⨾ agree.two b d l m ⨾ table_back_two (entries_of t) b d l

  pub table_all : (b c d : ℕ) → b < c → c ≤ d → d < n → Cong 3 (entry 3 (along 3 (cubic_of (back_cubic n t) n)) (b ∷ c ∷ d ∷ [])) (t.cube b c d)
  table_all b c d l m o = entry_all (back_cubic n t) n b c d (3 ^ b + (3 ^ c + 3 ^ d)) [] (triple_over 3 two three b c d l m) l m o ⨾ agree.all b c d l m o ⨾ table_back_all (entries_of t) b c d l m

  cubes_alone : (L : List ℕ) → Cong 3 (entry 3 (along 3 (cubes_of (back_cubic n t) n)) L) (entry 3 (along 3 (cubes_of (cubes_back t) n)) L)
  cubes_alone L = cubes_entry n (back_cubic n t) (cubes_back t) (λ i d e l. cof (cube_is i (i + d) (i + d + e))) L

  third : (a x y : ℕ) → Cong 3 y x → Cong 3 (a + 2 * x + y) a
  third a x y e = cadd (crefl (a + 2 * x)) e ⨾ cof (is a x) ⨾ cwhole a x
    where
      is : (a x : ℕ) → a + 2 * x + x ≡ a + 3 * x
      is a x = omega arith

  pub table_quad : (b c : ℕ) → b ≤ c → c < n → Cong 3 (entry 3 (along 3 (cubic_of (back_cubic n t) n)) (b ∷ c ∷ [])) (t.quad b c)
  table_quad b c l m =
      let p = pair_place 3 two three b c n l m in
      cubic_quad 3 two (back_cubic n t) n b c p.0 [] p.1 (omega arith) p.2
      ⨾ cadd (cof (ap (λ (h : Poly). (table_of 3 h).quad b c) low_is) ⨾ by_cases (ℕ_discrete b c)
      (λ (e : b ≡ c). rw (← e) (table_back_same 3 two 2 half_three (low_table n t) b)) (λ e. table_back_other 3 two 2 half_three (low_table n t) b c e)) (crefl _)
      ⨾ third (t.quad b c) (entry 3 (along 3 (cubes_of (cubes_back t) n)) (b ∷ c ∷ [])) _ (cubes_alone (b ∷ c ∷ []))

  pub table_lin : (b : ℕ) → b < n → Cong 3 (entry 3 (along 3 (cubic_of (back_cubic n t) n)) (b ∷ [])) (t.lin b)
  table_lin b l =
      cubic_lin 3 two (back_cubic n t) n b l
      ⨾ cadd (cof (ap (λ (h : Poly). (table_of 3 h).lin b) low_is) ⨾ table_back_lin 3 two 2 half_three (low_table n t) b) (crefl _)
      ⨾ third (t.lin b) (entry 3 (along 3 (cubes_of (cubes_back t) n)) (b ∷ [])) _ (cubes_alone (b ∷ []))

  pub table_const : Cong 3 (entry 3 (along 3 (cubic_of (back_cubic n t) n)) []) t.const
  unfolding back_cubic back_of
  table_const = entry_const (back_cubic n t) n ⨾ cdrop t.const

-- ---- and from one only
half_again : (a b : ℕ) → Cong 3 (2 * a) (2 * b) → Cong 3 a b
half_again a b e = csym (four a) ⨾ cmul (crefl 2) e ⨾ four b

-- coefficients from the table of degree 2, where it is known below n
module _ (n : ℕ) (s t : Poly) (lin : (b : ℕ) → b < n → Cong 3 (s.lin b) (t.lin b)) (quad : (b c : ℕ) → b ≤ c → c < n → Cong 3 (s.quad b c) (t.quad b c)) where
  prev_like : (i : ℕ) → i < n → Cong 3 (prev_of 3 s i) (prev_of 3 t i)
  unfolding prev_of
  prev_like zero l = crefl 0
  prev_like (suc i) l = cdrop _ ⨾ cadd (cadd (quad i (suc i) (omega arith) l) (prev_like i (omega arith))) (cmul (crefl 2) (quad i i (omega arith) (omega arith))) ⨾ csym (cdrop _)

  quad_like : (i j : ℕ) → i ≤ j → j < n → Cong 3 ((back_of 3 2 s).quad i j) ((back_of 3 2 t).quad i j)
  quad_like i j l m =
      by_cases (ℕ_discrete i j)
      (λ (e : i ≡ j). rw (← e) (cof (back_same 3 two 2 half_three s i) ⨾ cdrop _ ⨾ cmul (crefl 2) (cadd (quad i i (omega arith) (omega arith)) (prev_like i (omega arith))) ⨾ csym (cdrop _) ⨾ cof (sym (back_same 3 two 2 half_three t i))))
      (λ e. cof (back_other 3 two 2 half_three s i j e) ⨾ cdrop _ ⨾ cadd (cadd (quad i j l m) (prev_like i (omega arith))) (cmul (crefl 2) (quad i i (omega arith) (omega arith))) ⨾ csym (cdrop _) ⨾ cof (sym (back_other 3 two 2 half_three t i j e)))

  lin_like : (i : ℕ) → i < n → Cong 3 ((back_of 3 2 s).lin i) ((back_of 3 2 t).lin i)
  unfolding back_of
  lin_like i l =
      cdrop _ ⨾ cadd (cadd (lin i l) (prev_like i l)) (cmul (crefl 2) (cmul (crefl 2) (cadd (quad i i (omega arith) l) (prev_like i l)))) ⨾ csym (cdrop _)

-- two systems without xi xi xi whose tables are the same below n
pub record SameTable (n : ℕ) (f g : Cubic) : Type 0 where
  pub none_left : (i : ℕ) → Cong 3 (f.cube i i i) 0
  pub none_right : (i : ℕ) → Cong 3 (g.cube i i i) 0
  pub const : Cong 3 (entry 3 (along 3 (cubic_of f n)) []) (entry 3 (along 3 (cubic_of g n)) [])
  pub lin : (b : ℕ) → b < n → Cong 3 (entry 3 (along 3 (cubic_of f n)) (b ∷ [])) (entry 3 (along 3 (cubic_of g n)) (b ∷ []))
  pub quad : (b c : ℕ) → b ≤ c → c < n → Cong 3 (entry 3 (along 3 (cubic_of f n)) (b ∷ c ∷ [])) (entry 3 (along 3 (cubic_of g n)) (b ∷ c ∷ []))
  pub two : (b d : ℕ) → b < d → d < n → Cong 3 (entry 3 (along 3 (cubic_of f n)) (b ∷ b ∷ d ∷ [])) (entry 3 (along 3 (cubic_of g n)) (b ∷ b ∷ d ∷ []))
  pub all : (b c d : ℕ) → b < c → c ≤ d → d < n → Cong 3 (entry 3 (along 3 (cubic_of f n)) (b ∷ c ∷ d ∷ [])) (entry 3 (along 3 (cubic_of g n)) (b ∷ c ∷ d ∷ []))

module _ (n : ℕ) (f g : Cubic) (s : SameTable n f g) where
  tables_agree : Agree n (table_of3 (triples_of f)) (table_of3 (triples_of g))
  tables_agree = record {
    two = λ b d l m. let e = triple_same 3 two three b d l in
        csym (entry_two f n b d (3 ^ b + (3 ^ b + 3 ^ d)) [] e l m) ⨾ s.two b d l m ⨾ entry_two g n b d (3 ^ b + (3 ^ b + 3 ^ d)) [] e l m;
    all = λ b c d l m o. let e = triple_over 3 two three b c d l m in
        csym (entry_all f n b c d (3 ^ b + (3 ^ c + 3 ^ d)) [] e l m o) ⨾ s.all b c d l m o ⨾ entry_all g n b c d (3 ^ b + (3 ^ c + 3 ^ d)) [] e l m o;
  }

  brackets : Agree n (triples_of f) (triples_of g)
  brackets = table_agree n (triples_of f) (triples_of g) tables_agree

  pub same_cube : (i j k : ℕ) → i ≤ j → j ≤ k → k < n → Cong 3 (f.cube i j k) (g.cube i j k)
  unfolding triples_of
  same_cube i j k l m o =
      by_cases (ℕ_discrete i j)
      (λ (e : i ≡ j). rw (← e) (by_cases (ℕ_discrete i k)
      (λ (d : i ≡ k). rw (← d) (s.none_left i ⨾ csym (s.none_right i)))
      (λ d. half_again _ _ (brackets.two i k (omega arith) o))))
      (λ e. by_cases (ℕ_discrete j k)
      (λ (d : j ≡ k). rw (← d) (half_again _ _ (cof (sym (all_same f i j)) ⨾ brackets.all i j j (omega arith) (omega arith) (omega arith) ⨾ cof (all_same g i j))))
      (λ d. cof (sym (all_other f i j k d)) ⨾ brackets.all i j k (omega arith) m o ⨾ cof (all_other g i j k d)))

  cubes_same : (L : List ℕ) → Cong 3 (entry 3 (along 3 (cubes_of f n)) L) (entry 3 (along 3 (cubes_of g n)) L)
  cubes_same L = cubes_entry n f g (λ i d e l. same_cube i (i + d) (i + d + e) (omega arith) (omega arith) l) L

  low_quad : (b c : ℕ) → b ≤ c → c < n → Cong 3 ((table_of 3 (low_of f)).quad b c) ((table_of 3 (low_of g)).quad b c)
  low_quad b c l m =
      let p = pair_place 3 two three b c n l m in
      cancel pos (entry 3 (along 3 (cubes_of g n)) (b ∷ c ∷ []))
      (cadd (crefl _) (csym (cubes_same (b ∷ c ∷ []))) ⨾ csym (cubic_quad 3 two f n b c p.0 [] p.1 (omega arith) p.2) ⨾ s.quad b c l m ⨾ cubic_quad 3 two g n b c p.0 [] p.1 (omega arith) p.2)

  low_lin : (b : ℕ) → b < n → Cong 3 ((table_of 3 (low_of f)).lin b) ((table_of 3 (low_of g)).lin b)
  low_lin b l =
      cancel pos (entry 3 (along 3 (cubes_of g n)) (b ∷ []))
      (cadd (crefl _) (csym (cubes_same (b ∷ []))) ⨾ csym (cubic_lin 3 two f n b l) ⨾ s.lin b l ⨾ cubic_lin 3 two g n b l)

  pub same_quad : (b c : ℕ) → b ≤ c → c < n → Cong 3 (f.quad b c) (g.quad b c)
  same_quad b c l m = csym (back f b c) ⨾ quad_like n (table_of 3 (low_of f)) (table_of 3 (low_of g)) low_lin low_quad b c l m ⨾ back g b c
    where
      back : (h : Cubic) (b c : ℕ) → Cong 3 ((back_of 3 2 (table_of 3 (low_of h))).quad b c) (h.quad b c)
      back h b c = by_cases (ℕ_discrete b c) (λ (e : b ≡ c). rw (← e) (back_table_same 3 two 2 half_three (low_of h) b)) (λ e. back_table_other 3 two 2 half_three (low_of h) b c e)

  pub same_lin : (b : ℕ) → b < n → Cong 3 (f.lin b) (g.lin b)
  same_lin b l =
      csym (back_table_lin 3 two 2 half_three (low_of f) b) ⨾ lin_like n (table_of 3 (low_of f)) (table_of 3 (low_of g)) low_lin low_quad b l ⨾ back_table_lin 3 two 2 half_three (low_of g) b

  pub same_const : Cong 3 f.const g.const
  same_const = csym (entry_const f n) ⨾ s.const ⨾ entry_const g n

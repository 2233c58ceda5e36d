-- Coefficients and differences give back each other: every legal cubic table comes from exactly one system.
use mathlib.Core.Path.{◌≡◌, sym, ap, ap₂, ◌∙◌}
use mathlib.Core.Logic.{by_cases}
use mathlib.Core.List.{List, [], ◌∷◌}
use Prim.Native.Nat.{ℕ, ◌+◌, ◌-◌, ◌*◌, ◌≤◌, ◌<◌}
use native.Mathlib.Decide.{ℕ_discrete}
use native.Mathlib.Omega.{arith}
use Rattle.residues.proofs.SumLaw.{sum_cong}
use Rattle.residues.proofs.ModLaw.{Cong, crefl, cof, ◌⨾◌, cadd, cmul}
use Rattle.gray.specs.Numbers.{point_digit}
use Rattle.polynomials.specs.Poly.{value_of}
use Rattle.held.specs.Held as held
use Rattle.cubics.specs.Cubic.{Cubic, cubes_of, cubic_of}
use Rattle.cubics.specs.Whole.{back_cubic}
use Rattle.cubics.proofs.LinearLaw.{entry_like}
use Rattle.cubics.proofs.OneSystemLaw.{table_const, table_lin, table_quad, table_two, table_all, SameTable, same_const, same_lin, same_quad, same_cube}
use Rattle.cubic_tables.specs.Words.{CubicTable, cubic_at, table_cubic, cubic_differences, cubic_coefficients}
use Rattle.cubic_tables.proofs.WordsLaw.{Alike, cube_none, cubic_words_hold, cubic_words_ext, is_cubic_words}
use Rattle.cubic_differences.proofs.FormLaw.{table_const_is, table_lin_is, table_quad_is, table_cube_is, cubic_coefficients_table}
use Rattle.cubic_coefficients.proofs.ReturnLaw.{back_none}

-- ---- systems that are alike have the same values
module _ (n : ℕ) (f g : Cubic) (a : Alike n f g) (left : (i : ℕ) → f.cube i i i ≡ 0) (right : (i : ℕ) → g.cube i i i ≡ 0) where
  cube_like : (i j k : ℕ) → i ≤ j → j ≤ k → k < n → Cong 3 (f.cube i j k) (g.cube i j k)
  cube_like i j k h l o =
      by_cases (ℕ_discrete i k)
      (λ (e : i ≡ k).
      let p : j ≡ i = omega arith in
      cof (ap₂ (f.cube i) p (sym e) ∙ left i ∙ sym (right i) ∙ sym (ap₂ (g.cube i) p (sym e))))
      (λ e. a.cube i j k h l (omega arith) o)

  value_like : (x : ℕ → ℕ) → Cong 3 (cubic_of f n x) (cubic_of g n x)
  unfolding cubic_of value_of cubes_of
  value_like x =
      cadd (cadd (cadd a.const (sum_cong 3 n _ _ (λ i l. cmul (a.lin i l) (crefl (x i)))))
      (sum_cong 3 n _ _ (λ i l. sum_cong 3 (n - i) _ _ (λ d m. cmul (a.quad i (i + d) (omega arith) (omega arith)) (crefl (x i * x (i + d)))))))
      (sum_cong 3 n _ _ (λ i l. sum_cong 3 (n - i) _ _ (λ d m. sum_cong 3 (n - (i + d)) _ _ (λ e o. cmul (cube_like i (i + d) (i + d + e) (omega arith) (omega arith) (omega arith)) (crefl (x i * (x (i + d) * x (i + d + e))))))))

  entry_alike : (L : List ℕ) → Cong 3 (held.entry 3 (held.along 3 (cubic_of f n)) L) (held.entry 3 (held.along 3 (cubic_of g n)) L)
  entry_alike L = entry_like 3 (held.along 3 (cubic_of f n)) (held.along 3 (cubic_of g n)) (λ p. value_like (point_digit 3 p)) L

  pub tables_alike : Alike n (table_cubic n f) (table_cubic n g)
  tables_alike = record {
    const = cof (table_const_is n f) ⨾ entry_alike [] ⨾ cof (sym (table_const_is n g));
    lin = λ b l. cof (table_lin_is n f b) ⨾ entry_alike (b ∷ []) ⨾ cof (sym (table_lin_is n g b));
    quad = λ b c h l. cof (table_quad_is n f b c) ⨾ entry_alike (b ∷ c ∷ []) ⨾ cof (sym (table_quad_is n g b c));
    cube = λ b c d h l m o. cof (table_cube_is n f b c d) ⨾ entry_alike (b ∷ c ∷ d ∷ []) ⨾ cof (sym (table_cube_is n g b c d));
  }

pub alike_join : (n : ℕ) (f g h : Cubic) → Alike n f g → Alike n g h → Alike n f h
alike_join n f g h a b = record {
  const = a.const ⨾ b.const;
  lin = λ i l. a.lin i l ⨾ b.lin i l;
  quad = λ i j l m. a.quad i j l m ⨾ b.quad i j l m;
  cube = λ i j k l m o p. a.cube i j k l m o p ⨾ b.cube i j k l m o p;
}

-- the table of the way back
pub table_of_back : (n : ℕ) (t : Cubic) → Alike n (table_cubic n (back_cubic n t)) t
table_of_back n t = record {
  const = cof (table_const_is n (back_cubic n t)) ⨾ table_const n t;
  lin = λ b l. cof (table_lin_is n (back_cubic n t) b) ⨾ table_lin n t b l;
  quad = λ b c h l. cof (table_quad_is n (back_cubic n t) b c) ⨾ table_quad n t b c h l;
  cube = λ b c d h l m o. cof (table_cube_is n (back_cubic n t) b c d) ⨾ by_cases (ℕ_discrete b c)
      (λ (e : b ≡ c). rw (← e) (table_two n t b d m o)) (λ e. table_all n t b c d (omega arith) l o);
}

-- and the way back of a table
pub back_of_table : (n : ℕ) (t g : Cubic) → ((i : ℕ) → g.cube i i i ≡ 0) → Alike n t (table_cubic n g) → Alike n (back_cubic n t) g
back_of_table n t g free a = record {
  const = same_const n (back_cubic n t) g s;
  lin = same_lin n (back_cubic n t) g s;
  quad = same_quad n (back_cubic n t) g s;
  cube = λ b c d h l m o. same_cube n (back_cubic n t) g s b c d h l o;
}
  where
    b : Alike n (table_cubic n (back_cubic n t)) (table_cubic n g)
    b = alike_join n (table_cubic n (back_cubic n t)) t (table_cubic n g) (table_of_back n t) a

    s : SameTable n (back_cubic n t) g
    s = record {
      none_left = λ i. cof (back_none n t i);
      none_right = λ i. cof (free i);
      const = cof (sym (table_const_is n (back_cubic n t))) ⨾ b.const ⨾ cof (table_const_is n g);
      lin = λ i l. cof (sym (table_lin_is n (back_cubic n t) i)) ⨾ b.lin i l ⨾ cof (table_lin_is n g i);
      quad = λ i j h l. cof (sym (table_quad_is n (back_cubic n t) i j)) ⨾ b.quad i j h l ⨾ cof (table_quad_is n g i j);
      two = λ i k l o. cof (sym (table_cube_is n (back_cubic n t) i i k)) ⨾ b.cube i i k (omega arith) (omega arith) l o ⨾ cof (table_cube_is n g i i k);
      all = λ i j k l m o. cof (sym (table_cube_is n (back_cubic n t) i j k)) ⨾ b.cube i j k (omega arith) m (omega arith) o ⨾ cof (table_cube_is n g i j k);
    }

-- ---- on words
pub differences_hold : (n m : ℕ) (c : List ℕ) (e : ℕ) → e < m → Alike n (cubic_at n (cubic_differences n m c) e) (table_cubic n (cubic_at n c e))
unfolding cubic_differences
differences_hold n m c e l = cubic_words_hold n m (λ e. table_cubic n (cubic_at n c e)) e l

pub coefficients_hold : (n m : ℕ) (t : List ℕ) (e : ℕ) → e < m → Alike n (cubic_at n (cubic_coefficients n m t) e) (back_cubic n (cubic_at n t e))
unfolding cubic_coefficients
coefficients_hold n m t e l = cubic_words_hold n m (λ e. back_cubic n (cubic_at n t e)) e l

pub there_and_back : (n m : ℕ) (c : List ℕ) → CubicTable n m c → cubic_coefficients n m (cubic_differences n m c) ≡ c
unfolding cubic_coefficients
there_and_back n m c l =
    cubic_words_ext n m (λ e. back_cubic n (cubic_at n (cubic_differences n m c) e)) (cubic_at n c)
    (λ e z. back_of_table n (cubic_at n (cubic_differences n m c) e) (cubic_at n c e) (cube_none n c e) (differences_hold n m c e z))
    ∙ sym (is_cubic_words n m c l)

pub back_and_there : (n m : ℕ) (t : List ℕ) → CubicTable n m t → cubic_differences n m (cubic_coefficients n m t) ≡ t
unfolding cubic_differences
back_and_there n m t l =
    cubic_words_ext n m (λ e. table_cubic n (cubic_at n (cubic_coefficients n m t) e)) (cubic_at n t)
    (λ e z. alike_join n (table_cubic n (cubic_at n (cubic_coefficients n m t) e)) (table_cubic n (back_cubic n (cubic_at n t e))) (cubic_at n t e)
    (tables_alike n (cubic_at n (cubic_coefficients n m t) e) (back_cubic n (cubic_at n t e)) (coefficients_hold n m t e z) (cube_none n (cubic_coefficients n m t) e) (back_none n (cubic_at n t e)))
    (table_of_back n (cubic_at n t e)))
    ∙ sym (is_cubic_words n m t l)

-- c is the one legal coefficient table whose differences are t
pub record OnlyCubic (n m : ℕ) (t c : List ℕ) : Type 0 where
  pub legal : CubicTable n m c
  pub gives : cubic_differences n m c ≡ t
  pub only : (d : List ℕ) → CubicTable n m d → cubic_differences n m d ≡ t → d ≡ c

-- every legal table comes from exactly one system
pub one_system : (n m : ℕ) (t : List ℕ) → CubicTable n m t → OnlyCubic n m t (cubic_coefficients n m t)
one_system n m t l =
    record {
      legal = cubic_coefficients_table n m t;
      gives = back_and_there n m t l;
      only = λ d k e. sym (there_and_back n m d k) ∙ ap (cubic_coefficients n m) e;
    }

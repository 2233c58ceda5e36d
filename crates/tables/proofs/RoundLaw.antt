-- Coefficients and differences give back each other: the words of a system are read back modulo 3, and the formulas need no more.
use mathlib.Core.Path.{◌≡◌, sym, ap, ◌∙◌}
use mathlib.Core.List.{List}
use Prim.Native.Nat.{ℕ, ◌+◌, ◌*◌, ◌<◌}
use native.Mathlib.Nat.{mod-lt, mod-eq_of_lt}
use native.Mathlib.Omega.{arith}
use lib.IntN.{ℤ, pos, negsuc}
use lib.ListN.{get_or}
use Rattle.residues.specs.Residue.{floor_mod}
use Rattle.residues.proofs.ModLaw.{cof, ◌⨾◌, cdrop}
use Rattle.trits.specs.Trit.{trit, of_trits}
use Rattle.trits.specs.declared.Vector.{Vector}
use Rattle.trits.proofs.ExtLaw.{trit_of}
use Rattle.polynomials.specs.Poly.{Poly, table_of, back_of}
use Rattle.polynomials.proofs.FormLaw.{half_three}
use Rattle.tables.specs.Monomials.{count_of, nth}
use Rattle.tables.specs.Words.{Table, poly_at, words_of, packed, differences_of, coefficients_of}
use Rattle.tables.proofs.AgreeLaw.{Agree, agree_trans, agree_nth, table_agree, back_agree, back_of_table, table_of_back}
use Rattle.tables.proofs.WordLaw.{entry_tabled, const_words, lin_words, quad_words, nth_poly, words_table, table_of_lem, is_words, words_ext}

two : 1 < 3
two = omega arith

-- what a table of words holds, and the system that it was made from
pub words_agree : (n m : ℕ) (F : ℕ → Poly) (e : ℕ) → e < m → Agree 3 n (poly_at n (words_of n m F) e) (F e)
words_agree n m F e l =
    record {
      const = cof (const_words n m F e l) ⨾ cdrop _;
      lin = λ i h. cof (lin_words n m F e i l h) ⨾ cdrop _;
      quad = λ i j h k. cof (quad_words n m F e i j l h k) ⨾ cdrop _;
    }

agree_words : (n m : ℕ) (F G : ℕ → Poly) → ((e : ℕ) → e < m → Agree 3 n (F e) (G e)) → words_of n m F ≡ words_of n m G
agree_words n m F G h = words_ext n m F G (λ e l k z. (agree_nth 3 n (F e) (G e) (h e l) k z).same)

-- both are legal tables
pub differences_table : (n m : ℕ) (c : List ℕ) → Table n m (differences_of n m c)
unfolding differences_of
differences_table n m c = words_table n m (λ e. table_of 3 (poly_at n c e))

pub coefficients_table : (n m : ℕ) (t : List ℕ) → Table n m (coefficients_of n m t)
unfolding coefficients_of
coefficients_table n m t = words_table n m (λ e. back_of 3 2 (poly_at n t e))

-- what they hold
pub differences_hold : (n m : ℕ) (c : List ℕ) (e : ℕ) → e < m → Agree 3 n (poly_at n (differences_of n m c) e) (table_of 3 (poly_at n c e))
unfolding differences_of
differences_hold n m c e l = words_agree n m (λ e. table_of 3 (poly_at n c e)) e l

pub coefficients_hold : (n m : ℕ) (t : List ℕ) (e : ℕ) → e < m → Agree 3 n (poly_at n (coefficients_of n m t) e) (back_of 3 2 (poly_at n t e))
unfolding coefficients_of
coefficients_hold n m t e l = words_agree n m (λ e. back_of 3 2 (poly_at n t e)) e l

-- ---- the round trips
pub there_and_back : (n m : ℕ) (c : List ℕ) → Table n m c → coefficients_of n m (differences_of n m c) ≡ c
unfolding coefficients_of
there_and_back n m c l =
    agree_words n m (λ e. back_of 3 2 (poly_at n (differences_of n m c) e)) (poly_at n c)
    (λ e z. agree_trans
    (back_agree 3 two n (poly_at n (differences_of n m c) e) (table_of 3 (poly_at n c e)) (differences_hold n m c e z) 2 half_three)
    (back_of_table 3 two 2 half_three n (poly_at n c e)))
    ∙ sym (is_words n m c l)

pub back_and_there : (n m : ℕ) (t : List ℕ) → Table n m t → differences_of n m (coefficients_of n m t) ≡ t
unfolding differences_of
back_and_there n m t l =
    agree_words n m (λ e. table_of 3 (poly_at n (coefficients_of n m t) e)) (poly_at n t)
    (λ e z. agree_trans
    (table_agree 3 two n (poly_at n (coefficients_of n m t) e) (back_of 3 2 (poly_at n t e)) (coefficients_hold n m t e z))
    (table_of_back 3 two 2 half_three n (poly_at n t e)))
    ∙ sym (is_words n m t l)

-- c is the one legal coefficient table whose differences are t
pub record OnlySystem (n m : ℕ) (t c : List ℕ) : Type 0 where
  pub legal : Table n m c
  pub gives : differences_of n m c ≡ t
  pub only : (d : List ℕ) → Table n m d → differences_of n m d ≡ t → d ≡ c

-- every legal table comes from exactly one system
pub one_system : (n m : ℕ) (t : List ℕ) → Table n m t → OnlySystem n m t (coefficients_of n m t)
one_system n m t l =
    record {
      legal = coefficients_table n m t;
      gives = back_and_there n m t l;
      only = λ d k e. sym (there_and_back n m d k) ∙ ap (coefficients_of n m) e;
    }

-- ---- signed rows
pub packed_table : (n m : ℕ) (rows : List ℤ) → Table n m (packed n m rows)
unfolding packed
packed_table n m rows = table_of_lem n m (λ k e. floor_mod 3 (get_or rows (e * count_of n + k) (pos 0)))

-- coefficient k of equation e is the remainder of number k of row e
pub packed_holds : (n m : ℕ) (rows : List ℤ) (e k : ℕ) → e < m → k < count_of n
    → nth n (poly_at n (packed n m rows) e) k ≡ floor_mod 3 (get_or rows (e * count_of n + k) (pos 0))
unfolding packed
packed_holds n m rows e k l h =
    nth_poly n (packed n m rows) e k h
    ∙ ap (λ (v : Vector). trit v e) (entry_tabled (count_of n) (λ k. of_trits m (λ e. floor_mod 3 (get_or rows (e * count_of n + k) (pos 0)))) k h)
    ∙ trit_of m (λ e. floor_mod 3 (get_or rows (e * count_of n + k) (pos 0))) e l
    ∙ mod-eq_of_lt (floor_lt (get_or rows (e * count_of n + k) (pos 0)))
  where
    floor_lt : (c : ℤ) → floor_mod 3 c < 3
    floor_lt (pos x) = mod-lt x (omega arith)
    floor_lt (negsuc x) = omega arith

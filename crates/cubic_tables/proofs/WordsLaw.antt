-- A cubic table is its entries; a legal one is the words of its own system.
use mathlib.Core.Path.{◌≡◌, refl, sym, ap, ◌∙◌}
use mathlib.Core.List.{List}
use Prim.Native.Nat.{ℕ, ◌+◌, ◌%◌, ◌≤◌, ◌<◌}
use native.Mathlib.Nat.{mod-eq_of_lt}
use native.Mathlib.Omega.{arith}
use Rattle.residues.proofs.SumLaw.{same_self, same_other}
use Rattle.residues.proofs.ModLaw.{Cong, cof, ◌⨾◌, cdrop}
use Rattle.trits.specs.declared.Vector.{Vector}
use Rattle.trits.specs.Trit.{trit, of_trits}
use Rattle.trits.proofs.ExtLaw.{trit_of, legal_of, is_of, of_ext}
use Rattle.tables.specs.Monomials.{index_of}
use Rattle.tables.specs.Words.{entry}
use Rattle.tables.proofs.IndexLaw.{index_lt, count_is}
use Rattle.tables.proofs.WordLaw.{length_tabled, entry_tabled, is_tabled, tabled_ext}
use Rattle.trits.proofs.LegalLaw.{trit_lt}
use Rattle.cubics.specs.Cubic.{Cubic}
use Rattle.cubic_tables.specs.Order.{cubic_count, triple_index, cubic_nth}
use Rattle.cubic_tables.specs.Words.{CubicTable, cubic_at, cubic_words}
use Rattle.cubic_tables.proofs.OrderLaw.{triple_lt, cubic_count_is}
use Rattle.cubic_tables.proofs.NthLaw.{cubic_nth_const, cubic_nth_lin, cubic_nth_quad, cubic_nth_cube, by_cubic_monomial, cubic_nth_related}

-- the cubes of the system that a table holds
pub cube_at : (n : ℕ) (t : List ℕ) (e i j k : ℕ) → i < k → (cubic_at n t e).cube i j k ≡ trit (entry t (triple_index n i j k)) e
unfolding cubic_at
cube_at n t e i j k h = rw (same_other i k (λ z. omega arith), cubic_at)

pub cube_none : (n : ℕ) (t : List ℕ) (e i : ℕ) → (cubic_at n t e).cube i i i ≡ 0
unfolding cubic_at
cube_none n t e i = rw (same_self i, cubic_at)

pub const_at : (n : ℕ) (t : List ℕ) (e : ℕ) → (cubic_at n t e).const ≡ trit (entry t 0) e
unfolding cubic_at
const_at n t e = refl

pub lin_at : (n : ℕ) (t : List ℕ) (e i : ℕ) → (cubic_at n t e).lin i ≡ trit (entry t (1 + i)) e
unfolding cubic_at
lin_at n t e i = refl

pub quad_at : (n : ℕ) (t : List ℕ) (e i j : ℕ) → (cubic_at n t e).quad i j ≡ trit (entry t (index_of n i j)) e
unfolding cubic_at
quad_at n t e i j = refl

-- ---- systems and their words
pub entry_cubic : (n m : ℕ) (F : ℕ → Cubic) (k : ℕ) → k < cubic_count n → entry (cubic_words n m F) k ≡ of_trits m (λ e. cubic_nth n (F e) k)
unfolding cubic_words
entry_cubic n m F k h = entry_tabled (cubic_count n) (λ k. of_trits m (λ e. cubic_nth n (F e) k)) k h

pub cubic_words_table : (n m : ℕ) (F : ℕ → Cubic) → CubicTable n m (cubic_words n m F)
unfolding cubic_words
cubic_words_table n m F =
    record { size = length_tabled _ _; legal = λ k h. rw (entry_tabled (cubic_count n) (λ k. of_trits m (λ e. cubic_nth n (F e) k)) k h) (legal_of m (λ e. cubic_nth n (F e) k)) }

-- entry k of the words of a system, where coefficient k of each equation is known modulo 3
pub cubic_entry_is : (n m : ℕ) (F : ℕ → Cubic) (k : ℕ) (f : ℕ → ℕ) → k < cubic_count n → ((e : ℕ) → e < m → Cong 3 (cubic_nth n (F e) k) (f e)) → entry (cubic_words n m F) k ≡ of_trits m f
cubic_entry_is n m F k f h c = entry_cubic n m F k h ∙ of_ext m (λ e. cubic_nth n (F e) k) f (λ e l. (c e l).same)

pub trit_cubic : (n m : ℕ) (F : ℕ → Cubic) (k e : ℕ) → k < cubic_count n → e < m → Cong 3 (trit (entry (cubic_words n m F) k) e) (cubic_nth n (F e) k)
trit_cubic n m F k e h l = cof (ap (λ (v : Vector). trit v e) (entry_cubic n m F k h) ∙ trit_of m (λ e. cubic_nth n (F e) k) e l) ⨾ cdrop _

-- systems that are equal modulo 3, below n
pub record Alike (n : ℕ) (f g : Cubic) : Type 0 where
  pub const : Cong 3 f.const g.const
  pub lin : (i : ℕ) → i < n → Cong 3 (f.lin i) (g.lin i)
  pub quad : (i j : ℕ) → i ≤ j → j < n → Cong 3 (f.quad i j) (g.quad i j)
  pub cube : (b c d : ℕ) → b ≤ c → c ≤ d → b < d → d < n → Cong 3 (f.cube b c d) (g.cube b c d)

pub cubic_words_ext : (n m : ℕ) (F G : ℕ → Cubic) → ((e : ℕ) → e < m → Alike n (F e) (G e)) → cubic_words n m F ≡ cubic_words n m G
unfolding cubic_words
cubic_words_ext n m F G h =
    tabled_ext (cubic_count n) (λ k. of_trits m (λ e. cubic_nth n (F e) k)) (λ k. of_trits m (λ e. cubic_nth n (G e) k))
    (λ k l. of_ext m (λ e. cubic_nth n (F e) k) (λ e. cubic_nth n (G e) k)
    (λ e z. let a = h e z in (cubic_nth_related (Cong 3) n (F e) (G e) a.const a.lin a.quad a.cube k l).same))

-- the system that a table of words holds is the one that it was made from
pub cubic_words_hold : (n m : ℕ) (F : ℕ → Cubic) (e : ℕ) → e < m → Alike n (cubic_at n (cubic_words n m F) e) (F e)
cubic_words_hold n m F e l = record {
  const = cof (const_at n (cubic_words n m F) e) ⨾ trit_cubic n m F 0 e (omega (arith, cubic_count_is n, count_is n)) l ⨾ cof (cubic_nth_const n (F e));
  lin = λ i h. cof (lin_at n (cubic_words n m F) e i) ⨾ trit_cubic n m F (1 + i) e (omega (arith, cubic_count_is n, count_is n)) l ⨾ cof (cubic_nth_lin n (F e) i h);
  quad = λ i j h k. cof (quad_at n (cubic_words n m F) e i j) ⨾ trit_cubic n m F (index_of n i j) e (omega (arith, cubic_count_is n, index_lt n i j h k)) l ⨾ cof (cubic_nth_quad n (F e) i j h k);
  cube = λ b c d h k o p. cof (cube_at n (cubic_words n m F) e b c d o) ⨾ trit_cubic n m F (triple_index n b c d) e (triple_lt n b c d h k o p) l ⨾ cof (cubic_nth_cube n (F e) b c d h k o p);
}

-- coefficient k of the system that a table holds is its entry k
pub cubic_nth_at : (n : ℕ) (t : List ℕ) (e k : ℕ) → k < cubic_count n → cubic_nth n (cubic_at n t e) k ≡ trit (entry t k) e
cubic_nth_at n t e =
    by_cubic_monomial n (λ k. cubic_nth n (cubic_at n t e) k ≡ trit (entry t k) e) (cubic_nth_const n (cubic_at n t e) ∙ const_at n t e)
    (λ i h. cubic_nth_lin n (cubic_at n t e) i h ∙ lin_at n t e i) (λ i j h l. cubic_nth_quad n (cubic_at n t e) i j h l ∙ quad_at n t e i j)
    (λ b c d h l o p. cubic_nth_cube n (cubic_at n t e) b c d h l o p ∙ cube_at n t e b c d o)

-- a legal table is the words of the system that it holds
pub is_cubic_words : (n m : ℕ) (t : List ℕ) → CubicTable n m t → t ≡ cubic_words n m (cubic_at n t)
unfolding cubic_words
is_cubic_words n m t l =
    is_tabled (cubic_count n) (λ k. of_trits m (λ e. cubic_nth n (cubic_at n t e) k)) t l.size
    (λ k h. is_of m (λ e. cubic_nth n (cubic_at n t e) k) (entry t k) (l.legal k h)
    (λ e z. sym (mod-eq_of_lt (trit_lt (entry t k) e)) ∙ ap (λ (x : ℕ). x % 3) (sym (cubic_nth_at n t e k h))))

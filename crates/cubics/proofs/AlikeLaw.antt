-- Triples below n that agree modulo 3 have tables that agree, and come back from tables that agree.
use mathlib.Core.Path.{◌≡◌, sym}
use mathlib.Core.Logic.{by_cases}
use Prim.Native.Nat.{ℕ, zero, suc, ◌+◌, ◌*◌, ◌<◌, ◌≤◌}
use native.Mathlib.Decide.{ℕ_discrete}
use native.Mathlib.Omega.{arith}
use Rattle.residues.proofs.ModLaw.{Cong, crefl, cof, csym, ◌⨾◌, cdrop, cadd, cmul}
use Rattle.cubics.specs.Triples.{Triples, prev3, low3, high3, table_of3, two_from, all_from, prev_back, low_back, back_of3}
use Rattle.cubics.proofs.BackLaw.{low_same, low_other, table_all_same, table_all_other, from_same, from_other, back_low_same, back_low_other, back_table_two, back_table_all}

pub record Agree (n : ℕ) (e h : Triples) : Type 0 where
  pub two : (b d : ℕ) → b < d → d < n → Cong 3 (e.two b d) (h.two b d)
  pub all : (b c d : ℕ) → b < c → c ≤ d → d < n → Cong 3 (e.all b c d) (h.all b c d)

pub agree_turn : (n : ℕ) (e h : Triples) → Agree n e h → Agree n h e
agree_turn n e h a = record { two = λ b d l m. csym (a.two b d l m); all = λ b c d l m o. csym (a.all b c d l m o) }

pub agree_join : (n : ℕ) (e h k : Triples) → Agree n e h → Agree n h k → Agree n e k
agree_join n e h k a c = record { two = λ b d l m. a.two b d l m ⨾ c.two b d l m; all = λ b c' d l m o. a.all b c' d l m o ⨾ c.all b c' d l m o }

two_table : (e h : Triples) (b d : ℕ) → Cong 3 (e.two b d + 2 * prev3 e b d + prev3 e b b) (h.two b d + 2 * prev3 h b d + prev3 h b b) → Cong 3 ((table_of3 e).two b d) ((table_of3 h).two b d)
unfolding table_of3
two_table e h b d c = cdrop _ ⨾ c ⨾ csym (cdrop _)

module _ (n : ℕ) (e h : Triples) (a : Agree n e h) where
  -- ---- tables
  pub prev_like : (b k : ℕ) → b ≤ k → k < n → Cong 3 (prev3 e b k) (prev3 h b k)
  unfolding prev3
  prev_like zero k l m = crefl 0
  prev_like (suc b) k l m = a.all b (suc b) k (omega arith) l m

  pub high_like : (b c k : ℕ) → b < c → c ≤ k → k < n → Cong 3 (high3 e b c k) (high3 h b c k)
  unfolding high3
  high_like b c k l m o = cadd (cadd (a.two b k (omega arith) o) (a.all b c k l m o)) (prev_like b k (omega arith) o)

  pub low_like : (b c : ℕ) → b < c → c < n → Cong 3 (low3 e b c) (low3 h b c)
  low_like b zero l m = absurd (omega arith)
  low_like b (suc c) l m =
      by_cases (ℕ_discrete b c)
      (λ (s : b ≡ c). rw (← s) (cof (low_same e b) ⨾ cadd (a.two b (suc b) (omega arith) (omega arith)) (prev_like b b (omega arith) (omega arith)) ⨾ cof (sym (low_same h b))))
      (λ s. cof (low_other e b c s) ⨾ cadd (cadd (a.two b c (omega arith) (omega arith)) (a.all b c (suc c) (omega arith) (omega arith) m)) (prev_like b c (omega arith) (omega arith)) ⨾ cof (sym (low_other h b c s)))

  pub table_like : Agree n (table_of3 e) (table_of3 h)
  table_like = record { two = two_like; all = all_like }
    where
      two_like : (b d : ℕ) → b < d → d < n → Cong 3 ((table_of3 e).two b d) ((table_of3 h).two b d)
      two_like b d l m = two_table e h b d (cadd (cadd (a.two b d l m) (cmul (crefl 2) (prev_like b d (omega arith) m))) (prev_like b b (omega arith) (omega arith)))

      all_like : (b c d : ℕ) → b < c → c ≤ d → d < n → Cong 3 ((table_of3 e).all b c d) ((table_of3 h).all b c d)
      all_like b c d l m o =
          by_cases (ℕ_discrete c d)
          (λ (s : c ≡ d). rw (← s) (cof (table_all_same e b c) ⨾ cdrop _ ⨾ cadd (high_like b c c l (omega arith) (omega arith)) (cmul (crefl 2) (low_like b c l (omega arith))) ⨾ csym (cdrop _) ⨾ cof (sym (table_all_same h b c))))
          (λ s. cof (table_all_other e b c d s) ⨾ cdrop _ ⨾ cadd (cadd (high_like b c c l (omega arith) (omega arith)) (high_like b c d l m o)) (low_like b c l (omega arith)) ⨾ csym (cdrop _) ⨾ cof (sym (table_all_other h b c d s)))

  -- ---- the way back
  two_from_lem : (P Q : ℕ → ℕ) (b d : ℕ) → Cong 3 (P b) (Q b) → Cong 3 (P d) (Q d) → b < d → d < n → Cong 3 (two_from P e b d) (two_from Q h b d)
  two_from_lem P Q b d x y l m = cdrop _ ⨾ cadd (cadd (a.two b d l m) y) (cmul (crefl 2) x) ⨾ csym (cdrop _)

  all_from_lem : (P Q : ℕ → ℕ) (b c k u w : ℕ) → ((i : ℕ) → b ≤ i → i < n → Cong 3 (P i) (Q i)) → Cong 3 u w → b < c → c ≤ k → k < n → Cong 3 (all_from P e b c u k) (all_from Q h b c w k)
  all_from_lem P Q b c k u w p x l m o =
      by_cases (ℕ_discrete c k)
      (λ (s : c ≡ k). rw (← s) (cof (from_same P e b c u) ⨾ cdrop _
      ⨾ cadd (cadd (cadd (a.all b c c l (omega arith) (omega arith)) x) (cmul (crefl 2) (two_from_lem P Q b c (p b (omega arith) (omega arith)) (p c (omega arith) (omega arith)) l (omega arith)))) (cmul (crefl 2) (p c (omega arith) (omega arith)))
      ⨾ csym (cdrop _) ⨾ cof (sym (from_same Q h b c w))))
      (λ s. cof (from_other P e b c u k s) ⨾ cdrop _
      ⨾ cadd (cadd (cadd (cadd (a.all b c k l m o) (cmul (crefl 2) (a.all b c c l (omega arith) (omega arith)))) x) (cmul (crefl 2) (two_from_lem P Q b k (p b (omega arith) (omega arith)) (p k (omega arith) o) (omega arith) o))) (cmul (crefl 2) (p k (omega arith) o))
      ⨾ csym (cdrop _) ⨾ cof (sym (from_other Q h b c w k s)))

  prev_from : (b k : ℕ) → b ≤ k → k < n → Cong 3 (prev_back e b k) (prev_back h b k)
  unfolding prev_back
  prev_from zero k l m = crefl 0
  prev_from (suc b) k l m =
      all_from_lem (prev_back e b) (prev_back h b) b (suc b) k (two_from (prev_back e b) e b (suc b) + prev_back e b b) (two_from (prev_back h b) h b (suc b) + prev_back h b b) (λ i u w. prev_from b i u w)
      (cadd (two_from_lem (prev_back e b) (prev_back h b) b (suc b) (prev_from b b (omega arith) (omega arith)) (prev_from b (suc b) (omega arith) (omega arith)) (omega arith) (omega arith)) (prev_from b b (omega arith) (omega arith)))
      (omega arith) l m

  low_from : (b c : ℕ) → b < c → c < n → Cong 3 (low_back e b c) (low_back h b c)
  low_from b zero l m = absurd (omega arith)
  low_from b (suc c) l m =
      by_cases (ℕ_discrete b c)
      (λ (s : b ≡ c). rw (← s) (cof (back_low_same e b)
      ⨾ cadd (two_from_lem (prev_back e b) (prev_back h b) b (suc b) (prev_from b b (omega arith) (omega arith)) (prev_from b (suc b) (omega arith) (omega arith)) (omega arith) (omega arith)) (prev_from b b (omega arith) (omega arith))
      ⨾ cof (sym (back_low_same h b))))
      (λ s. let o : b < c = omega arith in
      cof (back_low_other e b c s)
      ⨾ cadd (cadd (two_from_lem (prev_back e b) (prev_back h b) b c (prev_from b b (omega arith) (omega arith)) (prev_from b c (omega arith) (omega arith)) o (omega arith))
      (all_from_lem (prev_back e b) (prev_back h b) b c (suc c) (low_back e b c) (low_back h b c) (λ i u w. prev_from b i u w) (low_from b c o (omega arith)) o (omega arith) m)) (prev_from b c (omega arith) (omega arith))
      ⨾ cof (sym (back_low_other h b c s)))

  pub back_like : Agree n (back_of3 e) (back_of3 h)
  unfolding back_of3
  back_like = record {
    two = λ b d l m. two_from_lem (prev_back e b) (prev_back h b) b d (prev_from b b (omega arith) (omega arith)) (prev_from b d (omega arith) m) l m;
    all = λ b c d l m o. all_from_lem (prev_back e b) (prev_back h b) b c d (low_back e b c) (low_back h b c) (λ i u w. prev_from b i u w) (low_from b c l (omega arith)) l m o;
  }

-- ---- coefficients with tables that agree agree
pub table_agree : (n : ℕ) (s t : Triples) → Agree n (table_of3 s) (table_of3 t) → Agree n s t
table_agree n s t a =
    let b = back_like n (table_of3 s) (table_of3 t) a in
    record {
      two = λ i d l m. csym (back_table_two s i d l) ⨾ b.two i d l m ⨾ back_table_two t i d l;
      all = λ i c d l m o. csym (back_table_all s i c d l m) ⨾ b.all i c d l m o ⨾ back_table_all t i c d l m;
    }

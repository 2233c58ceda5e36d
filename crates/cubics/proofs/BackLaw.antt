-- The triples of a cubic table over F3 and its coefficients give back each other.
use mathlib.Core.Path.{◌≡◌, refl, sym, ap, ap₂, ◌∙◌}
use mathlib.Core.Logic.{by_cases}
use Prim.Native.Nat.{ℕ, zero, suc, ◌+◌, ◌*◌, ◌%◌, ◌<◌, ◌≤◌}
use native.Mathlib.Decide.{ℕ_discrete}
use native.Mathlib.Omega.{arith}
use Rattle.residues.proofs.ModLaw.{Cong, crefl, cof, ◌⨾◌, cdrop, cadd, cmul, cwhole}
use Rattle.residues.proofs.SumLaw.{same_self, same_other}
use Rattle.cubics.specs.Triples.{Triples, prev3, low3, high3, table_of3, two_from, all_from, prev_back, low_back, back_of3}

-- ---- the cases of the definitions
pub table_all_same : (t : Triples) (b c : ℕ) → (table_of3 t).all b c c ≡ (high3 t b c c + 2 * low3 t b c) % 3
unfolding table_of3
table_all_same t b c = rw (same_self c, table_of3)

pub table_all_other : (t : Triples) (b c d : ℕ) → (c ≡ d → ⊥) → (table_of3 t).all b c d ≡ (high3 t b c c + high3 t b c d + low3 t b c) % 3
unfolding table_of3
table_all_other t b c d n = rw (same_other c d n, table_of3)

pub from_same : (P : ℕ → ℕ) (e : Triples) (b c low : ℕ) → all_from P e b c low c ≡ (e.all b c c + low + 2 * two_from P e b c + 2 * P c) % 3
from_same P e b c low = rw (same_self c, all_from)

pub from_other : (P : ℕ → ℕ) (e : Triples) (b c low k : ℕ) → (c ≡ k → ⊥) → all_from P e b c low k ≡ (e.all b c k + 2 * e.all b c c + low + 2 * two_from P e b k + 2 * P k) % 3
from_other P e b c low k n = rw (same_other c k n, all_from)

pub low_same : (t : Triples) (b : ℕ) → low3 t b (suc b) ≡ t.two b (suc b) + prev3 t b b
unfolding low3
low_same t b = rw (same_self b, low3)

pub low_other : (t : Triples) (b c : ℕ) → (b ≡ c → ⊥) → low3 t b (suc c) ≡ t.two b c + t.all b c (suc c) + prev3 t b c
unfolding low3
low_other t b c n = rw (same_other b c n, low3)

pub back_low_same : (e : Triples) (b : ℕ) → low_back e b (suc b) ≡ two_from (prev_back e b) e b (suc b) + prev_back e b b
unfolding low_back
back_low_same e b = rw (same_self b, low_back)

pub back_low_other : (e : Triples) (b c : ℕ) → (b ≡ c → ⊥) → low_back e b (suc c) ≡ two_from (prev_back e b) e b c + all_from (prev_back e b) e b c (low_back e b c) (suc c) + prev_back e b c
unfolding low_back
back_low_other e b c n = rw (same_other b c n, low_back)

-- ---- coefficients, their table, and its coefficients
module _ (t : Triples) where
  -- what is carried is right: P is [b-1, b, .] from b on
  abbrev Right : (ℕ → ℕ) → ℕ → Type 0
  Right P b = (k : ℕ) → b ≤ k → Cong 3 (P k) (prev3 t b k)

  two_is : (P : ℕ → ℕ) (b d : ℕ) → Right P b → b < d → Cong 3 (two_from P (table_of3 t) b d) (t.two b d)
  unfolding table_of3
  two_is P b d r l =
      cdrop _ ⨾ cadd (cadd (cdrop (t.two b d + 2 * prev3 t b d + prev3 t b b)) (r d (omega arith))) (cmul (crefl 2) (r b (omega arith)))
      ⨾ cof (ring (t.two b d) (prev3 t b d) (prev3 t b b)) ⨾ cwhole (t.two b d) (prev3 t b d + prev3 t b b)
    where
      ring : (a p r : ℕ) → a + 2 * p + r + p + 2 * r ≡ a + 3 * (p + r)
      ring a p r = omega arith

  same_is : (b c : ℕ) → Cong 3 ((table_of3 t).all b c c) (t.two b c + t.all b c c + prev3 t b c + 2 * low3 t b c)
  unfolding high3
  same_is b c = cof (table_all_same t b c) ⨾ cdrop _

  other_is : (b c d : ℕ) → (c ≡ d → ⊥) → Cong 3 ((table_of3 t).all b c d) (t.two b c + t.all b c c + prev3 t b c + (t.two b d + t.all b c d + prev3 t b d) + low3 t b c)
  unfolding high3
  other_is b c d n = cof (table_all_other t b c d n) ⨾ cdrop _

  all_is : (P : ℕ → ℕ) (b c k low : ℕ) → Right P b → b < c → c ≤ k → Cong 3 low (low3 t b c) → Cong 3 (all_from P (table_of3 t) b c low k) (t.all b c k)
  all_is P b c k low r l m e =
      by_cases (ℕ_discrete c k)
      (λ s. rw (← s) (cof (from_same P (table_of3 t) b c low) ⨾ cdrop _
      ⨾ cadd (cadd (cadd (same_is b c) e) (cmul (crefl 2) (two_is P b c r l))) (cmul (crefl 2) (r c (omega arith)))
      ⨾ cof (one (t.two b c) (t.all b c c) (prev3 t b c) (low3 t b c)) ⨾ cwhole (t.all b c c) (t.two b c + prev3 t b c + low3 t b c)))
      (λ n. cof (from_other P (table_of3 t) b c low k n) ⨾ cdrop _
      ⨾ cadd (cadd (cadd (cadd (other_is b c k n) (cmul (crefl 2) (same_is b c))) e) (cmul (crefl 2) (two_is P b k r (omega arith)))) (cmul (crefl 2) (r k (omega arith)))
      ⨾ cof (other (t.two b c + t.all b c c + prev3 t b c) (t.two b k) (t.all b c k) (prev3 t b k) (low3 t b c))
      ⨾ cwhole (t.all b c k) (t.two b c + t.all b c c + prev3 t b c + 2 * low3 t b c + t.two b k + prev3 t b k))
    where
      one : (s a p w : ℕ) → s + a + p + 2 * w + w + 2 * s + 2 * p ≡ a + 3 * (s + p + w)
      one s a p w = omega arith

      other : (H s a p w : ℕ) → H + (s + a + p) + w + 2 * (H + 2 * w) + w + 2 * s + 2 * p ≡ a + 3 * (H + 2 * w + s + p)
      other H s a p w = omega arith

  prev_is : (b : ℕ) → Right (prev_back (table_of3 t) b) b
  unfolding prev_back prev3
  prev_is zero k l = crefl 0
  prev_is (suc a) k l =
      let r = prev_is a in
      all_is (prev_back (table_of3 t) a) a (suc a) k (two_from (prev_back (table_of3 t) a) (table_of3 t) a (suc a) + prev_back (table_of3 t) a a) r (omega arith) l
      (cadd (two_is (prev_back (table_of3 t) a) a (suc a) r (omega arith)) (r a (omega arith)) ⨾ cof (sym (low_same t a)))

  low_is : (b c : ℕ) → b < c → Cong 3 (low_back (table_of3 t) b c) (low3 t b c)
  low_is b zero l = absurd (omega arith)
  low_is b (suc c) l =
      let P = prev_back (table_of3 t) b in
      let r = prev_is b in
      by_cases (ℕ_discrete b c)
      (λ s. rw (← s) (cof (back_low_same (table_of3 t) b) ⨾ cadd (two_is P b (suc b) r (omega arith)) (r b (omega arith)) ⨾ cof (sym (low_same t b))))
      (λ n. let o : b < c = omega arith in
      cof (back_low_other (table_of3 t) b c n)
      ⨾ cadd (cadd (two_is P b c r o) (all_is P b c (suc c) (low_back (table_of3 t) b c) r o (omega arith) (low_is b c o))) (r c (omega arith)) ⨾ cof (sym (low_other t b c n)))

  pub back_table_two : (b d : ℕ) → b < d → Cong 3 ((back_of3 (table_of3 t)).two b d) (t.two b d)
  unfolding back_of3
  back_table_two b d l = two_is (prev_back (table_of3 t) b) b d (prev_is b) l

  pub back_table_all : (b c d : ℕ) → b < c → c ≤ d → Cong 3 ((back_of3 (table_of3 t)).all b c d) (t.all b c d)
  unfolding back_of3
  back_table_all b c d l m = all_is (prev_back (table_of3 t) b) b c d (low_back (table_of3 t) b c) (prev_is b) l m (low_is b c l)

-- ---- a table, its coefficients, and their table: the definitions, turned round
module _ (e : Triples) where
  pub two_of : (b d : ℕ) → (back_of3 e).two b d ≡ two_from (prev_back e b) e b d
  unfolding back_of3
  two_of b d = refl

  pub all_of : (b c d : ℕ) → (back_of3 e).all b c d ≡ all_from (prev_back e b) e b c (low_back e b c) d
  unfolding back_of3
  all_of b c d = refl

  pub prev_back_lem : (b k : ℕ) → prev3 (back_of3 e) b k ≡ prev_back e b k
  unfolding prev3 prev_back back_of3
  prev_back_lem zero k = refl
  prev_back_lem (suc a) k = ap (λ (x : ℕ). all_from (prev_back e a) e a (suc a) x k) (back_low_same e a)

  pub low_back_lem : (b c : ℕ) → b < c → low3 (back_of3 e) b c ≡ low_back e b c
  low_back_lem b zero l = absurd (omega arith)
  low_back_lem b (suc c) l =
      by_cases (ℕ_discrete b c)
      (λ s. rw (← s) (low_same (back_of3 e) b ∙ ap₂ (λ (x y : ℕ). x + y) (two_of b (suc b)) (prev_back_lem b b) ∙ sym (back_low_same e b)))
      (λ n. low_other (back_of3 e) b c n ∙ ap₂ (λ (x y : ℕ). x + y) (ap₂ (λ (x y : ℕ). x + y) (two_of b c) (all_of b c (suc c))) (prev_back_lem b c) ∙ sym (back_low_other e b c n))

  pub table_back_two : (b d : ℕ) → b < d → Cong 3 ((table_of3 (back_of3 e)).two b d) (e.two b d)
  unfolding table_of3
  table_back_two b d l =
      cdrop _ ⨾ cadd (cadd (cof (two_of b d) ⨾ cdrop _) (cof (ap (λ (x : ℕ). 2 * x) (prev_back_lem b d)))) (cof (prev_back_lem b b))
      ⨾ cof (ring (e.two b d) (prev_back e b d) (prev_back e b b)) ⨾ cwhole (e.two b d) (prev_back e b d + prev_back e b b)
    where
      ring : (a p r : ℕ) → a + p + 2 * r + 2 * p + r ≡ a + 3 * (p + r)
      ring a p r = omega arith

  -- T(k) of the coefficients
  high_same : (b c : ℕ) → Cong 3 (high3 (back_of3 e) b c c)
      (two_from (prev_back e b) e b c + (e.all b c c + low_back e b c + 2 * two_from (prev_back e b) e b c + 2 * prev_back e b c) + prev_back e b c)
  unfolding high3
  high_same b c = cadd (cadd (cof (two_of b c)) (cof (all_of b c c ∙ from_same (prev_back e b) e b c (low_back e b c)) ⨾ cdrop _)) (cof (prev_back_lem b c))

  high_other : (b c d : ℕ) → (c ≡ d → ⊥) → Cong 3 (high3 (back_of3 e) b c d)
      (two_from (prev_back e b) e b d + (e.all b c d + 2 * e.all b c c + low_back e b c + 2 * two_from (prev_back e b) e b d + 2 * prev_back e b d) + prev_back e b d)
  unfolding high3
  high_other b c d n = cadd (cadd (cof (two_of b d)) (cof (all_of b c d ∙ from_other (prev_back e b) e b c (low_back e b c) d n) ⨾ cdrop _)) (cof (prev_back_lem b d))

  pub table_back_all : (b c d : ℕ) → b < c → c ≤ d → Cong 3 ((table_of3 (back_of3 e)).all b c d) (e.all b c d)
  table_back_all b c d l m =
      let S = two_from (prev_back e b) e b c in
      let R = two_from (prev_back e b) e b d in
      by_cases (ℕ_discrete c d)
      (λ s. rw (← s) (cof (table_all_same (back_of3 e) b c) ⨾ cdrop _ ⨾ cadd (high_same b c) (cof (ap (λ (x : ℕ). 2 * x) (low_back_lem b c l)))
      ⨾ cof (one S (e.all b c c) (low_back e b c) (prev_back e b c)) ⨾ cwhole (e.all b c c) (S + low_back e b c + prev_back e b c)))
      (λ n. cof (table_all_other (back_of3 e) b c d n) ⨾ cdrop _ ⨾ cadd (cadd (high_same b c) (high_other b c d n)) (cof (low_back_lem b c l))
      ⨾ cof (other S (e.all b c c) (low_back e b c) (prev_back e b c) R (e.all b c d) (prev_back e b d))
      ⨾ cwhole (e.all b c d) (e.all b c c + low_back e b c + S + prev_back e b c + R + prev_back e b d))
    where
      one : (s a w p : ℕ) → s + (a + w + 2 * s + 2 * p) + p + 2 * w ≡ a + 3 * (s + w + p)
      one s a w p = omega arith

      other : (s a w p r d o : ℕ) → s + (a + w + 2 * s + 2 * p) + p + (r + (d + 2 * a + w + 2 * r + 2 * o) + o) + w ≡ d + 3 * (a + w + s + p + r + o)
      other s a w p r d o = omega arith

-- Writing entries: a put entry and the others, and runs of entries.
use mathlib.Core.Path.{◌≡◌, refl, sym, ap, ◌∙◌}
use mathlib.Core.List.{List}
use mathlib.Core.Logic.{by_cases}
use Prim.Native.Nat.{ℕ, suc, ◌+◌, ◌-◌, ◌*◌, ◌≤◌, ◌<◌}
use native.Mathlib.Decide.{ℕ_discrete}
use native.Mathlib.Omega.{arith}
use lib.ListN.{length, get_or, set, length-set}
use lib.Seq.{get_or-set_same, get_or-set_other}
use Rattle.trits.specs.declared.Vector.{Vector}
use Rattle.tables.specs.Monomials.{row_start, index_of}
use Rattle.tables.specs.Words.{entry, put_at, Written}
use Rattle.tables.proofs.WordLaw.{is_tabled}

pub length_put : (t : List ℕ) (k : ℕ) (v : Vector) → length (put_at t k v) ≡ length t
unfolding put_at
length_put t k v = length-set (set t (2 * k) v.high) (2 * k + 1) v.low ∙ length-set t (2 * k) v.high

pub entry_put : (t : List ℕ) (k : ℕ) (v : Vector) → 2 * k + 1 < length t → entry (put_at t k v) k ≡ v
unfolding put_at entry
entry_put t k v h = λ i. record { high = highs i; low = lows i }
  where
    highs : get_or (set (set t (2 * k) v.high) (2 * k + 1) v.low) (2 * k) 0 ≡ v.high
    highs = get_or-set_other (set t (2 * k) v.high) (2 * k + 1) (2 * k) v.low 0 (λ e. omega arith) ∙ get_or-set_same t (2 * k) v.high 0 (omega arith)

    lows : get_or (set (set t (2 * k) v.high) (2 * k + 1) v.low) (2 * k + 1) 0 ≡ v.low
    lows = get_or-set_same (set t (2 * k) v.high) (2 * k + 1) v.low 0 (omega (arith, length-set t (2 * k) v.high))

pub entry_other : (t : List ℕ) (k : ℕ) (v : Vector) (j : ℕ) → (j ≡ k → ⊥) → entry (put_at t k v) j ≡ entry t j
unfolding put_at entry
entry_other t k v j d = λ i. record { high = at (2 * j) (λ e. d (omega arith)) (λ e. omega arith) i; low = at (2 * j + 1) (λ e. omega arith) (λ e. d (omega arith)) i }
  where
    at : (x : ℕ) → (x ≡ 2 * k → ⊥) → (x ≡ 2 * k + 1 → ⊥) → get_or (set (set t (2 * k) v.high) (2 * k + 1) v.low) x 0 ≡ get_or t x 0
    at x p q = get_or-set_other (set t (2 * k) v.high) (2 * k + 1) x v.low 0 q ∙ get_or-set_other t (2 * k) x v.high 0 p

-- two tables of c entries that are equal entry by entry
pub entries_ext : (c : ℕ) (s t : List ℕ) → length s ≡ 2 * c → length t ≡ 2 * c → ((k : ℕ) → k < c → entry s k ≡ entry t k) → s ≡ t
entries_ext c s t ls lt e = is_tabled c (entry t) s ls e ∙ sym (is_tabled c (entry t) t lt (λ k h. refl))

-- runs of entries
pub written_none : (g t : List ℕ) (a : ℕ) → Written g a a t t
written_none g t a = record { size = refl; here = λ k h l. absurd (omega arith); kept = λ k d. refl }

pub written_put : (g old t : List ℕ) (a k : ℕ) (v : Vector) → a ≤ k → 2 * k + 1 < length old → v ≡ entry g k → Written g a k old t → Written g a (k + 1) old (put_at t k v)
written_put g old t a k v h l e w =
    record {
      size = length_put t k v ∙ w.size;
      here = λ j p q.
          by_cases (ℕ_discrete j k)
          (λ z. ap (entry (put_at t k v)) z ∙ entry_put t k v (omega (arith, w.size)) ∙ e ∙ ap (entry g) (sym z))
          (λ d. entry_other t k v j d ∙ w.here j p (omega arith));
      kept = λ j d. entry_other t k v j (λ z. d (omega arith) (omega arith)) ∙ w.kept j (λ p q. d p (omega arith));
    }

-- one entry, and the run after it
pub written_first : (g old t : List ℕ) (k b : ℕ) (v : Vector) → k < b → 2 * k + 1 < length old → v ≡ entry g k → Written g (k + 1) b (put_at old k v) t → Written g k b old t
written_first g old t k b v h l e w =
    record {
      size = w.size ∙ length_put old k v;
      here = λ j p q.
          by_cases (ℕ_discrete j k)
          (λ z. ap (entry t) z ∙ w.kept k (λ x y. omega arith) ∙ entry_put old k v l ∙ e ∙ ap (entry g) (sym z))
          (λ d. w.here j (omega arith) q);
      kept = λ j d. w.kept j (λ p q. d (omega arith) q) ∙ entry_other old k v j (λ z. d (omega arith) (omega arith));
    }

pub written_all : (c : ℕ) (g old t : List ℕ) → length g ≡ 2 * c → length old ≡ 2 * c → Written g 0 c old t → t ≡ g
written_all c g old t lg lo w = entries_ext c t g (w.size ∙ lo) lg (λ k h. w.here k (omega arith) h)

-- ---- where the products of an unknown begin and end
pub row_first : (n i : ℕ) → index_of n i i ≡ 1 + n + row_start n i
unfolding index_of
row_first n i = omega arith

pub row_entry : (n i j : ℕ) → i ≤ j → index_of n i j ≡ index_of n i i + (j - i)
unfolding index_of
row_entry n i j h = omega arith

pub row_next : (n i : ℕ) → i < n → index_of n (i + 1) (i + 1) ≡ index_of n i i + (n - i)
unfolding index_of row_start
row_next n i h = let e : i + 1 ≡ suc i = omega arith in rw e (omega arith)

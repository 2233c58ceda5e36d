-- A table that is filled unknown by unknown.
use mathlib.Core.Path.{◌≡◌, refl, sym, ap, ◌∙◌}
use mathlib.Core.List.{List}
use mathlib.Core.Logic.{by_cases}
use Prim.Native.Nat.{ℕ, zero, suc, ◌+◌, ◌-◌, ◌*◌, ◌≤◌, ◌<◌}
use native.Mathlib.Decide.{ℕ_discrete, dec_lt}
use native.Mathlib.Omega.{arith}
use lib.ListN.{length}
use Rattle.trits.specs.declared.Vector.{Vector}
use Rattle.trits.specs.Trit.{none}
use Rattle.tables.specs.Monomials.{count_of, row_start, index_of}
use Rattle.tables.specs.Words.{entry, put_at, Written}
use Rattle.turns.specs.Parts.{Filled, before_of}
use Rattle.tables.proofs.IndexLaw.{count_is}
use Rattle.tables.proofs.WriteLaw.{entry_put, entry_other, entries_ext, row_first, row_entry, row_next}

row_start_lem : (n : ℕ) → row_start n 0 ≡ 0
unfolding row_start
row_start_lem n = refl

pub filled_all : (n : ℕ) (g t : List ℕ) → length g ≡ 2 * count_of n → length t ≡ 2 * count_of n → Filled g n n t → t ≡ g
filled_all n g t lg lt f =
    entries_ext (count_of n) t g lt lg
    (λ k h. by_cases (dec_lt k (1 + n)) (λ l. f.singles k l) (λ l. f.products k (omega arith) (omega (arith, count_is n, row_first n n))))

-- the first entry
pub filled_none : (n : ℕ) (g t : List ℕ) (v : Vector) → 1 < length t → v ≡ entry g 0 → Filled g n 0 (put_at t 0 v)
filled_none n g t v l e =
    record {
      singles = λ k h. let z : k ≡ 0 = omega arith in ap (entry (put_at t 0 v)) z ∙ entry_put t 0 v (omega arith) ∙ e ∙ ap (entry g) (sym z);
      products = λ k h z. absurd (none k h z);
    }
  where
    none : (k : ℕ) → 1 + n ≤ k → k < index_of n 0 0 → ⊥
    none k h z = omega (arith, row_first n 0, row_start_lem n)

-- one unknown more: its own entry is put, and its products are written
pub filled_next : (n i : ℕ) (g t u : List ℕ) (v : Vector) → i < n → length t ≡ 2 * count_of n → v ≡ entry g (1 + i) → Filled g n i t
    → Written g (index_of n i i) (index_of n i i + (n - i)) (put_at t (1 + i) v) u → Filled g n (i + 1) u
filled_next n i g t u v h l e f w =
    let c : 1 + i < count_of n = omega (arith, count_is n) in
    let s = row_first n i in
    record {
      singles = λ k z.
          w.kept k (λ p q. omega arith)
          ∙ by_cases (ℕ_discrete k (1 + i))
          (λ y. ap (entry (put_at t (1 + i) v)) y ∙ entry_put t (1 + i) v (omega arith) ∙ e ∙ ap (entry g) (sym y))
          (λ d. entry_other t (1 + i) v k d ∙ f.singles k (omega arith));
      products = λ k p q.
          by_cases (dec_lt k (index_of n i i))
          (λ y. w.kept k (λ a b. omega arith) ∙ entry_other t (1 + i) v k (λ z. omega arith) ∙ f.products k p y)
          (λ y. w.here k (omega arith) (omega (arith, row_next n i h)));
    }

-- the coefficient of the unknown before i and i: none at 0
pub before_none : (n : ℕ) (c : List ℕ) (i : ℕ) → i ≡ 0 → before_of n c i ≡ none
unfolding before_of
before_none n c i e = rw e

pub before_some : (n : ℕ) (c : List ℕ) (i : ℕ) → 0 < i → before_of n c i ≡ entry c (index_of n (i - 1) i)
unfolding before_of
before_some n c zero h = absurd (omega arith)
before_some n c (suc i) h = let e : suc i - 1 ≡ i = omega arith in rw e

-- it is written by then
pub before_filled : (n i : ℕ) (g t : List ℕ) → i < n → Filled g n i t → before_of n t i ≡ before_of n g i
unfolding before_of
before_filled n zero g t h f = refl
before_filled n (suc i) g t h f =
    f.products (index_of n i (suc i)) (omega (arith, row_entry n i (suc i) (omega arith), row_first n i))
    (omega (arith, row_entry n i (suc i) (omega arith), next))
  where
    next : index_of n (suc i) (suc i) ≡ index_of n i i + (n - i)
    next = let e : i + 1 ≡ suc i = omega arith in rw e at (row_next n i (omega arith))

-- Packing: after e rows a table holds the words of the first e equations; one row more sets one trit of every entry.
use mathlib.Core.Path.{◌≡◌, refl, sym, ap, ap₂, ◌∙◌}
use mathlib.Core.List.{List}
use mathlib.Core.Logic.{by_cases}
use Prim.Native.Nat.{ℕ, ◌+◌, ◌-◌, ◌*◌, ◌%◌, ◌^◌, ◌≤◌, ◌<◌}
use native.Mathlib.Nat.{mul-le-mul_right}
use native.Mathlib.Numerals.{add-one}
use native.Mathlib.Decide.{ℕ_discrete}
use native.Mathlib.Omega.{arith}
use lib.IntN.{ℤ, pos}
use lib.ListN.{length, get_or, take, drop, replicate, length-take, length-drop}
use Rattle.std.proofs.lemmas.List.{get_or-replicate, length-replicate}
use lib.Seq.{get_or-take, get_or-drop}
use Rattle.residues.specs.Residue.{floor_mod}
use Rattle.trits.specs.declared.Vector.{Vector}
use Rattle.trits.specs.Trit.{of_trits, from_bits, none}
use Rattle.trits.specs.Words.{Put}
use Rattle.trits.proofs.PutLaw.{put_next}
use Rattle.tables.specs.Words.{entry, put_at, packed_rows}
use Rattle.rows.specs.Parts.{RowPacked}
use Rattle.tables.proofs.WordLaw.{entry_tabled, length_tabled}
use Rattle.tables.proofs.WriteLaw.{length_put, entry_put, entry_other, entries_ext}

-- one row
pub row_begun : (row : List ℤ) (e : ℕ) (t : List ℕ) → RowPacked row e 0 t t
row_begun row e t = record { size = refl; packed = λ j h. absurd (omega arith); kept = λ j h. refl }

pub row_step : (row : List ℤ) (e k : ℕ) (old t : List ℕ) (x v : Vector) → 2 * k + 1 < length t → x ≡ entry t k
    → Put x e (floor_mod 3 (get_or row k (pos 0))) v → RowPacked row e k old t → RowPacked row e (k + 1) old (put_at t k v)
row_step row e k old t x v h p q r =
    record {
      size = length_put t k v ∙ r.size;
      packed = λ j l.
          by_cases (ℕ_discrete j k)
          (λ z. rw z (rw (entry_put t k v h) (rw (p ∙ r.kept k (omega arith)) at q)))
          (λ d. rw (entry_other t k v j d) (r.packed j (omega arith)));
      kept = λ j l. entry_other t k v j (λ z. omega arith) ∙ r.kept j (omega arith);
    }

-- row e of m lies inside the row table, and its ends are small
pub row_within : (e m k : ℕ) → e < m → e * k + k ≤ m * k
row_within e m k h = let l : (e + 1) * k ≤ m * k = mul-le-mul_right k (omega arith) in omega arith

pub row_small : (m k : ℕ) → m ≤ 64 → k < 2 ^ 32 → m * k ≤ 64 * 2 ^ 32
row_small m k h l = omega (arith, mul-le-mul_right k h)

-- the part of the row table that is equation e's
abbrev pub part_of : List ℤ → ℕ → ℕ → List ℤ
part_of rows e k = take (e * k + k - e * k) (drop (e * k) rows)

pub part_length : (rows : List ℤ) (e m k : ℕ) → e < m → length rows ≡ m * k → length (part_of rows e k) ≡ k
part_length rows e m k h l = simp (length-take, length-drop) (omega (arith, row_within e m k h))

part_at : (rows : List ℤ) (e k j : ℕ) → j < k → get_or (part_of rows e k) j (pos 0) ≡ get_or rows (e * k + j) (pos 0)
part_at rows e k j h =
    let z : e * k + k - e * k ≡ k = omega arith in
    rw z (get_or-take k (drop (e * k) rows) j (pos 0) h ∙ get_or-drop (e * k) rows j (pos 0))

-- all rows
module _ (N : ℕ) (rows : List ℤ) where
  at : ℕ → ℕ → ℕ
  at k e = floor_mod 3 (get_or rows (e * N + k) (pos 0))

  entry_packed : (m k : ℕ) → k < N → entry (packed_rows N m rows) k ≡ of_trits m (at k)
  unfolding at
  entry_packed m k h = entry_tabled (N) (λ k. of_trits m (at k)) k h

  length_packed : (m : ℕ) → length (packed_rows N m rows) ≡ 2 * N
  unfolding at
  length_packed m = length_tabled (N) (λ k. of_trits m (at k))

  of_none : (f : ℕ → ℕ) → of_trits 0 f ≡ none
  unfolding of_trits from_bits
  of_none f = refl

  -- no row yet: every word is zero
  pub packed_none : (size : ℕ) → size ≡ 2 * N → replicate size 0 ≡ packed_rows N 0 rows
  unfolding entry
  packed_none size l =
      entries_ext N (replicate size 0) (packed_rows N 0 rows) (length-replicate size 0 ∙ l) (length_packed 0)
      (λ k h.
      ap₂ (λ (x y : ℕ). record { high = x; low = y }) (get_or-replicate size (2 * k) 0 0 (omega arith)) (get_or-replicate size (2 * k + 1) 0 0 (omega arith))
      ∙ sym (of_none (at k)) ∙ sym (entry_packed 0 k h))

  -- one row more
  packed_next : (e : ℕ) (row : List ℤ) (old t : List ℕ) → e < 64 → ((k : ℕ) → k < N → get_or row k (pos 0) ≡ get_or rows (e * N + k) (pos 0))
      → old ≡ packed_rows N e rows → RowPacked row e (N) old t → t ≡ packed_rows N (e + 1) rows
  unfolding at
  packed_next e row old t h s p r =
      entries_ext (N) t (packed_rows N (e + 1) rows) (r.size ∙ ap length p ∙ length_packed e) (length_packed (e + 1))
      (λ k l.
      put_next (at k) h (rw (ap (λ (z : List ℕ). entry z k) p ∙ entry_packed e k l) at (r.packed k l)) (ap (λ (z : ℤ). floor_mod 3 z % 3) (s k l))
      ∙ ap (λ (z : ℕ). of_trits z (at k)) (sym (add-one e)) ∙ sym (entry_packed (e + 1) k l))

  pub packed_part : (e m : ℕ) (old t : List ℕ) → e < m → m ≤ 64 → length rows ≡ m * N → old ≡ packed_rows N e rows
      → RowPacked (part_of rows e N) e (length (part_of rows e N)) old t → t ≡ packed_rows N (e + 1) rows
  packed_part e m old t h l s p r =
      packed_next e (part_of rows e N) old t (omega arith) (λ j q. part_at rows e N j q) p (rw (part_length rows e m N h s) at r)

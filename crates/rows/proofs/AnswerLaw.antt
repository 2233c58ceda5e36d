-- The tests of packing, one after the other, are document 01's order of refusals.
use Rattle.std.specs.Prelude.{Err}
use mathlib.Core.Path.{◌≡◌, sym, ap, ap₂, ◌∙◌}
use mathlib.Core.List.{List}
use Prim.Native.Nat.{ℕ, ◌*◌}
use lib.IntN.{ℤ}
use lib.ListN.{length}
use borrow.Author.Tests.{eq-eqb, ne_eqb}
use Rattle.refusals.specs.declared.Refusal.TheVariants.{Length}
use Rattle.refusals.specs.Refusal.{Verdict, code_of, sized, after, done}
use Rattle.refusals.specs.Limits.{Within}
use Rattle.refusals.proofs.RefusalLaw.{sized_next}
use Rattle.tables.specs.Words.{packed_rows}
use Rattle.tables.specs.Answers.{long_of, rows_verdict}
use Rattle.tables.proofs.AnswerLaw.{long_refused, long_passed}

module _ (N m : ℕ) (rows : List ℤ) (t : List ℕ) where
  pub pack_rows : (length rows ≡ m * N → ⊥) → rows_verdict N m rows t ≡ Err Length
  pack_rows d = rw (ne_eqb (length rows) (m * N) d)

  module _ (read : length rows ≡ m * N) where
    rows_passed : rows_verdict N m rows t ≡ long_of N t done
    rows_passed = rw (eq-eqb (length rows) (m * N) read)

    pub pack_table : (length t ≡ 2 * N → ⊥) → rows_verdict N m rows t ≡ Err Length
    pack_table d = rows_passed ∙ long_refused N t done d

    pub pack_done : length t ≡ 2 * N → rows_verdict N m rows t ≡ done
    pack_done e = rows_passed ∙ long_passed N t done e

-- a whole call, whose sizes are within their limits and whose count k is that of the monomials, N
module _ (N n m : ℕ) (rows : List ℤ) (t new : List ℕ) (k : ℕ) (r : Verdict) (w : Within n m) (count : k ≡ N)
    (told : r ≡ rows_verdict k m rows t) (left : new ≡ after (rows_verdict k m rows t) t (packed_rows k m rows)) where
  verdict_is : rows_verdict k m rows t ≡ sized n m (rows_verdict N m rows t)
  verdict_is = ap (λ (M : ℕ). rows_verdict M m rows t) count ∙ sym (sized_next n m (rows_verdict N m rows t) w)

  pub entries_is : (r ≡ sized n m (rows_verdict N m rows t)) × (new ≡ after (sized n m (rows_verdict N m rows t)) t (packed_rows N m rows))
      × (code_of r ≡ code_of (sized n m (rows_verdict N m rows t)))
  entries_is = (
    told ∙ verdict_is,
    left ∙ ap₂ (λ (v : Verdict) (M : ℕ). after v t (packed_rows M m rows)) verdict_is count,
    ap code_of (told ∙ verdict_is),
  )

-- What a checked table is, and what is asked after it.
use Rattle.std.specs.Prelude.{Err}
use mathlib.Core.Path.{◌≡◌, sym, ap, ◌∙◌}
use mathlib.Core.Bool.{not}
use mathlib.Core.List.{List}
use Prim.Native.Nat.{ℕ, ◌*◌, ◌^◌, ◌≤◌}
use native.Mathlib.Nat.{pow-le-pow_right}
use native.Mathlib.Omega.{arith}
use lib.Dec.{eqb, ltb}
use lib.ListN.{length}
use borrow.Author.Tests.{eq-eqb, le-ltb}
use Rattle.refusals.specs.declared.Refusal.{Refusal}
use Rattle.refusals.specs.declared.Refusal.TheVariants.{Length, Pair}
use Rattle.refusals.specs.Refusal.{Verdict, done}
use Rattle.refusals.specs.Limits.{Within}
use Rattle.refusals.proofs.RefusalLaw.{refuse_none, sized_within, sized_next, sized_done}
use Rattle.tables.specs.Monomials.{count_of}
use Rattle.tables.specs.Words.{legal_front, Entries, Table}
use Rattle.tables.specs.Answers.{long, paired, long_of, paired_of, copy_verdict}
use Rattle.tables.proofs.WordLaw.{front_whole}
use Rattle.tables.proofs.AnswerLaw.{long_done, paired_done, entries_accepted, entries_refused, entries_passed}
use Rattle.cubic_tables.specs.Words.{CubicTable}
use Rattle.given.specs.Given.{Given, quadratic, cubic, count_in, table_verdict, Checked}

-- powers of three up to 3 ^ 20
pub power_le : (b : ℕ) → b ≤ 20 → 3 ^ b ≤ 3 ^ 20
power_le b h = pow-le-pow_right {n = 3} (omega arith) {i = b} {j = 20} h

module _ (g : Given) where
  -- its entries
  abbrev N : ℕ
  N = count_in g.degree g.n

  -- a checked table passes every question that is asked of it, and one that is refused is refused whatever is asked next
  pub checked_next : (v : Verdict) → Checked g → table_verdict g v ≡ v
  checked_next v ok = entries_passed N g.n g.m g.words v ok

  pub refused_first : (f : Refusal) (v : Verdict) → table_verdict g done ≡ Err f → table_verdict g v ≡ Err f
  refused_first f v e = entries_refused N g.n g.m g.words f v e

  -- what nothing refuses: the table is checked, and nothing that was asked next refused it
  pub done_first : (v : Verdict) → table_verdict g v ≡ done → Checked g
  done_first v e =
      let p = paired_of N g.m g.words v in
      let a = long_done N g.words p (sized_done g.n g.m (long_of N g.words p) e) in
      (entries_accepted N g.n g.m g.words).1
      (record { sizes = sized_within g.n g.m (long_of N g.words p) e; table = (paired_done N g.m g.words v a.0 a.1).0 })

  pub done_next : (v : Verdict) → table_verdict g v ≡ done → v ≡ done
  done_next v e = sym (checked_next v (done_first v e)) ∙ e

  -- its sizes are within the limits, its length is exact and every pair is legal
  pub within : Checked g → Within g.n g.m
  within ok = ((entries_accepted N g.n g.m g.words).0 ok).sizes

  pub entries_of_lem : Checked g → Entries N g.m g.words
  entries_of_lem ok = ((entries_accepted N g.n g.m g.words).0 ok).table

  pub checked_if : Within g.n g.m → Entries N g.m g.words → Checked g
  checked_if w a = (entries_accepted N g.n g.m g.words).1 (record { sizes = w; table = a })

  -- places fit 32 bits
  pub power_small : Checked g → 3 ^ g.n ≤ 3 ^ 20
  power_small ok = power_le g.n (within ok).most

-- the words of a table of degree 2, and of degree 3
pub table_of_lem : (n m : ℕ) (t : List ℕ) → Checked (quadratic n m t) → Table n m t
table_of_lem n m t ok = entries_of_lem (quadratic n m t) ok

pub cubic_table_of : (n m : ℕ) (t : List ℕ) → Checked (cubic n m t) → CubicTable n m t
cubic_table_of n m t ok = entries_of_lem (cubic n m t) ok

pub checked_of_lem : (n m : ℕ) (t : List ℕ) → Within n m → Table n m t → Checked (quadratic n m t)
checked_of_lem n m t w a = checked_if (quadratic n m t) w a

-- a copy of a legal table into room of its size is not refused
pub copy_into : (n m : ℕ) (from to : List ℕ) → Within n m → Table n m from → length to ≡ 2 * count_of n → copy_verdict n m from to ≡ done
copy_into n m from to w h room =
    let f : legal_front m from ≡ count_of n = (front_whole m (count_of n) from h.size).1 h.legal in
    sized_next n m (long n from (long n to (paired n m from done))) w
    ∙ refuse_none (not (eqb (length from) (2 * count_of n))) Length (long n to (paired n m from done)) (ap not (eq-eqb _ _ h.size))
    ∙ refuse_none (not (eqb (length to) (2 * count_of n))) Length (paired n m from done) (ap not (eq-eqb _ _ room))
    ∙ refuse_none (ltb (legal_front m from) (count_of n)) (Pair (legal_front m from)) done (le-ltb (legal_front m from) (count_of n) (omega (arith, f)))

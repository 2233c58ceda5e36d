-- The tests of the code, one after the other, are document 01's order of refusals.
use Rattle.std.specs.Prelude.{Err}
use mathlib.Core.Path.{◌≡◌, refl, sym, ap, ◌∙◌, subst}
use mathlib.Core.Bool.{Bool, true, false, not}
use mathlib.Core.List.{List}
use mathlib.Core.Logic.{◌↔◌}
use Prim.Native.Nat.{ℕ, ◌+◌, ◌*◌, ◌≤◌, ◌<◌}
use native.Mathlib.Omega.{arith}
use lib.Dec.{ltb, eqb}
use lib.ListN.{length}
use borrow.Author.Tests.{lt-ltb, le-ltb, eq-eqb, ne_eqb, ltb-true, ltb-false, eqb-true, not-false}
use Rattle.refusals.specs.declared.Refusal.{Refusal}
use Rattle.refusals.specs.declared.Refusal.TheVariants.{Size, Length, Pair}
use Rattle.refusals.specs.Refusal.{Verdict, code_of, refuse, sized, done}
use Rattle.refusals.specs.Limits.{Within}
use Rattle.refusals.proofs.RefusalLaw.{done_test, done_next, refuse_none, sized_within, sized_next, sized_done, refused_next, refused_last}
use Rattle.tables.specs.Monomials.{count_of}
use Rattle.tables.specs.Words.{legal_front, Entries, Table}
use Rattle.tables.specs.Answers.{long_of, paired_of, checked_then, checked_of, AcceptedOf, Accepted, FirstIllegalOf, FirstIllegal, entries_verdict, copy_verdict}
use Rattle.tables.proofs.WordLaw.{front_is, front_of, front_whole}

-- refusal 2, of a table of N entries
pub long_refused : (N : ℕ) (t : List ℕ) (v : Verdict) → (length t ≡ 2 * N → ⊥) → long_of N t v ≡ Err Length
long_refused N t v d = rw (ne_eqb (length t) (2 * N) d)

pub long_passed : (N : ℕ) (t : List ℕ) (v : Verdict) → length t ≡ 2 * N → long_of N t v ≡ v
long_passed N t v e = rw (eq-eqb (length t) (2 * N) e)

-- refusal 3
pub pair_refused : (N m : ℕ) (t : List ℕ) (v : Verdict) → legal_front m t < N → paired_of N m t v ≡ Err (Pair (legal_front m t))
pair_refused N m t v h = rw (lt-ltb (legal_front m t) N h)

pub pair_passed : (N m : ℕ) (t : List ℕ) (v : Verdict) → N ≤ legal_front m t → paired_of N m t v ≡ v
pair_passed N m t v h = rw (le-ltb (legal_front m t) N h)

-- a table that is judged twice is judged once
pub entries_self : (N n m : ℕ) (t : List ℕ) → sized n m (entries_verdict N m t t) ≡ sized n m (long_of N t (paired_of N m t done))
entries_self N n m t = ap (sized n m) (twice (not (eqb (length t) (2 * N))) (paired_of N m t done))
  where
    twice : (b : Bool) (v : Verdict) → refuse b Length (refuse b Length v) ≡ refuse b Length v
    twice true v = refl
    twice false v = refl

pub copy_self : (n m : ℕ) (t : List ℕ) → copy_verdict n m t t ≡ checked_of n m t
copy_self n = entries_self (count_of n) n

-- from one table of N entries into another, test after test
module _ (N m : ℕ) (from to : List ℕ) where
  pub copy_from : (length from ≡ 2 * N → ⊥) → entries_verdict N m from to ≡ Err Length
  copy_from d = long_refused N from (long_of N to (paired_of N m from done)) d

  module _ (read : length from ≡ 2 * N) where
    pub copy_to : (length to ≡ 2 * N → ⊥) → entries_verdict N m from to ≡ Err Length
    copy_to d = long_passed N from (long_of N to (paired_of N m from done)) read ∙ long_refused N to (paired_of N m from done) d

    module _ (written : length to ≡ 2 * N) where
      lengths : entries_verdict N m from to ≡ paired_of N m from done
      lengths = long_passed N from (long_of N to (paired_of N m from done)) read ∙ long_passed N to (paired_of N m from done) written

      pub copy_pair : (f : ℕ) → f ≡ legal_front m from → f < N → entries_verdict N m from to ≡ Err (Pair f)
      copy_pair f e h = lengths ∙ pair_refused N m from done (omega arith) ∙ ap (λ (x : ℕ). Err (Pair x)) (sym e)

      pub copy_done : (f : ℕ) → f ≡ legal_front m from → N ≤ f → entries_verdict N m from to ≡ done
      copy_done f e h = lengths ∙ pair_passed N m from done (omega arith)

-- ---- what is known where nothing is refused
refuse_done : (b : Bool) (r : Refusal) (v : Verdict) → refuse b r v ≡ done → (b ≡ false) × (v ≡ done)
refuse_done b r v e = (done_test b r v e, done_next b r v e)

pub long_done : (N : ℕ) (t : List ℕ) (v : Verdict) → long_of N t v ≡ done → (length t ≡ 2 * N) × (v ≡ done)
long_done N t v e =
    let a = refuse_done (not (eqb (length t) (2 * N))) Length v e in
    (eqb-true (length t) (2 * N) (not-false _ a.0), a.1)

pub paired_done : (N m : ℕ) (t : List ℕ) (v : Verdict) → length t ≡ 2 * N → paired_of N m t v ≡ done → Entries N m t × (v ≡ done)
paired_done N m t v l e =
    let a = refuse_done (ltb (legal_front m t) N) (Pair (legal_front m t)) v e in
    let b = ltb-false (legal_front m t) N a.0 in
    let f = front_of m N t l in
    (record { size = l; legal = λ k h. f.below k (omega arith) }, a.1)

-- a copy that is not refused: its sizes, a legal table read, and room for the other
pub record Ready (N n m : ℕ) (from to : List ℕ) : Type 0 where
  pub least : 1 ≤ n
  pub most : n ≤ 20
  pub table : Entries N m from
  pub room : length to ≡ 2 * N

pub entries_ready : (N n m : ℕ) (from to : List ℕ) → sized n m (entries_verdict N m from to) ≡ done → Ready N n m from to
entries_ready N n m from to e =
    let w = sized_within n m (entries_verdict N m from to) e in
    let a = sized_done n m (entries_verdict N m from to) e in
    let b = long_done N from (long_of N to (paired_of N m from done)) a in
    let c = long_done N to (paired_of N m from done) b.1 in
    let d = paired_done N m from done b.0 c.1 in
    record { least = w.least; most = w.most; table = d.0; room = c.0 }

pub copy_ready : (n m : ℕ) (from to : List ℕ) → copy_verdict n m from to ≡ done → Ready (count_of n) n m from to
copy_ready n = entries_ready (count_of n) n

-- ---- a table judged, and what is asked after it
pub entries_checked : (N n m : ℕ) (t : List ℕ) → checked_then N n m t done ≡ done → (n ≤ 20) × Entries N m t
entries_checked N n m t e =
    let b = long_done N t (paired_of N m t done) (sized_done n m (long_of N t (paired_of N m t done)) e) in
    ((sized_within n m (long_of N t (paired_of N m t done)) e).most, (paired_done N m t done b.0 b.1).0)

pub checked_ready : (n m : ℕ) (t : List ℕ) → checked_of n m t ≡ done → (n ≤ 20) × Table n m t
checked_ready n = entries_checked (count_of n) n

-- accepted exactly if all is as document 01 says
pub entries_accepted : (N n m : ℕ) (t : List ℕ) → (checked_then N n m t done ≡ done) ↔ AcceptedOf N n m t
entries_accepted N n m t = (
  (λ e. record { sizes = sized_within n m (long_of N t (paired_of N m t done)) e; table = (entries_checked N n m t e).1 }),
  (λ a.
      let e : legal_front m t ≡ N = (front_whole m N t a.table.size).1 a.table.legal in
      sized_next n m (long_of N t (paired_of N m t done)) a.sizes ∙ long_passed N t (paired_of N m t done) a.table.size
      ∙ pair_passed N m t done (omega arith)),
)

pub accepted_iff : (n m : ℕ) (t : List ℕ) → (checked_of n m t ≡ done) ↔ Accepted n m t
accepted_iff n = entries_accepted (count_of n) n

-- refused with 3 and an entry's number exactly if that entry is the first illegal one
pub entries_told : (N n m : ℕ) (t : List ℕ) (k : ℕ) → Within n m → length t ≡ 2 * N → (checked_then N n m t done ≡ Err (Pair k)) ↔ FirstIllegalOf N m t k
entries_told N n m t k w l = (
  (λ e.
      let a : paired_of N m t done ≡ Err (Pair k) = sym (here (paired_of N m t done)) ∙ e in
      let f = front_of m N t l in
      let p = pair_is (ltb (legal_front m t) N) (legal_front m t) k a in
      let i = ltb-true (legal_front m t) N p.0 in
      subst (FirstIllegalOf N m t) p.1 (record { inside = i; before = f.below; itself = f.stop i })),
  (λ f.
      let e : legal_front m t ≡ k = front_is m t N k l (omega (arith, f.inside)) f.before (λ h. f.itself) in
      here (paired_of N m t done) ∙ pair_refused N m t done (omega (arith, f.inside)) ∙ ap (λ (x : ℕ). Err (Pair x)) e),
)
  where
    here : (v : Verdict) → sized n m (long_of N t v) ≡ v
    here v = sized_next n m (long_of N t v) w ∙ long_passed N t v l

    pair_is : (b : Bool) (i k : ℕ) → refuse b (Pair i) done ≡ Err (Pair k) → (b ≡ true) × (i ≡ k)
    pair_is true i k e = let q : 3 + 256 * i ≡ 3 + 256 * k = ap code_of e in (refl, omega arith)
    pair_is false i k e = let q : 0 ≡ 3 + 256 * k = ap code_of e in absurd (omega arith)

pub entry_told : (n m : ℕ) (t : List ℕ) (k : ℕ) → Within n m → length t ≡ 2 * count_of n → (checked_of n m t ≡ Err (Pair k)) ↔ FirstIllegal n m t k
entry_told n = entries_told (count_of n) n

refuse_then : (b : Bool) (s r : Refusal) (f : Verdict → Verdict) (v : Verdict) → (f done ≡ Err r → f v ≡ Err r) → refuse b s (f done) ≡ Err r → refuse b s (f v) ≡ Err r
refuse_then b s r f v h e = refused_next b s r (f done) (f v) e h

refuse_pass : (b : Bool) (s : Refusal) (f : Verdict → Verdict) (v : Verdict) → (f done ≡ done → f v ≡ v) → refuse b s (f done) ≡ done → refuse b s (f v) ≡ v
refuse_pass b s f v h e = refuse_none b s (f v) (done_test b s (f done) e) ∙ h (done_next b s (f done) e)

-- a refusal of the table comes before what is asked next
pub entries_refused : (N n m : ℕ) (t : List ℕ) (r : Refusal) (v : Verdict) → checked_then N n m t done ≡ Err r → checked_then N n m t v ≡ Err r
entries_refused N n m t r v =
    refuse_then (ltb n 1) Size r (λ u. refuse (ltb 20 n) Size (refuse (ltb m 1) Size (refuse (ltb 64 m) Size (long_of N t (paired_of N m t u))))) v
    (refuse_then (ltb 20 n) Size r (λ u. refuse (ltb m 1) Size (refuse (ltb 64 m) Size (long_of N t (paired_of N m t u)))) v
    (refuse_then (ltb m 1) Size r (λ u. refuse (ltb 64 m) Size (long_of N t (paired_of N m t u))) v
    (refuse_then (ltb 64 m) Size r (λ u. long_of N t (paired_of N m t u)) v
    (refuse_then (not (eqb (length t) (2 * N))) Length r (λ u. paired_of N m t u) v
    (refused_last (ltb (legal_front m t) N) (Pair (legal_front m t)) r v)))))

pub checked_refused : (n m : ℕ) (t : List ℕ) (r : Refusal) (v : Verdict) → checked_of n m t ≡ Err r → checked_then (count_of n) n m t v ≡ Err r
checked_refused n = entries_refused (count_of n) n

pub entries_passed : (N n m : ℕ) (t : List ℕ) (v : Verdict) → checked_then N n m t done ≡ done → checked_then N n m t v ≡ v
entries_passed N n m t v =
    refuse_pass (ltb n 1) Size (λ u. refuse (ltb 20 n) Size (refuse (ltb m 1) Size (refuse (ltb 64 m) Size (long_of N t (paired_of N m t u))))) v
    (refuse_pass (ltb 20 n) Size (λ u. refuse (ltb m 1) Size (refuse (ltb 64 m) Size (long_of N t (paired_of N m t u)))) v
    (refuse_pass (ltb m 1) Size (λ u. refuse (ltb 64 m) Size (long_of N t (paired_of N m t u))) v
    (refuse_pass (ltb 64 m) Size (λ u. long_of N t (paired_of N m t u)) v
    (refuse_pass (not (eqb (length t) (2 * N))) Length (λ u. paired_of N m t u) v
    (λ e. refuse_none (ltb (legal_front m t) N) (Pair (legal_front m t)) v (done_test (ltb (legal_front m t) N) (Pair (legal_front m t)) done e))))))

pub checked_passed : (n m : ℕ) (t : List ℕ) (v : Verdict) → checked_of n m t ≡ done → checked_then (count_of n) n m t v ≡ v
checked_passed n = entries_passed (count_of n) n

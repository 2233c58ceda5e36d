-- On a checked table and its own record a call is refused only for its budget or its list.
use Rattle.std.specs.Prelude.{Ok, Err}
use mathlib.Core.Path.{◌≡◌, refl, sym, ap, ap₂, ◌∙◌}
use mathlib.Core.Bool.{Bool, true, false, not}
use mathlib.Core.List.{List}
use Prim.Native.Nat.{ℕ, ◌+◌, ◌^◌, ◌≤◌}
use lib.Dec.{eqb}
use lib.ListN.{length}
use borrow.Author.Tests.{le-leb, eq-eqb, ne_eqb, eqb-false, not-false}
use Rattle.refusals.specs.declared.Refusal.{Refusal}
use Rattle.refusals.specs.declared.Refusal.TheVariants as refusal
use Rattle.refusals.specs.Refusal.{Verdict, code_of, refuse, after, done}
use Rattle.refusals.proofs.RefusalLaw as refusals
use Rattle.given.specs.Given.{Given, table_verdict, Checked}
use Rattle.given.proofs.TableLaw.{checked_next, refused_first, done_first, done_next}
use Rattle.opening.specs.declared.Record.{Record}
use Rattle.opening.specs.Opened.{opened_at}
use Rattle.outcomes.specs.Search.{trail_behind, fits, room_verdict, search_verdict, answer_from, ran_of, outcome_from, outcome_of, list_left, answer_number, answer_values, values_from, Tells}
use Rattle.outcomes.specs.declared.Outcome.{Outcome}
use Rattle.walks.specs.Calls.{points_in, report_of, list_after}
use Rattle.walks.specs.declared.Report.{Report}
use Rattle.outcomes.proofs.RecordLaw.{record_self}

-- the last two questions
abbrev pub asked : ℕ → List ℕ → Verdict
asked b l = refuse (eqb b 0) refusal.Budget (refuse (eqb (length l) 0) refusal.List done)

pub fits_opened : (g : Given) (p : ℕ) → p ≤ 3 ^ g.n → fits g (opened_at g p) ≡ true
unfolding opened_at
fits_opened g p h = rw (le-leb p (3 ^ g.n) h) (record_self (opened_at g p))

pub verdict_opened : (g : Given) (p b : ℕ) (l : List ℕ) → Checked g → p ≤ 3 ^ g.n
    → search_verdict g (opened_at g p) b l ≡ asked b l
verdict_opened g p b l e h =
    checked_next g (refuse (not (fits g (opened_at g p))) refusal.Record (asked b l)) e
    ∙ refusals.refuse_none (not (fits g (opened_at g p))) refusal.Record (asked b l) (ap not (fits_opened g p h))

-- ---- the verdict on a call, by what its code asks: the table g, record r, budget b, a list of c entries
module _ (g : Given) (r : Record) (b c : ℕ) where
  -- record, budget and list, by the three tests
  abbrev last_three : Bool → Bool → Bool → Verdict
  last_three x y z = refuse (not x) refusal.Record (refuse y refusal.Budget (refuse z refusal.List done))

  pub by_table : (f : Refusal) → table_verdict g done ≡ Err f → Err f ≡ room_verdict g r b c
  by_table f e = sym (refused_first g f (last_three (fits g r) (eqb b 0) (eqb c 0)) e)

  module _ (e : Checked g) where
    next : room_verdict g r b c ≡ last_three (fits g r) (eqb b 0) (eqb c 0)
    next = checked_next g (last_three (fits g r) (eqb b 0) (eqb c 0)) e

    pub by_record : fits g r ≡ false → Err refusal.Record ≡ room_verdict g r b c
    by_record h = sym (next ∙ ap (λ (x : Bool). last_three x (eqb b 0) (eqb c 0)) h)

    pub by_budget : fits g r ≡ true → b ≡ 0 → Err refusal.Budget ≡ room_verdict g r b c
    by_budget h z = sym (next ∙ ap₂ (λ (x y : Bool). last_three x y (eqb c 0)) h (eq-eqb b 0 z))

    pub by_list : fits g r ≡ true → (b ≡ 0 → ⊥) → c ≡ 0 → Err refusal.List ≡ room_verdict g r b c
    by_list h z k = sym (next ∙ ap₂ (λ (x y : Bool). last_three x y (eqb c 0)) h (ne_eqb b 0 z) ∙ ap (last_three true false) (eq-eqb c 0 k))

    pub by_none : fits g r ≡ true → (b ≡ 0 → ⊥) → (c ≡ 0 → ⊥) → done ≡ room_verdict g r b c
    by_none h z k = sym (next ∙ ap₂ (λ (x y : Bool). last_three x y (eqb c 0)) h (ne_eqb b 0 z) ∙ ap (last_three true false) (ne_eqb c 0 k))

  -- what nothing refuses
  pub record Passed : Type 0 where
    pub checked : Checked g
    pub own : fits g r ≡ true
    pub budget : b ≡ 0 → ⊥
    pub room : c ≡ 0 → ⊥

  pub passed : room_verdict g r b c ≡ done → Passed
  passed e =
      let e3 = done_next g (last_three (fits g r) (eqb b 0) (eqb c 0)) e in
      let e4 = refusals.done_next (not (fits g r)) refusal.Record (refuse (eqb b 0) refusal.Budget (refuse (eqb c 0) refusal.List done)) e3 in
      let e5 = refusals.done_next (eqb b 0) refusal.Budget (refuse (eqb c 0) refusal.List done) e4 in
      record {
        checked = done_first g (last_three (fits g r) (eqb b 0) (eqb c 0)) e;
        own = not-false (fits g r) (refusals.done_test (not (fits g r)) refusal.Record (refuse (eqb b 0) refusal.Budget (refuse (eqb c 0) refusal.List done)) e3);
        budget = eqb-false b 0 (refusals.done_test (eqb b 0) refusal.Budget (refuse (eqb c 0) refusal.List done) e4);
        room = eqb-false c 0 (refusals.done_test (eqb c 0) refusal.List done e5);
      }

-- ---- one call of the search, by its verdict
-- what is refused leaves record and list as they were
pub away : (g : Given) (r : Record) (b : ℕ) (l : List ℕ) (f : Refusal) → search_verdict g r b l ≡ Err f
    → (record { answer = Err f; «record» = r } ≡ outcome_of g r b l) × (l ≡ list_left g r b l)
away g r b l f e = (
  sym (ap (λ (v : Verdict). outcome_from v r (ran_of g r.place.0 b (length l))) e),
  sym (ap (λ (v : Verdict). after v l (list_after (trail_behind g) b r.place.0 l)) e),
)

-- what nothing refuses runs
pub went : (g : Given) (r : Record) (b : ℕ) (l : List ℕ) → search_verdict g r b l ≡ done → (o : Outcome) (k : List ℕ)
    → o ≡ ran_of g r.place.0 b (length l) → k ≡ list_after (trail_behind g) b r.place.0 l
    → (o ≡ outcome_of g r b l) × (k ≡ list_left g r b l)
went g r b l d o k eo ek = (
  eo ∙ sym (ap (λ (v : Verdict). outcome_from v r (ran_of g r.place.0 b (length l))) d),
  ek ∙ sym (ap (λ (v : Verdict). after v l (list_after (trail_behind g) b r.place.0 l)) d),
)

-- an answer tells document 01's number and values
tells_by : (v : Verdict) (e : ℕ) (w : Report) (o : Record) → (answer_number (answer_from v (record { answer = Ok w; «record» = o })) ≡ code_of v)
    × (answer_values e (answer_from v (record { answer = Ok w; «record» = o })) ≡ values_from v e w)
tells_by (Ok _) e w o = (refl, refl)
tells_by (Err f) e w o = (refl, refl)

pub tells_of : (g : Given) (r : Record) (b : ℕ) (l : List ℕ) (o : Outcome) → o ≡ outcome_of g r b l → Tells g r b l o.answer
tells_of g r b l o e =
    let k = tells_by (search_verdict g r b l) (3 ^ g.n) (report_of (trail_behind g) b (length l) r.place.0) (opened_at g (r.place.0 + points_in (trail_behind g) b (length l) r.place.0)) in
    record { number = ap (λ (y : Outcome). answer_number y.answer) e ∙ k.0; values = ap (λ (y : Outcome). answer_values (3 ^ g.n) y.answer) e ∙ k.1 }

-- A call on the parts of a record, put together again, is the call on the record.
use mathlib.Core.Path.{◌≡◌, refl, ap, ◌∙◌}
use mathlib.Core.Bool.{true}
use mathlib.Core.List.{List}
use Prim.Native.Nat.{ℕ}
use lib.ListN.{length}
use Rattle.given.specs.Given.{Given, Checked}
use Rattle.opening.specs.declared.Record.{Record}
use Rattle.opening.specs.First.{whole_of}
use Rattle.outcomes.specs.declared.Moved.{Moved}
use Rattle.outcomes.specs.declared.Outcome.{Outcome}
use Rattle.outcomes.specs.Search.{fits, ran_of, outcome_of, list_left, Tells}
use Rattle.outcomes.specs.First.{first_for, outcome_with}
use Rattle.outcomes.proofs.VerdictLaw.{tells_of}
use Rattle.outcomes.proofs.FirstLaw.{parts_fit, parts_ran, parts_joined}
use Rattle.search.specs.Lending.{Lent, Left}

module _ (g : Given) (r : Record) (s : List ℕ) (h : Lent g.degree r s) where
  abbrev w : Record
  w = whole_of g.degree (first_for g.degree r) s

  pub parts_told : (b : ℕ) (l : List ℕ) (o : Moved) (k s' : List ℕ) (u : Outcome) → outcome_with g.degree o s' ≡ outcome_of g w b l → k ≡ list_left g w b l
      → Left g.degree r o s' u → (u ≡ outcome_of g r b l) × (k ≡ list_left g r b l) × Tells g r b l u.answer
  parts_told b l o k s' u eo ek left =
      let j = parts_joined g.degree g.n g.m g.words r h.whole s h.same b l o k s' eo ek left.long in
      let i = left.outcome ∙ j.0 in
      (i, j.1, tells_of g r b l u i)

  module _ (ok : Checked g) (own : fits g r ≡ true) where
    pub parts_own : fits g w ≡ true
    parts_own = ap (fits g) (parts_fit g.degree g.n g.m g.words r h.whole s h.same ok own) ∙ own

    pub ran_told : (b : ℕ) (l : List ℕ) (o : Moved) (k s' : List ℕ) (u : Outcome) → outcome_with g.degree o s' ≡ ran_of g r.place.0 b (length l)
        → Left g.degree r o s' u → u ≡ ran_of g r.place.0 b (length l)
    ran_told b l o k s' u eo left =
        left.outcome ∙ parts_ran g.degree g.n g.m g.words r h.whole s h.same (parts_fit g.degree g.n g.m g.words r h.whole s h.same ok own) o s' _ _ eo refl left.long

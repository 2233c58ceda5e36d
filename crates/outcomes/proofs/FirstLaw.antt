-- A record in two parts is refused as the whole is, and where it is not refused it is the whole.
use Rattle.std.specs.Prelude.{Ok, Err}
use mathlib.Core.Path.{◌≡◌, refl, sym, ap, ap₂, ◌∙◌}
use mathlib.Core.Bool.{Bool, true, false, ◌&&◌, false≢true}
use mathlib.Core.Logic.{◌⊎◌, inl, inr, ⊎_elim}
use mathlib.Core.List.{List, [], ◌∷◌, ◌++◌, append-nil}
use Prim.Native.Nat.{ℕ, ◌-◌, ◌^◌, ◌≤◌}
use native.Mathlib.Omega.{arith}
use lib.ListN.{length, take, drop, replicate, drop_of_length-le}
use lib.Seq.{take_all}
use borrow.Author.Tests.{le-leb}
use Rattle.refusals.specs.Choice.{pick}
use Rattle.refusals.specs.declared.Refusal.{Refusal}
use Rattle.refusals.specs.Refusal.{Verdict, done}
use Rattle.walks.specs.declared.Report.{Report}
use Rattle.walks.specs.Calls.{report_of}
use Rattle.given.specs.declared.Degree.{Degree}
use Rattle.given.specs.declared.Degree.TheVariants.{Two, Three}
use Rattle.given.specs.Given.{Given, table_with, quadratic, table_verdict, Checked}
use Rattle.given.proofs.TableLaw.{within}
use Rattle.given.proofs.SlotLaw.{seconds_two}
use Rattle.opening.specs.declared.First.{First}
use Rattle.opening.specs.declared.Record.{Record}
use Rattle.opening.specs.Opened.{opened_at}
use Rattle.opening.specs.First.{all_zero, lent_words, seconds_from, whole_of}
use Rattle.outcomes.specs.Search.{Answer}
use Rattle.outcomes.specs.declared.Moved.{Moved}
use Rattle.outcomes.specs.declared.Outcome.{Outcome}
use Rattle.outcomes.specs.Search.{trail_behind, same_record, fits, room_verdict, search_verdict, ran_of, outcome_from, outcome_of, list_left}
use Rattle.outcomes.specs.First.{first_for, outcome_with}
use Rattle.outcomes.specs.First.{joined_of}
use Rattle.outcomes.proofs.RecordLaw.{zeros_are, zeros_all}
use Rattle.outcomes.proofs.FitsLaw.{fits_opened}
use Rattle.outcomes.proofs.VerdictLaw.{by_table, by_record, passed, away}

refuted : (b : Bool) → (b ≡ true → ⊥) → b ≡ false
refuted true f = absurd (f refl)
refuted false f = refl

-- what is put together, by the answer
pub joined_refused : (a : Answer) (f : First) (r : Record) (s : List ℕ) (x : Refusal) → a ≡ Err x → record { answer = a; «record» = r } ≡ joined_of a f r s
unfolding joined_of
joined_refused a f r s x e = ap (λ (y : Answer). record { answer = y; «record» = r }) e ∙ sym (ap (λ (y : Answer). joined_of y f r s) e)

pub joined_ran : (a : Answer) (f : First) (r : Record) (s : List ℕ) (x : Report) → a ≡ Ok x
    → record { answer = a; «record» = record { n = f.n; m = f.m; place = f.place; value = f.value; slots = f.slots; seconds = s } } ≡ joined_of a f r s
unfolding joined_of
joined_ran a f r s x e =
    ap (λ (y : Answer). record { answer = y; «record» = record { n = f.n; m = f.m; place = f.place; value = f.value; slots = f.slots; seconds = s } }) e
    ∙ sym (ap (λ (y : Answer). joined_of y f r s) e)

-- at most all words are lent
pub lent_most : (d : Degree) → lent_words d ≤ 420
lent_most Two = omega arith
lent_most Three = omega arith

-- a record at a place of the walk fits where it is the one opened there, of the degree that was told
pub fitting : (d c : Degree) → d ≡ c → (n m : ℕ) (t : List ℕ) (f : First) (s : List ℕ) → f.place.0 ≤ 3 ^ n
    → same_record (whole_of c f s) (opened_at (table_with c n m t) f.place.0) ≡ fits (table_with d n m t) (whole_of d f s)
fitting d c e n m t f s h =
    ap (λ (x : Degree). same_record (whole_of x f s) (opened_at (table_with x n m t) f.place.0)) (sym e)
    ∙ sym (ap (λ (b : Bool). b && same_record (whole_of d f s) (opened_at (table_with d n m t) f.place.0)) (le-leb f.place.0 (3 ^ n) h))

-- the parts are the record, or neither fits the table
abbrev Same : Given → Record → Record → Type 0
Same g w r = (w ≡ r) ⊎ ((fits g w ≡ false) × (fits g r ≡ false))

-- in degree 2, by whether there are no second slots
two_parts : (n m : ℕ) (t : List ℕ) (r : Record) → length r.seconds ≡ 420 → 1 ≤ n → (s : List ℕ) (z : Bool) → all_zero r.seconds ≡ z
    → Same (quadratic n m t) (whole_of Two (first_for Two r) s) r
unfolding opened_at
two_parts n m t r long some s true e =
    let z : replicate 420 0 ≡ r.seconds = sym (zeros_are r.seconds e ∙ ap (λ (k : ℕ). replicate k 0) long) in
    inl (ap₂ (λ (b : Bool) (l : List ℕ). record { n = pick b r.n 0; m = r.m; place = r.place; value = r.value; slots = r.slots; seconds = l }) e z)
two_parts n m t r long some s false e =
    let g = quadratic n m t in
    let w = whole_of Two (first_for Two r) s in
    let p = r.place.0 in
    let n0 : w.n ≡ 0 = ap (λ (b : Bool). pick b r.n 0) e in
    inr (
      refuted (fits g w) (λ h. let i : w.n ≡ n = ap (λ (x : Record). x.n) (fits_opened g w h) in absurd (omega (arith, n0, i, some))),
      refuted (fits g r) (λ h.
          let i : r.seconds ≡ replicate 420 0 = ap (λ (x : Record). x.seconds) (fits_opened g r h) ∙ sym (seconds_two n m t (p - 1)) in
          false≢true (sym e ∙ ap all_zero i ∙ zeros_all 420)),
    )

pub parts_same : (d : Degree) (n m : ℕ) (t : List ℕ) (r : Record) → length r.seconds ≡ 420 → 1 ≤ n → (s : List ℕ) → seconds_from d s ≡ seconds_from d r.seconds
    → Same (table_with d n m t) (whole_of d (first_for d r) s) r
parts_same Two n m t r long some s e = two_parts n m t r long some s (all_zero r.seconds) refl
parts_same Three n m t r long some s e =
    inl (ap (λ (l : List ℕ). record { n = r.n; m = r.m; place = r.place; value = r.value; slots = r.slots; seconds = l }) e)

-- the words lent are the front of all
pub lent_front : (d : Degree) (s : List ℕ) → length s ≡ 420 → seconds_from d (take (lent_words d) s) ≡ seconds_from d s
lent_front Two s e = refl
lent_front Three s e = take_all 420 s (omega (arith, e))

-- and with the rest they are the second slots
pub seconds_left : (d : Degree) (s' s : List ℕ) → length s' ≡ lent_words d → length s ≡ 420 → seconds_from d s ≡ s → s' ++ drop (lent_words d) s ≡ seconds_from d s'
seconds_left Two [] s kept long e = sym e
seconds_left Two (x ∷ s') s kept long e = absurd (omega (arith, kept))
seconds_left Three s' s kept long e = ap (λ (x : List ℕ). s' ++ x) (drop_of_length-le s {i = 420} (omega (arith, long))) ∙ append-nil s'

module _ (d : Degree) (n m : ℕ) (t : List ℕ) (r : Record) (long : length r.seconds ≡ 420) (s : List ℕ) (lent : seconds_from d s ≡ seconds_from d r.seconds) where
  abbrev g : Given
  g = table_with d n m t

  abbrev w : Record
  w = whole_of d (first_for d r) s

  same : Checked g → Same g w r
  same ok = parts_same d n m t r long (within g ok).least s lent

  -- ---- the same verdict
  by_verdict : (b c : ℕ) (v : Verdict) → table_verdict g done ≡ v → room_verdict g w b c ≡ room_verdict g r b c
  by_verdict b c (Err f) e = sym (by_table g w b c f e) ∙ by_table g r b c f e
  by_verdict b c (Ok _) e =
      ⊎_elim (λ i. ap (λ (x : Record). room_verdict g x b c) i)
      (λ f. sym (by_record g w b c e f.0) ∙ by_record g r b c e f.1) (same e)

  pub parts_verdict : (b c : ℕ) → room_verdict g w b c ≡ room_verdict g r b c
  parts_verdict b c = by_verdict b c (table_verdict g done) refl

  -- ---- where nothing is refused, the same record
  pub parts_whole : (b c : ℕ) → room_verdict g r b c ≡ done → w ≡ r
  parts_whole b c e =
      let p = passed g w b c (parts_verdict b c ∙ e) in
      ⊎_elim (λ i. i) (λ f. absurd (false≢true (sym f.0 ∙ p.own))) (same p.checked)

  pub parts_fit : Checked g → fits g r ≡ true → w ≡ r
  parts_fit ok h = ⊎_elim (λ i. i) (λ f. absurd (false≢true (sym f.1 ∙ h))) (same ok)

  -- ---- a call on the parts that ran, put together again
  pub parts_ran : w ≡ r → (o : Moved) (s' : List ℕ) (u : Outcome) (x : Report) → outcome_with d o s' ≡ u → u.answer ≡ Ok x → length s' ≡ lent_words d
      → joined_of o.answer o.first r (s' ++ drop (lent_words d) r.seconds) ≡ u
  unfolding joined_of
  parts_ran i o s' u x e ea kept =
      let a : o.answer ≡ Ok x = ap (λ (y : Outcome). y.answer) e ∙ ea in
      let es = seconds_left d s' r.seconds kept long (sym lent ∙ ap (λ (y : Record). y.seconds) i) in
      ap (λ (y : Answer). joined_of y o.first r (s' ++ drop (lent_words d) r.seconds)) a
      ∙ ap (λ (y : List ℕ). joined_of (Ok x) o.first r y) es
      ∙ ap (λ (y : Answer). record { answer = y; «record» = whole_of d o.first s' }) (sym a)
      ∙ e

  -- ---- any call on them
  module _ (b : ℕ) (l : List ℕ) (o : Moved) (k s' : List ℕ) (eo : outcome_with d o s' ≡ outcome_of g w b l) (ek : k ≡ list_left g w b l) where
    parts_refused : (f : Refusal) → search_verdict g r b l ≡ Err f → (x : List ℕ) → (joined_of o.answer o.first r x ≡ outcome_of g r b l) × (k ≡ list_left g r b l)
    unfolding joined_of
    parts_refused f e x =
        let i = away g w b l f (parts_verdict b (length l) ∙ e) in
        let j = away g r b l f e in
        let a : o.answer ≡ Err f = ap (λ (y : Outcome). y.answer) (eo ∙ sym i.0) in
        (ap (λ (y : Answer). joined_of y o.first r x) a ∙ j.0, ek ∙ sym i.1 ∙ j.1)

    parts_done : search_verdict g r b l ≡ done → length s' ≡ lent_words d
        → (joined_of o.answer o.first r (s' ++ drop (lent_words d) r.seconds) ≡ outcome_of g r b l) × (k ≡ list_left g r b l)
    parts_done e kept =
        let i = parts_whole b (length l) e in (
          parts_ran i o s' (outcome_of g r b l) (report_of (trail_behind g) b (length l) r.place.0)
              (eo ∙ ap (λ (x : Record). outcome_of g x b l) i)
              (ap (λ (v : Verdict). (outcome_from v r (ran_of g r.place.0 b (length l))).answer) e) kept,
          ek ∙ ap (λ (x : Record). list_left g x b l) i,
        )

    by_said : (v : Verdict) → search_verdict g r b l ≡ v → length s' ≡ lent_words d
        → (joined_of o.answer o.first r (s' ++ drop (lent_words d) r.seconds) ≡ outcome_of g r b l) × (k ≡ list_left g r b l)
    by_said (Err f) e kept = parts_refused f e (s' ++ drop (lent_words d) r.seconds)
    by_said (Ok _) e kept = parts_done e kept

    pub parts_joined : length s' ≡ lent_words d
        → (joined_of o.answer o.first r (s' ++ drop (lent_words d) r.seconds) ≡ outcome_of g r b l) × (k ≡ list_left g r b l)
    parts_joined kept = by_said (search_verdict g r b l) refl kept

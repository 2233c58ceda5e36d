-- The walk of degree 2 from the opened record is the call on the walk of the system, and leaves the record opened where it came to.
use mathlib.Core.Path.{◌≡◌, refl, sym, ap, ap₂, subst, ◌∙◌}
use mathlib.Core.Bool.{true}
use mathlib.Core.Logic.{by_cases}
use mathlib.Core.List.{List}
use Prim.Native.Nat.{ℕ, ◌-◌, ◌%◌, ◌^◌, ◌≤◌}
use native.Mathlib.Nat.{mod-eq_of_lt}
use native.Mathlib.Decide.{dec_lt}
use native.Mathlib.Omega.{arith}
use lib.ListN.{length, replicate, get_or-eq_default}
use Rattle.trits.specs.declared.Vector.{Vector}
use Rattle.trits.specs.Trit.{none}
use Rattle.trits.proofs.LegalLaw.{trit_lt}
use Rattle.polynomials.specs.Poly.{Poly}
use Rattle.polynomials.proofs.FormLaw.{table_back, half_three}
use Rattle.tables.specs.Monomials.{index_of}
use Rattle.tables.specs.Words.{entry, poly_at}
use Rattle.tables.proofs.IndexLaw.{index_lt}
use Rattle.walk.specs.declared.Ran.{Ran}
use Rattle.walk.specs.declared.Walker.{Walker}
use Rattle.moves.specs.Step.{State}
use Rattle.moves.specs.Moves.{product}
use Rattle.walk.specs.Run.{state_of, fresh, search_of}
use Rattle.walk.specs.Meaning.{Stands, Tabled, Answers}
use Rattle.walk.proofs.MeanLaw.{stands_value, stands_slot, opened_stands, differences_tabled}
use Rattle.walk.proofs.CallLaw.{call_is}
use Rattle.given.specs.Given.{Given, quadratic, behind, values_of, Checked}
use Rattle.given.specs.Slots.{value_at, slots_at}
use Rattle.given.proofs.TableLaw.{within, table_of_lem}
use Rattle.given.proofs.SlotLaw.{slot_used, slot_none, slots_length, slots_at_lem, slots_are, seconds_two}
use Rattle.opening.specs.declared.Record.{Record}
use Rattle.opening.specs.Opened.{opened_at}
use Rattle.opening.proofs.PlaceLaw.{two}
use Rattle.walking.specs.declared.Went.{Went}
use Rattle.outcomes.specs.Search.{trail_behind, fits}
use Rattle.walking.specs.Leaves.{Leaves}
use Rattle.outcomes.proofs.FitsLaw.{fits_place, fits_opened}
use Rattle.walking.proofs.LeavesLaw.{leaves}

module _ (n m : ℕ) (t : List ℕ) where
  abbrev g : Given
  g = quadratic n m t

  abbrev S : ℕ → Poly
  S = behind n t

  abbrev walker_at : ℕ → Walker
  walker_at p = record { place = p; value = value_at g (p - 1); slots = slots_at g (p - 1) 0 20 }

  walker_is : (r : Record) → fits g r ≡ true → record { place = r.place.0; value = r.value; slots = r.slots } ≡ walker_at r.place.0
  unfolding opened_at
  walker_is r h =
      let e = fits_opened g r h in
      ap₂ (λ (u : Vector) (s : List Vector). record { place = r.place.0; value = u; slots = s }) (ap (λ (x : Record). x.value) e) (ap (λ (x : Record). x.slots) e)

  -- the opened record stands at its place
  stands_open : n ≤ 20 → (p : ℕ) (l : List ℕ) → Stands S n m p (fresh (walker_at p) l)
  unfolding value_at values_of
  stands_open small p l =
      opened_stands S n m p (fresh (walker_at p) l) refl (omega (arith, slots_length g (p - 1) 0 20)) refl
      (λ b h. slots_at_lem g (p - 1) 20 b (omega arith) ∙ slot_used g (p - 1) b h)
      (λ i h. by_cases (dec_lt i 20) (λ k. slots_at_lem g (p - 1) 20 i k ∙ slot_none g (p - 1) i h)
      (λ k. get_or-eq_default (slots_at g (p - 1) 0 20) none (omega (arith, slots_length g (p - 1) 0 20))))

  -- the table holds the differences of the system
  tabled : Checked g → Tabled S n m (product t n)
  unfolding poly_at
  tabled ok =
      differences_tabled S n m (product t n) (λ b c h l. (table_of_lem n m t ok).legal _ (index_lt n b c h l))
      (λ e b c k h l.
      let small = trit_lt (entry t (index_of n b c)) e in
      sym (mod-eq_of_lt small) ∙ ap (λ (x : ℕ). x % 3) (sym (table_back 3 two 2 half_three (poly_at n t e) b c small)))

  -- a state that stands at p is the record opened at p
  opened_at_lem : (p : ℕ) (s : State) → length s.slots ≡ 20 → Stands S n m p s
      → record { n = n; m = m; place = record { 0 = p }; value = s.value; slots = s.slots; seconds = replicate 420 0 } ≡ opened_at g p
  unfolding opened_at value_at values_of
  opened_at_lem p s long h =
      let e1 = stands_value S n m p s h in
      let e2 = slots_are g (p - 1) s.slots long
      (λ i k. by_cases (dec_lt i n)
      (λ b. stands_slot S n m p s h i b ∙ sym (slot_used g (p - 1) i b))
      (λ b. h.rest i (omega arith) ∙ sym (slot_none g (p - 1) i (omega arith)))) in
      let e3 = seconds_two n m t (p - 1) in
      λ i. record { n = n; m = m; place = record { 0 = p }; value = e1 i; slots = e2 i; seconds = e3 i }

  -- ---- from what the walk's code says
  module _ (ok : Checked g) (r : Record) (own : fits g r ≡ true) (b e : ℕ) (l k : List ℕ) (x : Ran Walker) (end : e ≡ 3 ^ n) (long : length x.walker.slots ≡ 20)
      (went : state_of x k ≡ search_of t n e b (fresh (record { place = r.place.0; value = r.value; slots = r.slots }) l)) where
    abbrev p : ℕ
    p = r.place.0

    call : Answers (trail_behind g) b p l (state_of x k) × Stands S n m x.walker.place (state_of x k)
    unfolding trail_behind values_of
    call =
        subst (λ (s : State). Answers (trail_behind g) b p l s × Stands S n m s.place s)
        (sym (went ∙ ap (λ (y : ℕ). search_of t n y b (fresh (record { place = r.place.0; value = r.value; slots = r.slots }) l)) end
        ∙ ap (λ (y : Walker). search_of t n (3 ^ n) b (fresh y l)) (walker_is r own)))
        (call_is S n m (3 ^ n) (product t n) (tabled ok) (omega arith) b p (fresh (walker_at p) l) (fits_place g r own) (stands_open (within g ok).most p l) refl refl)

    abbrev left : Went
    left =
        record {
          first = record { n = n; m = m; place = record { 0 = x.walker.place }; value = x.walker.value; slots = x.walker.slots };
          additions = x.additions;
          found = x.found;
        }

    pub two_leaves : (s : List ℕ) → Leaves g p b l k s left
    two_leaves s =
        leaves g p b l k s left call.0.place call.0.additions call.0.found call.0.list
        (opened_at_lem x.walker.place (state_of x k) long call.1)

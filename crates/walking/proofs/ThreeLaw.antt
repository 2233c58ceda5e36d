-- The walk of degree 3 from the opened record is the call on the walk of the system, and leaves the record opened where it came to.
use mathlib.Core.Path.{◌≡◌, refl, sym, ap, subst, ◌∙◌}
use mathlib.Core.Bool.{true}
use mathlib.Core.Logic.{by_cases}
use mathlib.Core.List.{List}
use Prim.Native.Nat.{ℕ, ◌-◌, ◌^◌, ◌≤◌, ◌<◌}
use native.Mathlib.Decide.{dec_lt}
use native.Mathlib.Omega.{arith}
use lib.ListN.{length, get_or-eq_default}
use Rattle.trits.specs.Trit.{none}
use Rattle.held.proofs.FlatLaw.{Ext}
use Rattle.cubics.specs.Cubic.{cubic_of}
use Rattle.cubics.proofs.CubicLaw.{flat_cubic, ext_cubic}
use Rattle.cubic_tables.specs.Words.{triple_at}
use Rattle.cubic_moves.specs.Step.{State}
use Rattle.walk.specs.declared.Ran.{Ran}
use Rattle.cubic_walk.specs.declared.Walker.{Walker}
use Rattle.cubic_walk.specs.Run.{state_of, fresh, search_of}
use Rattle.cubic_walk.specs.Meaning.{Stands, Answers}
use Rattle.cubic_walk.proofs.MeanLaw.{stands_value, stands_slot, stands_second, opened_stands, differences_tabled}
use Rattle.cubic_walk.proofs.CallLaw.{call_is}
use Rattle.given.specs.declared.Degree.TheVariants.{Three}
use Rattle.given.specs.Given.{Given, cubic, cubic_behind, values_of, Checked}
use Rattle.given.specs.Slots.{value_at, slots_at, seconds_at}
use Rattle.given.proofs.TableLaw.{within, cubic_table_of}
use Rattle.given.proofs.SlotLaw.{slot_used, slot_none, slots_length, slots_at_lem, slots_are, second_used, second_none, seconds_long, seconds_at_lem, seconds_are}
use Rattle.opening.specs.declared.Record.{Record}
use Rattle.opening.specs.Opened.{opened_at}
use Rattle.opening.specs.First.{whole_of}
use Rattle.walking.specs.declared.Went.{Went}
use Rattle.outcomes.specs.Search.{trail_behind, fits}
use Rattle.walking.specs.Leaves.{Leaves}
use Rattle.outcomes.proofs.FitsLaw.{fits_place, fits_opened}
use Rattle.walking.proofs.LeavesLaw.{leaves}

module _ (n m : ℕ) (t : List ℕ) where
  abbrev g : Given
  g = cubic n m t

  abbrev F : ℕ → (ℕ → ℕ) → ℕ
  F e = cubic_of (cubic_behind n t e) n

  pos : 0 < 3
  pos = omega arith

  ext : (e : ℕ) → Ext 3 (F e)
  ext e = ext_cubic 3 pos (cubic_behind n t e) n

  abbrev walker_at : ℕ → Walker
  walker_at p = record { place = p; value = value_at g (p - 1); slots = slots_at g (p - 1) 0 20; seconds = seconds_at g (p - 1) 0 20 }

  walker_is : (r : Record) → fits g r ≡ true → record { place = r.place.0; value = r.value; slots = r.slots; seconds = r.seconds } ≡ walker_at r.place.0
  unfolding opened_at
  walker_is r h =
      let e = fits_opened g r h in
      λ i. record { place = r.place.0; value = (e i).value; slots = (e i).slots; seconds = (e i).seconds }

  -- the opened record stands at its place
  stands_open : n ≤ 20 → (p : ℕ) (l : List ℕ) → Stands F n m p (fresh (walker_at p) l)
  unfolding value_at values_of
  stands_open small p l =
      opened_stands F ext n m p (fresh (walker_at p) l) refl (omega (arith, slots_length g (p - 1) 0 20)) (seconds_long g (p - 1)) refl
      (λ b h. slots_at_lem g (p - 1) 20 b (omega arith) ∙ slot_used g (p - 1) b h)
      (λ i h. by_cases (dec_lt i 20) (λ k. slots_at_lem g (p - 1) 20 i k ∙ slot_none g (p - 1) i h)
      (λ k. get_or-eq_default (slots_at g (p - 1) 0 20) none (omega (arith, slots_length g (p - 1) 0 20))))
      (λ b c h k. seconds_at_lem g (p - 1) b c h (omega arith) ∙ second_used n m t (p - 1) b c k)
      (λ b c h k o. seconds_at_lem g (p - 1) b c h k ∙ second_none n m t (p - 1) b c o)

  -- a state that stands at p is the record opened at p
  opened_at_lem : (p : ℕ) (s : State) → length s.slots ≡ 20 → Stands F n m p s
      → record { n = n; m = m; place = record { 0 = p }; value = s.value; slots = s.slots; seconds = s.seconds } ≡ opened_at g p
  unfolding opened_at value_at values_of
  opened_at_lem p s long h =
      let e1 = stands_value F ext n m p s h in
      let e2 = slots_are g (p - 1) s.slots long
      (λ i k. by_cases (dec_lt i n)
      (λ b. stands_slot F ext n m p s h i b ∙ sym (slot_used g (p - 1) i b))
      (λ b. h.rest i (omega arith) ∙ sym (slot_none g (p - 1) i (omega arith)))) in
      let e3 = seconds_are g (p - 1) s.seconds h.seats
      (λ b c o k. by_cases (dec_lt c n)
      (λ d. stands_second F ext n m p s h b c o d ∙ sym (second_used n m t (p - 1) b c d))
      (λ d. h.spare b c o k (omega arith) ∙ sym (second_none n m t (p - 1) b c (omega arith)))) in
      λ i. record { n = n; m = m; place = record { 0 = p }; value = e1 i; slots = e2 i; seconds = e3 i }

  -- ---- from what the walk's code says
  module _ (ok : Checked g) (r : Record) (own : fits g r ≡ true) (b e : ℕ) (l k : List ℕ) (x : Ran Walker) (end : e ≡ 3 ^ n) (long : length x.walker.slots ≡ 20)
      (went : state_of x k ≡ search_of t n e b (fresh (record { place = r.place.0; value = r.value; slots = r.slots; seconds = r.seconds }) l)) where
    abbrev p : ℕ
    p = r.place.0

    call : Answers (trail_behind g) b p l (state_of x k) × Stands F n m x.walker.place (state_of x k)
    unfolding trail_behind values_of
    call =
        subst (λ (s : State). Answers (trail_behind g) b p l s × Stands F n m s.place s)
        (sym (went ∙ ap (λ (y : ℕ). search_of t n y b (fresh (record { place = r.place.0; value = r.value; slots = r.slots; seconds = r.seconds }) l)) end
        ∙ ap (λ (y : Walker). search_of t n (3 ^ n) b (fresh y l)) (walker_is r own)))
        (call_is F ext (λ e. flat_cubic 3 pos (cubic_behind n t e) n) n m (3 ^ n) (within g ok).most (triple_at t n)
        (differences_tabled n m t (cubic_table_of n m t ok)) (omega arith) b p (fresh (walker_at p) l) (fits_place g r own) (stands_open (within g ok).most p l) refl refl)

    abbrev left : Went
    left =
        record {
          first = record { n = n; m = m; place = record { 0 = x.walker.place }; value = x.walker.value; slots = x.walker.slots };
          additions = x.additions;
          found = x.found;
        }

    pub three_leaves : (s : List ℕ) → s ≡ x.walker.seconds → Leaves g p b l k s left
    three_leaves s e =
        leaves g p b l k s left call.0.place call.0.additions call.0.found call.0.list
        (ap (whole_of Three left.first) e ∙ opened_at_lem x.walker.place (state_of x k) long call.1)

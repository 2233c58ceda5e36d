-- A call that nothing refuses, of either degree: what a walk leaves, reported, is the call on the walk of the system.
use Rattle.std.specs.Prelude.{Ok}
use mathlib.Core.Path.{◌≡◌, ap, ap₂, ◌∙◌}
use mathlib.Core.List.{List}
use Prim.Native.Nat.{ℕ, ◌+◌, ◌-◌, ◌^◌}
use native.Mathlib.Omega.{arith}
use lib.ListN.{length}
use Rattle.walks.specs.Calls.{Trail, stop_from, points_in, report_of, list_after}
use Rattle.given.specs.Given.{Given}
use Rattle.opening.specs.declared.Record.{Record}
use Rattle.opening.specs.Opened.{opened_at}
use Rattle.opening.specs.First.{whole_of}
use Rattle.outcomes.specs.declared.Moved.{Moved}
use Rattle.outcomes.specs.Search.{trail_behind, ran_of}
use Rattle.outcomes.specs.First.{outcome_with}
use Rattle.outcomes.proofs.TrailLaw.{place_opened}
use Rattle.walking.specs.declared.Went.{Went}
use Rattle.walking.specs.Leaves.{Leaves}
use Rattle.reporting.specs.Reported.{reported_of}

module _ (g : Given) where
  module _ (p b : ℕ) (l : List ℕ) where
    abbrev T : Trail
    T = trail_behind g

    -- ---- a record opened where the call comes to, with the counts of the call, is its outcome
    module _ (r : Record) (additions found : ℕ) (opened : r ≡ opened_at g (p + points_in T b (length l) p))
        (made : additions ≡ (report_of T b (length l) p).additions) (listed : found ≡ (report_of T b (length l) p).found) where
      place_is : r.place.0 ≡ p + points_in T b (length l) p
      place_is = ap (λ (x : Record). x.place.0) opened ∙ place_opened g (p + points_in T b (length l) p)

      stop_is : stop_from r.place.0 (3 ^ g.n) found (length l) ≡ (report_of T b (length l) p).stop
      unfolding trail_behind report_of
      stop_is = ap₂ (λ (x f : ℕ). stop_from x (3 ^ g.n) f (length l)) place_is listed

      points_are : r.place.0 - p ≡ (report_of T b (length l) p).points
      unfolding report_of
      points_are = omega (arith, place_is)

      pub whole_is : record {
        answer = Ok (record { stop = stop_from r.place.0 (3 ^ g.n) found (length l); points = r.place.0 - p; additions = additions; found = found });
        «record» = r;
      } ≡ ran_of g p b (length l)
      whole_is =
          let e1 = stop_is in
          let e2 = points_are in
          let e3 = made in
          let e4 = listed in
          let e5 = opened in
          λ i. record { answer = Ok (record { stop = e1 i; points = e2 i; additions = e3 i; found = e4 i }); «record» = e5 i }

  -- ---- what a walk leaves, reported
  module _ (p b : ℕ) (l k s : List ℕ) (w : Went) (h : Leaves g p b l k s w) where
    pub left_place : w.first.place.0 ≡ p + points_in (trail_behind g) b (length l) p
    left_place = place_is p b l (whole_of g.degree w.first s) w.additions w.found h.opened h.additions h.found

    outcome_is : outcome_with g.degree (reported_of p (3 ^ g.n) (length l) w) s ≡ ran_of g p b (length l)
    outcome_is = whole_is p b l (whole_of g.degree w.first s) w.additions w.found h.opened h.additions h.found

    pub ran_is : (e : ℕ) (o : Moved) → e ≡ 3 ^ g.n → o ≡ reported_of p e (length l) w
        → (outcome_with g.degree o s ≡ ran_of g p b (length l)) × (k ≡ list_after (trail_behind g) b p l)
    ran_is e o z u = (ap (λ (x : Moved). outcome_with g.degree x s) (u ∙ ap (λ (y : ℕ). reported_of p y (length l) w) z) ∙ outcome_is, h.list)

-- Demand 3 of the search: the laws of runs of calls, at the walk of a table.
use mathlib.Core.Path.{◌≡◌, refl, sym, ap, ◌∙◌}
use mathlib.Core.Bool.{true}
use mathlib.Core.Logic.{◌↔◌}
use mathlib.Core.List.{List, map}
use Prim.Native.Nat.{ℕ, ◌-◌, ◌%◌, ◌^◌, ◌≤◌, ◌<◌}
use native.Mathlib.Nat.{zero-add, one-le-pow}
use native.Mathlib.Omega.{arith}
use Rattle.gray.specs.Numbers.{digit, point_digit, point_of}
use Rattle.gray.proofs.MapLaw.{point_lt, point_digit_lem, point_same, point_onto}
use Rattle.walks.specs.Calls.{Trail, cost_in}
use Rattle.walks.specs.Runs.{Request, Sums, SaysEnded, WholeRun, asked_in}
use Rattle.walks.specs.Zeros.{Distinct, places_in}
use Rattle.walks.specs.Cost.{cost_of}
use Rattle.walks.proofs.RunsLaw.{Adds, sums_are, ended_iff, calls_enough, calls_end, whole_run, run_once}
use Rattle.walks.proofs.CostLaw.{whole_two, whole_three}
use Rattle.held.proofs.StandLaw.{zeros_all, all_zeros}
use Rattle.warning.specs.Few.{Few}
use Rattle.warning.proofs.WarningLaw.{run_warning}
use Rattle.given.specs.declared.Degree.{Degree}
use Rattle.given.specs.declared.Degree.TheVariants.{Two, Three}
use Rattle.given.specs.Given.{Given, depth_of, values_of, Checked}
use Rattle.given.proofs.ValuesLaw.{values_at_lem, flat_values, ext_values}
use Rattle.opening.specs.declared.Record.{Record}
use Rattle.opening.specs.Opened.{opened_at}
use Rattle.outcomes.specs.Search.{trail_behind}
use Rattle.outcomes.proofs.TrailLaw.{end_is}
use Rattle.demand.specs.Session.{call_of}
use Rattle.demand.specs.Demand.{CommonZero, additions_in, all_additions, from_start, WholeWalk}
use Rattle.opening.proofs.PlaceLaw.{two}
use Rattle.demand.proofs.SessionLaw.{serves, willing}

pub trans_iff : {A B C : Type 0} → A ↔ B → B ↔ C → A ↔ C
trans_iff f g = (λ a. g.0 (f.0 a), λ c. f.1 (g.1 c))

-- a walk whose places cost as in a degree
cost_in_lem : (d : Degree) (n : ℕ) (T : Trail) → ((p : ℕ) → T.cost p ≡ cost_of 3 (depth_of d) p) → cost_in T 0 (3 ^ n) ≡ additions_in d n
cost_in_lem Two n T e = whole_two 3 two T n (λ p h. e p)
cost_in_lem Three n T e = whole_three 3 two T n (omega arith) (λ p h. e p)

module _ (g : Given) where
  abbrev T : Trail
  T = trail_behind g

  -- the walk's entries and costs
  pub distinct : Distinct T
  unfolding trail_behind
  distinct a b ha hb e = point_same 3 two g.n a b ha hb e

  pub cost_all_lem : cost_in T 0 (3 ^ g.n) ≡ all_additions g
  unfolding trail_behind cost_of
  cost_all_lem = cost_in_lem g.degree g.n T (λ p. refl)

  -- the value at a place is the value at its point
  value_point : (e p : ℕ) → values_of g e (point_digit 3 p) ≡ values_of g e (digit 3 (point_of 3 g.n p))
  value_point e p = values_at_lem g e (point_digit 3 p) (digit 3 (point_of 3 g.n p)) (λ k h. sym (point_digit_lem 3 two g.n p k h))

  -- a point is listed for a place of the walk exactly if it is a common zero
  pub zero_iff : (x : ℕ) → ((a : ℕ) × (a < T.end) × (T.zero_at a ≡ true) × (T.entry a ≡ x)) ↔ CommonZero g x
  unfolding trail_behind
  zero_iff x = (
    λ z. record {
      point = rw (sym z.3) (point_lt 3 two g.n z.0);
      zero = λ e h. ap (λ (y : ℕ). values_of g e (digit 3 y) % 3) (sym z.3) ∙ ap (λ (y : ℕ). y % 3) (sym (value_point e z.0))
          ∙ zeros_all 3 g.m (λ e. values_of g e (point_digit 3 z.0)) z.2 e h;
    },
    λ c. let o = point_onto 3 two g.n x c.point in (
      o.0,
      o.1,
      all_zeros 3 g.m (λ e. values_of g e (point_digit 3 o.0))
          (λ e h. ap (λ (y : ℕ). y % 3) (value_point e o.0) ∙ ap (λ (y : ℕ). values_of g e (digit 3 y) % 3) o.2 ∙ c.zero e h),
      o.2,
    ),
  )

  in_order : map T.entry (places_in T 0 T.end) ≡ map (point_of 3 g.n) (places_in T 0 (3 ^ g.n))
  unfolding trail_behind
  in_order = refl

  some_places : 0 < T.end
  unfolding trail_behind
  some_places = one-le-pow g.n 3 (omega arith)

  module _ (ok : Checked g) (qs : List Request) where
    abbrev given : Sums Record
    given = from_start g qs

    sums : Adds T (opened_at g) (call_of g) 0 (opened_at g 0) qs
    sums = sums_are T (opened_at g) (call_of g) (serves g ok) 0 qs (omega arith)

    -- the record's place is the number of points told
    pub place_is : given.last.place.0 ≡ given.points
    unfolding opened_at
    place_is = ap (λ r. r.place.0) sums.last ∙ zero-add given.points

    -- the last answer is "ended" exactly where the record has come to place 3^n
    pub ended_is : SaysEnded given.told ↔ (given.last.place.0 ≡ 3 ^ g.n)
    ended_is =
        let i = ended_iff T (opened_at g) (call_of g) (serves g ok) 0 qs some_places in
        (λ e. place_is ∙ sym (zero-add _) ∙ i.0 e ∙ end_is g, λ e. i.1 (zero-add _ ∙ sym place_is ∙ e ∙ sym (end_is g)))

    -- demand 3
    pub whole_walk : SaysEnded given.told → WholeWalk g qs
    whole_walk e =
        let d : WholeRun T (opened_at g) (call_of g) qs = whole_run T (opened_at g) (call_of g) (serves g ok) qs some_places e in
        record {
          each = d.each;
          last = d.last ∙ ap (opened_at g) (end_is g);
          all = λ x. trans_iff (d.all x) (zero_iff x);
          once = run_once T (opened_at g) (call_of g) qs d distinct;
          order = d.order ∙ in_order;
          points = d.points ∙ end_is g;
          additions = d.additions ∙ ap (cost_in T 0) (end_is g) ∙ cost_all_lem;
        }

    -- C-22: with few equations, the zeros found in all calls together are a multiple of 3
    pub threes : Few (depth_of g.degree) g.m g.n → SaysEnded given.told → given.found % 3 ≡ 0
    unfolding trail_behind
    threes few e =
        run_warning (depth_of g.degree) g.n g.m (values_of g) few (ext_values 3 (omega arith) g) (flat_values 3 (omega arith) g)
        (opened_at g) (call_of g) qs (serves g ok) e

    -- a run with as many requests that ask for something as there are points has ended
    pub always_ends : 3 ^ g.n ≤ asked_in qs → SaysEnded given.told
    always_ends l =
        let s = serves g ok in
        let k : T.end - 0 ≤ asked_in qs = omega (arith, end_is g) in
        let c = calls_enough T (opened_at g) (call_of g) s 0 qs (willing g ok) (omega arith) k in
        (ended_iff T (opened_at g) (call_of g) s 0 qs some_places).1 (calls_end T (opened_at g) (call_of g) s 0 qs (omega arith) c)

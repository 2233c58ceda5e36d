-- The bytes taken are counted: before each call as many are still to be taken as are left to write.
use Rattle.std.specs.Prelude.{Option, Some}
use mathlib.Core.Path.{◌≡◌, refl, sym, ap, ap₂, ◌∙◌}
use mathlib.Core.Bool.{true, false, not, true≢false}
use mathlib.Core.List.{List}
use Prim.Native.Nat.{ℕ, ◌+◌, ◌-◌, ◌*◌, ◌^◌, ◌≤◌, ◌<◌}
use native.Mathlib.Omega.{arith}
use lib.Dec.{eqb}
use lib.ListN.{length, take, length-append}
use lib.Seq.{length-take-le}
use borrow.Author.Tests.{eq-eqb, ne_eqb, eqb-true, not-false}
use Rattle.walks.specs.Calls.{zeros_in, cost_in}
use Rattle.given.specs.Given.{quadratic}
use Rattle.outcomes.specs.Search.{trail_behind}
use Rattle.outcomes.proofs.TrailLaw.{end_is}
use Rattle.listing.specs.Listing.{totals_line}
use Rattle.planner.specs.declared.Session.{Session}
use Rattle.planner.specs.Output.{own_table, left_of, totals_of, Standing, Went}
use Rattle.planner.proofs.DriveLaw.{calls_left, calls_most, falls, left_none}
use Rattle.driving.specs.declared.Totals.{Totals}

-- of the walk that began at g, with `first` bytes taken before it, `sent` bytes are taken at s; a call sends at most 65,536
pub record Counted (t : List ℕ) (g : Session) (first : ℕ) (s : Session) (sent : ℕ) : Type 0 where
  pub standing : Standing t s
  pub unknowns : s.n ≡ g.n
  pub equations : s.m ≡ g.m
  pub over : s.open ≡ false → s.points ≡ 3 ^ s.n
  pub bytes : sent + length (left_of t s) ≡ first + length (left_of t g)
  pub few : sent + 65536 * calls_left s.open (3 ^ s.n - s.points) ≤ 65536 + 65536 * (3 ^ 20 + 1)

pub counted_first : (t : List ℕ) (g : Session) (first : ℕ) → Standing t g → first ≤ 65536 → g.open ≡ true → Counted t g first g first
counted_first t g first h l o =
    record {
      standing = h;
      unknowns = refl;
      equations = refl;
      over = λ c. absurd (true≢false (sym o ∙ c));
      bytes = omega arith;
      few = omega (arith, calls_most t g h);
    }

module _ (t : List ℕ) (g : Session) (first : ℕ) (s : Session) (sent : ℕ) (h : Counted t g first s sent) (b : List ℕ) (r : Session) (o : s.open ≡ true)
    (w : Went t s b r) (small : length b ≤ 65536) where
  -- a call's text, and what is left after it, are as long as what was left before it
  split : length (left_of t s) ≡ r.used + length (left_of t r)
  split =
      ap length w.output ∙ length-append (take r.used b) (left_of t r)
      ∙ ap (λ (k : ℕ). k + length (left_of t r)) (length-take-le r.used b w.used)

  pub sum_fits : sent + r.used < 2 ^ 64
  sum_fits = omega (arith, h.few, falls t s b r o w, w.used)

  pub short : (got : ℕ) → got < r.used → false ≡ eqb (sent + got) (first + length (left_of t g))
  short got l = sym (ne_eqb (sent + got) (first + length (left_of t g)) (λ e. omega (arith, e, h.bytes, split)))

  pub counted_next : (got : ℕ) → got ≤ r.used → r.used ≤ got → r.open ≡ not (eqb r.points (3 ^ s.n)) → Counted t g first r (sent + got)
  counted_next got l k e =
      record {
        standing = w.standing;
        unknowns = w.unknowns ∙ h.unknowns;
        equations = w.equations ∙ h.equations;
        over = λ c. eqb-true r.points (3 ^ s.n) (not-false _ (sym e ∙ c)) ∙ ap (λ (x : ℕ). 3 ^ x) (sym w.unknowns);
        bytes = omega (arith, h.bytes, split);
        few = omega (arith, h.few, falls t s b r o w, w.used);
      }

pub all_taken : (t : List ℕ) (g : Session) (first : ℕ) (s : Session) (sent : ℕ) → Counted t g first s sent → s.open ≡ false
    → true ≡ eqb sent (first + length (left_of t g))
all_taken t g first s sent h o =
    let z : length (left_of t s) ≡ 0 = ap length (left_none t s o) in
    sym (eq-eqb sent (first + length (left_of t g)) (omega (arith, h.bytes)))

-- the totals of a session whose walk is over
pub totals_are : (t : List ℕ) (g : Session) (first : ℕ) (s : Session) (sent : ℕ) → Counted t g first s sent → s.open ≡ false
    → totals_line s.points s.additions s.found ≡ totals_of (trail_behind (own_table t g))
totals_are t g first s sent h o =
    let T = trail_behind (own_table t s) in
    let p : s.points ≡ T.end = h.over o ∙ sym (end_is (own_table t s)) in
    ap₂ (totals_line s.points) h.standing.additions h.standing.found
    ∙ ap (λ (x : ℕ). totals_line x (cost_in T 0 x) (length (zeros_in T 0 x))) p
    ∙ ap₂ (λ (x y : ℕ). totals_of (trail_behind (quadratic x y t))) h.unknowns h.equations

same_totals : (v w : Totals) → ◌≡◌ {A = Option Totals} (Some v) (Some w) → w ≡ v
same_totals v w e = cc

-- those that are told are its own
pub totals_told : (t : List ℕ) (g : Session) (first : ℕ) (s : Session) (sent : ℕ) → Counted t g first s sent → s.open ≡ false → (w : Totals)
    → ◌≡◌ {A = Option Totals} (Some (record { points = s.points; additions = s.additions; found = s.found })) (Some w)
    → totals_line w.points w.additions w.found ≡ totals_of (trail_behind (own_table t g))
totals_told t g first s sent h o w e =
    ap (λ (x : Totals). totals_line x.points x.additions x.found) (same_totals (record { points = s.points; additions = s.additions; found = s.found }) w e)
    ∙ totals_are t g first s sent h o

-- One call of a session: it is never refused, and its lines and what is left after it are what was left before it.
use Rattle.std.specs.Prelude.{Ok, Err}
use mathlib.Core.Path.{◌≡◌, refl, sym, ap, ap₂, ◌∙◌}
use mathlib.Core.Bool.{Bool, true, false, not, true≢false}
use mathlib.Core.Logic.{by_cases}
use mathlib.Core.List.{List, [], ◌∷◌, ◌++◌, append_assoc}
use Prim.Native.Nat.{ℕ, ◌+◌, ◌-◌, ◌*◌, ◌^◌, ◌≤◌, ◌<◌}
use native.Mathlib.Nat.{zero-add}
use native.Mathlib.Decide.{dec_lt}
use native.Mathlib.Omega.{arith}
use lib.Dec.{eqb}
use lib.ListN.{length, take, length-take, length-append}
use borrow.Author.Tests.{eq-eqb, ne_eqb}
use Rattle.refusals.specs.declared.Refusal.{Refusal}
use Rattle.refusals.specs.declared.Refusal.TheVariants as refusal
use Rattle.refusals.specs.Refusal.{Verdict, refuse, after, done}
use Rattle.refusals.proofs.RefusalLaw.{refuse_none}
use Rattle.given.specs.Given.{Given, quadratic, Checked}
use Rattle.given.proofs.TableLaw.{within, power_small}
use Rattle.walks.specs.declared.Stop.{Stop}
use Rattle.walks.specs.declared.Stop.TheVariants.{Ended, Full, Spent}
use Rattle.walks.specs.declared.Report.{Report}
use Rattle.walks.specs.Calls.{Trail, zeros_in, cost_in, points_in, report_of, list_after}
use Rattle.walks.proofs.CallLaw.{zeros_add, zeros_length, zeros_room, cost_add, cost_most, points_one, points_end, report_ended, after_front, after_length}
use Rattle.opening.specs.declared.Record.{Record}
use Rattle.outcomes.specs.Search.{Answer}
use Rattle.outcomes.specs.declared.Outcome.{Outcome}
use Rattle.opening.specs.Opened.{opened_at}
use Rattle.outcomes.specs.Search.{trail_behind, search_verdict, ran_of, outcome_from, outcome_of, list_left}
use Rattle.outcomes.proofs.VerdictLaw.{asked, verdict_opened}
use Rattle.outcomes.proofs.TrailLaw.{end_is, cost_le, place_opened}
use Rattle.planner.specs.declared.Session.{Session}
use Rattle.listing.specs.Listing.{layout_line, layout_lines, totals_line}
use Rattle.planner.specs.Output.{own_table, Standing, left_from, left_of, Went, Stepped}
use Rattle.planner.specs.Parts.{is_ended, Tellable, Told}
use Rattle.texts.specs.Text.{line_if}

-- ---- lines
pub lines_append : (n : ℕ) (a b : List ℕ) → layout_lines n (a ++ b) ≡ layout_lines n a ++ layout_lines n b
unfolding layout_lines
lines_append n [] b = refl
lines_append n (x ∷ a) b =
    ap (λ (l : List ℕ). layout_line n x ++ l) (lines_append n a b) ∙ sym (append_assoc (layout_line n x) (layout_lines n a) (layout_lines n b))

pub append_none : (a : List ℕ) → a ++ [] ≡ a
append_none [] = refl
append_none (x ∷ a) = ap (λ (l : List ℕ). x ∷ l) (append_none a)

-- ---- what is left of a walk
module _ (n : ℕ) (T : Trail) where
  totals : List ℕ
  totals = totals_line T.end (cost_in T 0 T.end) (length (zeros_in T 0 T.end))

  -- the lines of k places, and what is left after them
  left_split : (p k : ℕ) → p + k ≤ T.end → left_from n T p ≡ layout_lines n (zeros_in T p k) ++ left_from n T (p + k)
  unfolding left_from totals
  left_split p k h =
      let e : T.end - p ≡ k + (T.end - (p + k)) = omega arith in
      ap (λ (z : List ℕ). layout_lines n z ++ totals) (ap (zeros_in T p) e ∙ zeros_add T p k (T.end - (p + k)))
      ∙ ap (λ (z : List ℕ). z ++ totals) (lines_append n (zeros_in T p k) (zeros_in T (p + k) (T.end - (p + k))))
      ∙ append_assoc (layout_lines n (zeros_in T p k)) (layout_lines n (zeros_in T (p + k) (T.end - (p + k)))) totals

  -- at the end the totals alone
  left_end : (p : ℕ) → p ≡ T.end → left_from n T p ≡ totals_line p (cost_in T 0 p) (length (zeros_in T 0 p))
  unfolding left_from layout_lines zeros_in
  left_end p h =
      let e : T.end - p ≡ 0 = omega arith in
      ap (λ (k : ℕ). layout_lines n (zeros_in T p k) ++ totals_line T.end (cost_in T 0 T.end) (length (zeros_in T 0 T.end))) e
      ∙ ap (λ (x : ℕ). totals_line x (cost_in T 0 x) (length (zeros_in T 0 x))) (sym h)

-- ---- one call of the search on a session's own record
asked_done : (b : ℕ) (l : List ℕ) → 0 < b → 0 < length l → asked b l ≡ done
asked_done b l h j =
    refuse_none (eqb b 0) refusal.Budget (refuse (eqb (length l) 0) refusal.List done) (ne_eqb b 0 (λ e. omega arith))
    ∙ refuse_none (eqb (length l) 0) refusal.List done (ne_eqb (length l) 0 (λ e. omega arith))

module _ (g : Given) (p b : ℕ) (l : List ℕ) (r : Record) (ok : Checked g) (h : p ≤ 3 ^ g.n) (some : 0 < b) (room : 0 < length l)
    (at : r ≡ opened_at g p) where
  place_is : r.place.0 ≡ p
  place_is = ap (λ (r : Record). r.place.0) at ∙ place_opened g p

  passes : search_verdict g r b l ≡ done
  passes = ap (λ (r : Record). search_verdict g r b l) at ∙ verdict_opened g p b l ok h ∙ asked_done b l some room

  call_ran : (o : Outcome) → o ≡ outcome_of g r b l → o ≡ ran_of g p b (length l)
  call_ran o e =
      e ∙ ap (λ (v : Verdict). outcome_from v r (ran_of g r.place.0 b (length l))) passes ∙ ap (λ (q : ℕ). ran_of g q b (length l)) place_is

  call_list : (k : List ℕ) → k ≡ list_left g r b l → k ≡ list_after (trail_behind g) b p l
  call_list k e =
      e ∙ ap (λ (v : Verdict). after v l (list_after (trail_behind g) b r.place.0 l)) passes ∙ ap (λ (q : ℕ). list_after (trail_behind g) b q l) place_is

same_ran : (a : Answer) (u w : Report) → a ≡ Ok u → a ≡ Ok w → w ≡ u
same_ran a u w e f = cc

ran_refused : (a : Answer) (u : Report) (f : Refusal) → a ≡ Ok u → a ≡ Err f → ⊥
ran_refused a u f e g = let z : ◌≡◌ {A = ℕ} 0 1 = cc in omega arith

ended_true : (s : Stop) → is_ended s ≡ true → s ≡ Ended
ended_true Ended e = refl
ended_true (Full x) e = absurd (true≢false (sym e))
ended_true (Spent x) e = absurd (true≢false (sym e))

module _ (t : List ℕ) (s : Session) (st : Standing t s) (b : ℕ) (l : List ℕ) (some : 0 < b) (room : 0 < length l) where
  abbrev g : Given
  g = own_table t s

  abbrev T : Trail
  T = trail_behind g

  abbrev p : ℕ
  p = s.points

  pub k : ℕ
  k = points_in T b (length l) p

  stays : p + k ≤ T.end
  unfolding k
  stays = points_end T b (length l) p (omega (arith, st.within, end_is g))

  -- what the call answers, from what the search says
  pub record Report-is (w : Report) (o : Record) (z : List ℕ) : Type 0 where
    pub points : w.points ≡ k
    pub additions : w.additions ≡ cost_in T p k
    pub found : w.found ≡ length (zeros_in T p k)
    pub ended : (w.stop ≡ Ended → p + k ≡ T.end) × (p + k ≡ T.end → w.stop ≡ Ended)
    pub «record» : o ≡ opened_at g (p + k)
    pub listed : take w.found z ≡ zeros_in T p k
    pub fits : w.found ≤ length z
    pub long : length z ≡ length l
    pub left : z ≡ list_after T b p l

  report_is : (w : Report) (o : Record) (z : List ℕ) → w ≡ report_of T b (length l) p → o ≡ opened_at g (p + k) → z ≡ list_after T b p l → Report-is w o z
  unfolding k report_of
  report_is w o z ew eo ez =
      record {
        points = ap (λ (w : Report). w.points) ew;
        additions = ap (λ (w : Report). w.additions) ew;
        found = ap (λ (w : Report). w.found) ew;
        ended = (
          λ e. (report_ended T b (length l) p).0 (sym (ap (λ (w : Report). w.stop) ew) ∙ e),
          λ e. ap (λ (w : Report). w.stop) ew ∙ (report_ended T b (length l) p).1 e,
        );
        «record» = eo;
        listed = ap₂ (λ (i : ℕ) (y : List ℕ). take i y) (ap (λ (w : Report). w.found) ew) ez ∙ after_front T b p l;
        fits = omega (arith, ap (λ (w : Report). w.found) ew, zeros_room T b (length l) p, ap length ez, after_length T b p l);
        long = ap length ez ∙ after_length T b p l;
        left = ez;
      }

  -- no call is refused
  pub not_refused : (o : Outcome) (f : Refusal) → o ≡ outcome_of g s.«record» b l → o.answer ≡ Err f → ⊥
  not_refused o f e a =
      ran_refused o.answer (report_of T b (length l) p) f
      (ap (λ (o : Outcome). o.answer) (call_ran g p b l s.«record» st.checked st.within some room st.«record» o e)) a

  pub answered : (o : Outcome) (w : Report) (z : List ℕ) → o ≡ outcome_of g s.«record» b l → z ≡ list_left g s.«record» b l
      → o.answer ≡ Ok w → Report-is w o.«record» z
  unfolding k
  answered o w z eo ez a =
      let e = call_ran g p b l s.«record» st.checked st.within some room st.«record» o eo in
      report_is w o.«record» z (same_ran o.answer (report_of T b (length l) p) w (ap (λ (o : Outcome). o.answer) e) a)
      (ap (λ (o : Outcome). o.«record») e)
      (call_list g p b l s.«record» st.checked st.within some room st.«record» z ez)

  module _ (w : Report) (o : Record) (z : List ℕ) (i : Report-is w o z) where
    additions_next : s.additions + w.additions ≡ cost_in T 0 (p + k)
    additions_next =
        ap₂ (λ (x y : ℕ). x + y) st.additions i.additions ∙ ap (λ (x : ℕ). cost_in T 0 p + cost_in T x k) (sym (zero-add p)) ∙ sym (cost_add T 0 p k)

    found_next : s.found + w.found ≡ length (zeros_in T 0 (p + k))
    found_next =
        omega (arith, st.found, i.found, ap length (zeros_add T 0 p k), length-append (zeros_in T 0 p) (zeros_in T (0 + p) k), ap (λ (x : ℕ). length (zeros_in T x k)) (zero-add p))

    -- the sums fit
    pub tellable : (text : List ℕ) → 63 * length l + 92 ≤ length text → Tellable s w (take w.found z) text
    tellable text h =
        let c = power_small g st.checked in
        record {
          most = (within g st.checked).most;
          points = omega (arith, i.points, stays, end_is g, c);
          additions = omega (arith, additions_next, cost_most T 2 (cost_le g) 0 (p + k), stays, end_is g, c);
          found = omega (arith, found_next, zeros_length T 0 (p + k), stays, end_is g, c);
          room = omega (arith, length-take w.found z, i.long);
        }

    -- ---- the session after the call
    module _ (old text : List ℕ) (r : Session) (h : Told s o w (take w.found z) old text r) where
      points_are : r.points ≡ p + k
      points_are = h.points ∙ ap (λ (x : ℕ). p + x) i.points

      standing : Standing t r
      standing =
          record {
            checked = rw (h.unknowns, h.equations) st.checked;
            within = rw (h.unknowns, points_are, ← end_is g) stays;
            «record» = rw (h.unknowns, h.equations, points_are) (h.«record» ∙ i.«record»);
            additions = rw (h.unknowns, h.equations, points_are) (h.additions ∙ additions_next);
            found = rw (h.unknowns, h.equations, points_are) (h.found ∙ found_next);
          }

      left_next : (x : Bool) → r.open ≡ x → left_of t r ≡ line_if x (left_from s.n T (p + k))
      unfolding left_of
      left_next x e =
          ap (λ (y : Bool). line_if y (left_from r.n (trail_behind (own_table t r)) r.points)) e
          ∙ ap₂ (λ (n m : ℕ). line_if x (left_from n (trail_behind (quadratic n m t)) r.points)) h.unknowns h.equations
          ∙ ap (λ (q : ℕ). line_if x (left_from s.n T q)) points_are

      lines : List ℕ
      lines = layout_lines s.n (zeros_in T p k)

      split : (x : Bool) → is_ended w.stop ≡ x → left_from s.n T p ≡ take r.used text ++ left_of t r
      unfolding lines
      split true e =
          let j : p + k ≡ T.end = i.ended.0 (ended_true w.stop e) in
          left_split s.n T p k stays ∙ ap (λ (y : List ℕ). lines ++ y) (left_end s.n T (p + k) j ∙ last)
          ∙ sym (h.bytes ∙ ap₂ (λ (a : List ℕ) (x : Bool). layout_lines s.n a ++ line_if x (totals_line r.points r.additions r.found)) i.listed e)
          ∙ sym (append_none (take r.used text))
          ∙ ap (λ (y : List ℕ). take r.used text ++ y) (sym (left_next false (h.going ∙ ap not e)))
        where
          last : totals_line (p + k) (cost_in T 0 (p + k)) (length (zeros_in T 0 (p + k))) ≡ totals_line r.points r.additions r.found
          last =
              ap (λ (x : ℕ). totals_line x (cost_in T 0 (p + k)) (length (zeros_in T 0 (p + k)))) (sym points_are)
              ∙ ap₂ (λ (x y : ℕ). totals_line r.points x y) (sym (h.additions ∙ additions_next)) (sym (h.found ∙ found_next))
      split false e =
          left_split s.n T p k stays
          ∙ ap (λ (y : List ℕ). y ++ left_from s.n T (p + k))
          (sym (h.bytes ∙ ap₂ (λ (a : List ℕ) (x : Bool). layout_lines s.n a ++ line_if x (totals_line r.points r.additions r.found)) i.listed e ∙ append_none lines))
          ∙ ap (λ (y : List ℕ). take r.used text ++ y) (sym (left_next true (h.going ∙ ap not e)))

      further : r.open ≡ true → s.points < r.points
      unfolding k
      further e =
          by_cases (dec_lt p T.end)
          (λ j. let x : 0 < k = points_one T b (length l) p j some room in omega (arith, points_are))
          (λ j.
          let x : p + k ≡ T.end = omega (arith, stays) in
          absurd (true≢false (sym e ∙ h.going ∙ ap (λ (y : Stop). not (is_ended y)) (i.ended.1 x))))

      pub went : s.open ≡ true → Went t s text r
      unfolding left_of
      went e =
          record {
            output = ap (λ (x : Bool). line_if x (left_from s.n T p)) e ∙ split (is_ended w.stop) refl;
            standing = standing;
            unknowns = h.unknowns;
            equations = h.equations;
            on = further;
            used = h.used;
          }

      ended_at : (x : Bool) → is_ended w.stop ≡ x → x ≡ eqb r.points (3 ^ s.n)
      ended_at true e = sym (eq-eqb r.points (3 ^ s.n) (points_are ∙ i.ended.0 (ended_true w.stop e) ∙ end_is g))
      ended_at false e =
          sym (ne_eqb r.points (3 ^ s.n)
          (λ j. true≢false (sym (ap is_ended (i.ended.1 (sym points_are ∙ j ∙ sym (end_is g)))) ∙ e)))

      pub stepped : Stepped t s b l z old text r
      unfolding k
      stepped =
          record {
            points = points_are;
            list = i.left;
            over = h.going ∙ ap not (ended_at (is_ended w.stop) refl);
            size = h.size;
            rest = h.rest;
          }

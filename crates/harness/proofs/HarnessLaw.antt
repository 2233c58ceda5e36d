-- Demand 3 over bytes: `vayudrit_search` on the bytes of a checked table serves the walk of its system, so the laws of runs of calls hold of it.
use Rattle.std.specs.Prelude.{Ok, Err}
use mathlib.Core.Path.{◌≡◌, refl, sym, ap, ap₂, subst, ◌∙◌}
use mathlib.Core.Bool.{Bool, true, false}
use mathlib.Core.Logic.{◌⊎◌, inl, inr}
use mathlib.Core.Option.{Option, none, some}
use mathlib.Core.List.{List, [], ◌∷◌, map}
use Prim.Native.Nat.{ℕ, ◌+◌, ◌*◌, ◌/◌, ◌%◌, ◌^◌, ◌≤◌, ◌<◌}
use native.Mathlib.Nat.{one-le-pow, add-zero}
use native.Mathlib.Omega.{arith}
use lib.Dec.{eqb}
use lib.ListN.{length}
use borrow.Author.Tests.{eqb-false}
use Rattle.refusals.specs.declared.Refusal.TheVariants as refusal
use Rattle.refusals.specs.Refusal.{Verdict, code_of, refuse, after, done}
use Rattle.refusals.specs.Choice.{pick}
use Rattle.refusals.specs.Limits.{Within}
use Rattle.gray.specs.Numbers.{point_of}
use Rattle.walks.specs.declared.Report.{Report}
use Rattle.walks.specs.Calls.{Trail, zeros_in, cost_in, points_in, stop_number, stop_place, report_of, list_after}
use Rattle.walks.specs.Runs.{Request, Reply, points_told, OneReply, EachReply, away_with, ran_by, Asks, Serves, SaysEnded, WholeRun}
use Rattle.walks.specs.Zeros.{places_in}
use Rattle.walks.proofs.CallLaw.{points_end, cost_most, zeros_room, zeros_length, report_place}
use Rattle.walks.proofs.RunsLaw.{whole_run, run_once}
use Rattle.warning.specs.Few.{Few}
use Rattle.warning.proofs.WarningLaw.{run_warning}
use Rattle.codec.specs.Codec.{words_in, bytes_from, pasted}
use Rattle.codec.proofs.CodecLaw.{length_from}
use Rattle.given.specs.declared.Degree.{Degree}
use Rattle.given.specs.Given.{Given, depth_of, table_with, values_of}
use Rattle.given.proofs.TableLaw.{within, power_small}
use Rattle.given.proofs.ValuesLaw.{flat_values, ext_values}
use Rattle.opening.specs.declared.Record.{Record}
use Rattle.opening.specs.Opened.{opened_at}
use Rattle.outcomes.specs.declared.Outcome.{Outcome}
use Rattle.outcomes.specs.Search.{trail_behind, search_verdict, ran_of, outcome_from, answer_values}
use Rattle.outcomes.proofs.VerdictLaw.{asked, verdict_opened}
use Rattle.outcomes.proofs.TrailLaw.{end_is, entry_lt, cost_three, place_opened}
use Rattle.demand.proofs.DemandLaw.{trans_iff, distinct, cost_all_lem, zero_iff}
use Rattle.lists.specs.Listed.{found_in, list_in}
use Rattle.wire.specs.Wire.{record_in, record_words}
use Rattle.wire.proofs.SmallLaw.{record_bytes_lem, record_back}
use Rattle.search_calls.specs.Call.{reading_of, in_words, call_verdict, answer_bytes_after, done_of}
use Rattle.search_calls.proofs.VerdictLaw.{right, shapes_done}
use Rattle.search_calls.proofs.ReadingLaw.{reading_opened}
use Rattle.harness.specs.Harness.{report_said, told_by, reply_on, called, reply_by, are_words, lent_if, bytes_call, record_at, Lent, answer_after, OneAnswer, EachAnswer, night_of, WholeNight}
use Rattle.harness.proofs.BytesLaw.{are_below, words_back, front_back, zeros_below, values_back, answer_back}

above : (x : ℕ) → (x ≡ 0 → ⊥) → 0 < x
above x h = omega arith

module _ (g : Given) (answers : List ℕ → Request → List ℕ) (lent : Lent g answers) where
  abbrev t : Given
  t = in_words g

  abbrev T : Trail
  T = trail_behind t

  abbrev at : ℕ → List ℕ
  at = record_at g

  limits : Within g.n g.m
  limits = within t lent.checked

  -- places are words
  place_small : (p : ℕ) → p ≤ 3 ^ g.n → 3 * p < 2 ^ 64
  place_small p h = omega (arith, h, power_small t lent.checked)

  at_long : (p : ℕ) → length (at p) ≡ 3720
  unfolding record_at
  at_long p = record_bytes_lem t p

  at_back : (p : ℕ) → p ≤ 3 ^ g.n → record_in (at p) ≡ opened_at t p
  unfolding record_at
  at_back p h = record_back t limits.wide (omega (arith, limits.most)) p (omega (arith, place_small p h))

  -- the call reads the table in its degree
  reads : (p : ℕ) → p ≤ 3 ^ g.n → called g (at p) ≡ g
  reads p h =
      let w = length g.words / 8 in
      ap (λ (d : Degree). table_with d g.n g.m g.words) (ap (reading_of g.n w) (at_back p h) ∙ reading_opened t w p lent.degree)

  -- ---- one call, from the record at place p, on a list of words
  module _ (p : ℕ) (h : p ≤ 3 ^ g.n) (q : Request) (words : are_words q.list ≡ true) where
    abbrev l : List ℕ
    l = q.list

    abbrev b : ℕ
    b = q.budget

    abbrev answer : List ℕ
    answer = answers (at p) q

    list_back : words_in (bytes_from l) ≡ l
    list_back = words_back l (are_below l words)

    said : search_verdict t (record_in (at p)) b (words_in (bytes_from l)) ≡ asked b l
    said = ap₂ (λ (r : Record) (x : List ℕ). search_verdict t r b x) (at_back p h) list_back ∙ verdict_opened t p b l lent.checked h

    judged : call_verdict g (at p) b (bytes_from l) answer ≡ asked b l
    judged =
        let e : length (bytes_from l) % 8 ≡ 0 = omega (arith, length_from l) in
        (shapes_done g.n g.m (length g.words) (length (at p)) (length (bytes_from l)) (length answer)
        (sym (right g.n g.m (length g.words) (length (at p)) (length (bytes_from l)) (length answer) limits lent.bytes (at_long p) e (lent.answer (at p) q)))
        ).next (search_verdict t (record_in (at p)) b (words_in (bytes_from l))) ∙ said

    -- the reply, by the verdict, the outcome and the list's bytes
    abbrev reply_from : Verdict → Outcome → List ℕ → Reply (List ℕ)
    reply_from v o new =
        record {
          told = told_by (code_of v) (after v answer (bytes_from (answer_values (3 ^ g.n) o.answer)));
          state = after v (at p) (bytes_from (record_words o.«record»));
          list = words_in (after v (bytes_from l) new);
        }

    reply_by_lem : (v : Verdict) → asked b l ≡ v
        → reply_by g answer (at p) q ≡ reply_from v (done_of g (at p) b (bytes_from l)) (list_in t (record_in (at p)) b (bytes_from l))
    reply_by_lem v e =
        ap (λ (x : Given). reply_on x answer (at p) q) (reads p h)
        ∙ ap (λ (x : Verdict). reply_from x (done_of g (at p) b (bytes_from l)) (list_in t (record_in (at p)) b (bytes_from l))) (judged ∙ e)

    -- a call that nothing refuses
    abbrev k : ℕ
    k = points_in T b (length l) p

    abbrev w : Report
    w = report_of T b (length l) p

    ran_outcome : asked b l ≡ done → done_of g (at p) b (bytes_from l) ≡ ran_of t p b (length l)
    ran_outcome e =
        ap₂ (λ (r : Record) (x : List ℕ). outcome_from (search_verdict t r b x) r (ran_of t r.place.0 b (length x))) (at_back p h) list_back
        ∙ ap (λ (v : Verdict). outcome_from v (opened_at t p) (ran_of t (opened_at t p).place.0 b (length l))) (verdict_opened t p b l lent.checked h ∙ e)
        ∙ ap (λ (x : ℕ). ran_of t x b (length l)) (place_opened t p)

    ran_list : asked b l ≡ done → list_in t (record_in (at p)) b (bytes_from l) ≡ pasted (bytes_from l) 0 (bytes_from (found_in t p b (length l)))
    ran_list e =
        ap₂ (λ (r : Record) (x : List ℕ). after (search_verdict t r b x) (bytes_from l) (pasted (bytes_from l) 0 (bytes_from (found_in t r.place.0 b (length x))))) (at_back p h) list_back
        ∙ ap (λ (v : Verdict). after v (bytes_from l) (pasted (bytes_from l) 0 (bytes_from (found_in t (opened_at t p).place.0 b (length l))))) (verdict_opened t p b l lent.checked h ∙ e)
        ∙ ap (λ (x : ℕ). pasted (bytes_from l) 0 (bytes_from (found_in t x b (length l)))) (place_opened t p)

    far : p + k ≤ 3 ^ g.n
    far = subst (λ (x : ℕ). p + k ≤ x) (end_is t) (points_end T b (length l) p (subst (λ (x : ℕ). p ≤ x) (sym (end_is t)) h))

    -- the words of its answer
    place_is : stop_place (3 ^ g.n) w.stop ≡ p + k
    place_is = ap (λ (x : ℕ). stop_place x w.stop) (sym (end_is t)) ∙ report_place T b (length l) p

    values_are : words_in (bytes_from (answer_values (3 ^ g.n) (ran_of t p b (length l)).answer)) ≡ answer_values (3 ^ g.n) (Ok w)
    unfolding report_of
    values_are =
        let s = place_small (p + k) far in
        values_back (3 ^ g.n) w (omega (arith, place_is, s)) (omega (arith, s)) (omega (arith, s, cost_most T 3 (cost_three t) p k)) (omega (arith, s, zeros_length T p k))

    told_is : told_by 0 (bytes_from (answer_values (3 ^ g.n) (ran_of t p b (length l)).answer)) ≡ some w
    told_is = ap (λ (x : List ℕ). some (report_said x)) values_are ∙ ap some (answer_back (3 ^ g.n) w)

    list_is : words_in (pasted (bytes_from l) 0 (bytes_from (found_in t p b (length l)))) ≡ list_after T b p l
    unfolding list_after
    list_is =
        front_back l (zeros_in T p k) (zeros_room T b (length l) p) (are_below l words)
        (zeros_below T (2 ^ 64) (λ x. omega (arith, entry_lt t x, place_small (3 ^ g.n) (omega arith))) p k)

    pub ran_call : asked b l ≡ done → reply_by g answer (at p) q ≡ ran_by T at p q
    unfolding record_at
    ran_call e =
        reply_by_lem done e
        ∙ ap₂ (λ (o : Outcome) (new : List ℕ). reply_from done o new) (ran_outcome e) (ran_list e)
        ∙ (λ i. record { told = told_is i; state = bytes_from (record_words (opened_at t (p + k))); list = list_is i })

    -- a refused one
    pub budget_away : asked b l ≡ Err refusal.Budget → reply_by g answer (at p) q ≡ away_with (at p) q
    budget_away e = reply_by_lem (Err refusal.Budget) e ∙ ap (λ (x : List ℕ). record { told = (away_with (at p) q).told; state = at p; list = x }) list_back

    pub list_away : asked b l ≡ Err refusal.List → reply_by g answer (at p) q ≡ away_with (at p) q
    list_away e = reply_by_lem (Err refusal.List) e ∙ ap (λ (x : List ℕ). record { told = (away_with (at p) q).told; state = at p; list = x }) list_back

    -- the answer's bytes, by the verdict and the outcome
    abbrev AnswerFrom : Verdict → Outcome → Type 0
    AnswerFrom v o =
        let new = after v answer (bytes_from (answer_values (3 ^ g.n) o.answer)) in
        OneAnswer p answer new (told_by (code_of v) new)

    answer_ran : AnswerFrom done (ran_of t p b (length l))
    unfolding report_of
    answer_ran =
        subst (OneAnswer p answer (bytes_from (answer_values (3 ^ g.n) (ran_of t p b (length l)).answer))) (sym told_is)
        (values_are ∙ ap (λ (x : ℕ). stop_number w.stop ∷ x ∷ w.points ∷ w.additions ∷ w.found ∷ []) place_is)

    pub answer_by_lem : (x y : Bool) → asked b l ≡ refuse x refusal.Budget (refuse y refusal.List done)
        → AnswerFrom (refuse x refusal.Budget (refuse y refusal.List done)) (done_of g (at p) b (bytes_from l))
    answer_by_lem true y e = refl
    answer_by_lem false true e = refl
    answer_by_lem false false e = subst (AnswerFrom done) (sym (ran_outcome e)) answer_ran

    pub answer_is : AnswerFrom (call_verdict g (at p) b (bytes_from l) answer) (done_of g (at p) b (bytes_from l))
    answer_is =
        subst (λ (v : Verdict). AnswerFrom v (done_of g (at p) b (bytes_from l))) (sym judged)
        (answer_by_lem (eqb b 0) (eqb (length l) 0) refl)

  pub serves : Serves T at (bytes_call g answers)
  unfolding bytes_call
  serves p q h = go (are_words q.list) refl
    where
      near : p ≤ 3 ^ g.n
      near = subst (λ (x : ℕ). p ≤ x) (end_is t) h

      asked_by : (x y : Bool) → eqb q.budget 0 ≡ x → eqb (length q.list) 0 ≡ y
          → asked q.budget q.list ≡ refuse x refusal.Budget (refuse y refusal.List done)
      asked_by x y d c = ap₂ (λ (u v : Bool). refuse u refusal.Budget (refuse v refusal.List done)) d c

      call_by : are_words q.list ≡ true → (x y : Bool) → eqb q.budget 0 ≡ x → eqb (length q.list) 0 ≡ y
          → (reply_by g (answers (at p) q) (at p) q ≡ away_with (at p) q) ⊎ (Asks q × (reply_by g (answers (at p) q) (at p) q ≡ ran_by T at p q))
      call_by e true y d c = inl (budget_away p near q e (asked_by true y d c))
      call_by e false true d c = inl (list_away p near q e (asked_by false true d c))
      call_by e false false d c =
          inr (record { budget = above q.budget (eqb-false _ _ d); room = above (length q.list) (eqb-false _ _ c) }, ran_call p near q e (asked_by false false d c))

      go : (z : Bool) → are_words q.list ≡ z
          → (lent_if (are_words q.list) (reply_by g (answers (at p) q) (at p) q) (away_with (at p) q) ≡ away_with (at p) q)
          ⊎ (Asks q × (lent_if (are_words q.list) (reply_by g (answers (at p) q) (at p) q) (away_with (at p) q) ≡ ran_by T at p q))
      go true e =
          subst (λ (z : Bool). (lent_if z (reply_by g (answers (at p) q) (at p) q) (away_with (at p) q) ≡ away_with (at p) q)
          ⊎ (Asks q × (lent_if z (reply_by g (answers (at p) q) (at p) q) (away_with (at p) q) ≡ ran_by T at p q))) (sym e)
          (call_by e (eqb q.budget 0) (eqb (length q.list) 0) refl refl)
      go false e = inl (ap (λ (z : Bool). lent_if z (reply_by g (answers (at p) q) (at p) q) (away_with (at p) q)) e)

  -- ---- the answers of a run
  one_answer : (p : ℕ) (q : Request) → p ≤ T.end → OneAnswer p (answers (at p) q) (answer_after g answers (at p) q) (bytes_call g answers (at p) q).told
  unfolding bytes_call
  one_answer p q h = go (are_words q.list) refl
    where
      near : p ≤ 3 ^ g.n
      near = subst (λ (x : ℕ). p ≤ x) (end_is t) h

      By : Bool → Type 0
      By z =
          OneAnswer p (answers (at p) q) (pick z (answer_bytes_after (called g (at p)) (at p) q.budget (bytes_from q.list) (answers (at p) q)) (answers (at p) q))
          (lent_if z (reply_by g (answers (at p) q) (at p) q) (away_with (at p) q)).told

      On : Given → Type 0
      On x =
          OneAnswer p (answers (at p) q) (answer_bytes_after x (at p) q.budget (bytes_from q.list) (answers (at p) q))
          (reply_on x (answers (at p) q) (at p) q).told

      go : (z : Bool) → are_words q.list ≡ z → By (are_words q.list)
      go true e = subst By (sym e) (subst On (sym (reads p near)) (answer_is p near q e))
      go false e = subst By (sym e) refl

  after_place : (p : ℕ) (s : List ℕ) (q : Request) (r : Reply (List ℕ)) → p ≤ T.end → s ≡ at p → (o : Option Report) → OneReply T at p s q r o
      → (p + points_told o ≤ T.end) × (r.state ≡ at (p + points_told o))
  after_place p s q r h e none k = (omega arith, k.state ∙ e ∙ ap at (sym (add-zero p)))
  after_place p s q r h e (some w) m = (m.within, m.state)

  answered : (p : ℕ) (s : List ℕ) (qs : List Request) → p ≤ T.end → s ≡ at p → EachReply T at (bytes_call g answers) p s qs
      → EachAnswer g answers p s qs
  answered p s [] h e f = tt
  answered p s (q ∷ qs) h e f =
      let r = bytes_call g answers s q in
      let a = after_place p s q r h e r.told f.0 in (
        subst (λ (s : List ℕ). OneAnswer p (answers s q) (answer_after g answers s q) (bytes_call g answers s q).told) (sym e) (one_answer p q h),
        answered (p + points_told r.told) r.state qs a.0 a.1 f.1,
      )

  some_places : 0 < T.end
  some_places = subst (λ (x : ℕ). 0 < x) (sym (end_is t)) (one-le-pow g.n 3 (omega arith))

  in_order : map T.entry (places_in T 0 T.end) ≡ map (point_of 3 g.n) (places_in T 0 (3 ^ g.n))
  unfolding trail_behind
  in_order = refl

  -- demand 3
  pub whole_night : (qs : List Request) → SaysEnded (night_of g answers qs).told → WholeNight g answers qs
  whole_night qs e =
      let d : WholeRun T at (bytes_call g answers) qs = whole_run T at (bytes_call g answers) serves qs some_places e in
      record {
        each = d.each;
        answered = answered 0 (at 0) qs (omega arith) refl d.each;
        last = d.last ∙ ap at (end_is t);
        all = λ x. trans_iff (d.all x) (zero_iff t x);
        once = run_once T at (bytes_call g answers) qs d (distinct t);
        order = d.order ∙ in_order;
        points = d.points ∙ end_is t;
        additions = d.additions ∙ ap (cost_in T 0) (end_is t) ∙ cost_all_lem t;
      }

  -- C-22: with few equations, the zeros found in all calls together are a multiple of 3
  pub threes : (qs : List Request) → Few (depth_of g.degree) g.m g.n → SaysEnded (night_of g answers qs).told
      → (night_of g answers qs).found % 3 ≡ 0
  unfolding trail_behind
  threes qs few e =
      run_warning (depth_of g.degree) g.n g.m (values_of t) few (ext_values 3 (omega arith) t) (flat_values 3 (omega arith) t)
      at (bytes_call g answers) qs serves e

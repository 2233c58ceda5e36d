-- Runs of calls on any engine that serves a walk: each answer keeps its promise, and the promises add up, however the run is cut.
use mathlib.Core.Path.{◌≡◌, refl, sym, ap, ap₂, subst, ◌∙◌}
use mathlib.Core.Logic.{⊎_elim, by_cases, ◌↔◌}
use mathlib.Core.Bool.{Bool, true, false, ◌||◌}
use mathlib.Core.Option.{Option, none, some, none-ne-some, some-injective}
use mathlib.Core.List.{List, [], ◌∷◌, ◌++◌}
use Prim.Native.Nat.{ℕ, ◌+◌, ◌-◌, ◌≤◌, ◌<◌}
use native.Mathlib.Nat.{add-zero, zero-add}
use native.Mathlib.Decide.{dec_lt}
use native.Mathlib.Omega.{arith}
use lib.Dec.{eqb}
use lib.ListN.{length, length-append}
use borrow.Author.Tests.{eqb-false}
use Rattle.walks.specs.declared.Stop.TheVariants.{Ended}
use Rattle.walks.specs.declared.Report.{Report}
use Rattle.walks.specs.Calls.{Trail, zeros_in, cost_in, report_of, until}
use Rattle.walks.specs.Zeros.{Once, Distinct}
use Rattle.walks.specs.Runs.{Request, Reply, Engine, calls_in, points_told, additions_told, found_told, listed_in, last_told, Sums, sums_of, SaysEnded, Moved, OneReply, EachReply, WholeRun, Asks, unless, asked_in, ran_by, Serves, Willing}
use Rattle.walks.proofs.CallLaw.{zeros_add, cost_add, points_le, points_one, points_end, stop_ended, report_place, after_front, after_drop}
use Rattle.walks.proofs.JoinLaw.{zeros_until, cost_until}
use Rattle.walks.proofs.ZeroLaw.{zeros_map, all_hold, all_once}

sum_over : (p j k : ℕ) → p + j + k ≡ p + (j + k)
sum_over p j k = omega arith

module _ (T : Trail) {S : Type 0} (at : ℕ → S) where
  -- ---- the promise of one answer
  pub moved : (p : ℕ) (q : Request) → p ≤ T.end → Asks q → OneReply T at p (at p) q (ran_by T at p q) (ran_by T at p q).told
  unfolding report_of
  moved p q h a =
      let b = q.budget in
      let c = length q.list in
      record {
        budget = points_le T b c p;
        one = λ l. points_one T b c p l a.budget a.room;
        within = points_end T b c p h;
        state = refl;
        stop = refl;
        place = report_place T b c p;
        additions = refl;
        found = refl;
        zeros = after_front T b p q.list;
        rest = after_drop T b p q.list;
      }

  module _ (E : Engine S) where
    -- what an answer says of the place and the state after it
    after_place : (p : ℕ) (s : S) (q : Request) (r : Reply S) → p ≤ T.end → s ≡ at p → (o : Option Report) → OneReply T at p s q r o
        → (p + points_told o ≤ T.end) × (r.state ≡ at (p + points_told o))
    after_place p s q r h e none k = (omega arith, k.state ∙ e ∙ ap at (sym (add-zero p)))
    after_place p s q r h e (some w) m = (m.within, m.state)

    -- ---- the answers of a run
    module _ (serves : Serves T at E) where
      one_reply : (p : ℕ) (q : Request) → p ≤ T.end → OneReply T at p (at p) q (E (at p) q) (E (at p) q).told
      one_reply p q h =
          ⊎_elim
          (λ e. subst (λ (r : Reply S). OneReply T at p (at p) q r r.told) (sym e) record { state = refl; list = refl })
          (λ e. subst (λ (r : Reply S). OneReply T at p (at p) q r r.told) (sym e.1) (moved p q h e.0))
          (serves p q h)

      from : (p : ℕ) (s : S) (qs : List Request) → p ≤ T.end → s ≡ at p → EachReply T at E p s qs
      from p s [] h e = tt
      from p s (q ∷ qs) h e =
          let o = subst (λ (s : S). OneReply T at p s q (E s q) (E s q).told) (sym e) (one_reply p q h) in
          let a = after_place p s q (E s q) h e (E s q).told o in
          (o, from (p + points_told (E s q).told) (E s q).state qs a.0 a.1)

      pub each_reply : (p : ℕ) (qs : List Request) → p ≤ T.end → EachReply T at E p (at p) qs
      each_reply p qs h = from p (at p) qs h refl

    -- ---- what follows from the promises alone
    pub record Adds (p : ℕ) (s : S) (qs : List Request) : Type 0 where
      pub within : p + (sums_of E s qs).points ≤ T.end
      pub last : (sums_of E s qs).last ≡ at (p + (sums_of E s qs).points)
      pub listed : (sums_of E s qs).listed ≡ zeros_in T p (sums_of E s qs).points
      pub additions : (sums_of E s qs).additions ≡ cost_in T p (sums_of E s qs).points
      pub found : (sums_of E s qs).found ≡ length (zeros_in T p (sums_of E s qs).points)

    listed_one : (p : ℕ) (s : S) (q : Request) (r : Reply S) (o : Option Report) → OneReply T at p s q r o → listed_in o r.list ≡ zeros_in T p (points_told o)
    unfolding zeros_in
    listed_one p s q r none k = refl
    listed_one p s q r (some w) m = m.zeros

    additions_one : (p : ℕ) (s : S) (q : Request) (r : Reply S) (o : Option Report) → OneReply T at p s q r o → additions_told o ≡ cost_in T p (points_told o)
    unfolding cost_in
    additions_one p s q r none k = refl
    additions_one p s q r (some w) m = m.additions

    found_one : (p : ℕ) (s : S) (q : Request) (r : Reply S) (o : Option Report) → OneReply T at p s q r o → found_told o ≡ length (zeros_in T p (points_told o))
    unfolding zeros_in
    found_one p s q r none k = refl
    found_one p s q r (some w) m = m.found

    pub adds : (p : ℕ) (s : S) (qs : List Request) → p ≤ T.end → s ≡ at p → EachReply T at E p s qs → Adds p s qs
    unfolding sums_of zeros_in cost_in
    adds p s [] h e f = record { within = omega arith; last = e ∙ ap at (sym (add-zero p)); listed = refl; additions = refl; found = refl }
    adds p s (q ∷ qs) h e f =
        let o = (E s q).told in
        let k = points_told o in
        let a = after_place p s q (E s q) h e o f.0 in
        let u = adds (p + k) (E s q).state qs a.0 a.1 f.1 in
        let n = (sums_of E (E s q).state qs).points in
        record {
          within = omega (arith, u.within);
          last = u.last ∙ ap at (sum_over p k n);
          listed = ap₂ (λ (x y : List ℕ). x ++ y) (listed_one p s q (E s q) o f.0) u.listed ∙ sym (zeros_add T p k n);
          additions = ap₂ (λ (x y : ℕ). x + y) (additions_one p s q (E s q) o f.0) u.additions ∙ sym (cost_add T p k n);
          found = ap₂ (λ (x y : ℕ). x + y) (found_one p s q (E s q) o f.0) u.found
              ∙ sym (ap length (zeros_add T p k n) ∙ length-append (zeros_in T p k) (zeros_in T (p + k) n));
        }

    -- ---- "ended" is told exactly at the end
    ended_one : (p : ℕ) (q : Request) (r : Reply S) (w : Report) → Moved T at p q r w → (w.stop ≡ Ended) ↔ (p + w.points ≡ T.end)
    ended_one p q r w m =
        let i = stop_ended T (length q.list) w.found (p + w.points) in
        (λ e. i.0 (sym m.stop ∙ e), λ e. m.stop ∙ i.1 e)

    -- both answers are refusals where none was told
    none_later : (a b : Option Report) → last_told a b ≡ none → (a ≡ none) × (b ≡ none)
    none_later a none e = (e, refl)
    none_later a (some w) e = absurd (none-ne-some w (sym e))

    -- a run that was refused throughout has moved nothing
    silent : (s : S) (qs : List Request) → (sums_of E s qs).told ≡ none → (sums_of E s qs).points ≡ 0
    unfolding sums_of
    silent s [] e = refl
    silent s (q ∷ qs) e =
        let d = none_later (E s q).told (sums_of E (E s q).state qs).told e in
        ap₂ (λ (x y : ℕ). x + y) (ap points_told d.0) (silent (E s q).state qs d.1)

    last_ended : (p : ℕ) (s : S) (qs : List Request) → EachReply T at E p s qs → (w : Report) → (sums_of E s qs).told ≡ some w
        → (w.stop ≡ Ended) ↔ (p + (sums_of E s qs).points ≡ T.end)
    unfolding sums_of
    last_ended p s [] f w e = absurd (none-ne-some w e)
    last_ended p s (q ∷ qs) f w e = go (E s q).told (sums_of E (E s q).state qs).told f.0 (last_ended (p + points_told (E s q).told) (E s q).state qs f.1 w) refl e
      where
        n : ℕ
        n = (sums_of E (E s q).state qs).points

        go : (o u : Option Report) → OneReply T at p s q (E s q) o
            → ((sums_of E (E s q).state qs).told ≡ some w → (w.stop ≡ Ended) ↔ (p + points_told o + n ≡ T.end))
            → (sums_of E (E s q).state qs).told ≡ u → last_told o u ≡ some w
            → (w.stop ≡ Ended) ↔ (p + (points_told o + n) ≡ T.end)
        go o (some v) one rest u e =
            let i = rest (u ∙ e) in
            (λ x. sym (sum_over p (points_told o) n) ∙ i.0 x, λ x. i.1 (sum_over p (points_told o) n ∙ x))
        go none none one rest u e = absurd (none-ne-some w e)
        go (some v) none one rest u e =
            let i = ended_one p q (E s q) v one in
            let d : v ≡ w = some-injective v w e in
            let k : v.points + n ≡ v.points = ap (λ (x : ℕ). v.points + x) (silent (E s q).state qs u) ∙ add-zero v.points in
            (λ x. ap (λ (y : ℕ). p + y) k ∙ i.0 (ap (λ (y : Report). y.stop) d ∙ x), λ x. sym (ap (λ (y : Report). y.stop) d) ∙ i.1 (ap (λ (y : ℕ). p + y) (sym k) ∙ x))

    -- a run that has not come to the end has moved by as many points as calls at least
    not_yet : (p : ℕ) (s : S) (qs : List Request) → p ≤ T.end → s ≡ at p → EachReply T at E p s qs → p + (sums_of E s qs).points < T.end
        → (sums_of E s qs).calls ≤ (sums_of E s qs).points
    unfolding sums_of
    not_yet p s [] h e f l = omega arith
    not_yet p s (q ∷ qs) h e f l =
        let o = (E s q).told in
        let a = after_place p s q (E s q) h e o f.0 in
        let i = not_yet (p + points_told o) (E s q).state qs a.0 a.1 f.1 (omega arith) in
        let d = moves o (omega arith) f.0 in
        omega arith
      where
        moves : (o : Option Report) → p < T.end → OneReply T at p s q (E s q) o → calls_in o ≤ points_told o
        moves none l k = omega arith
        moves (some w) l m = m.one l

    -- ---- an engine that is willing runs every call that asks for something
    asks : (q : Request) → eqb q.budget 0 ≡ false → eqb (length q.list) 0 ≡ false → Asks q
    asks q b c = record { budget = above q.budget (eqb-false _ _ b); room = above (length q.list) (eqb-false _ _ c) }
      where
        above : (x : ℕ) → (x ≡ 0 → ⊥) → 0 < x
        above x h = omega arith

    calls_asked : Willing T at E → (p : ℕ) (s : S) (qs : List Request) → p ≤ T.end → s ≡ at p → EachReply T at E p s qs → asked_in qs ≤ (sums_of E s qs).calls
    unfolding sums_of asked_in
    calls_asked w p s [] h e f = omega arith
    calls_asked w p s (q ∷ qs) h e f =
        let a = after_place p s q (E s q) h e (E s q).told f.0 in
        let i = calls_asked w (p + points_told (E s q).told) (E s q).state qs a.0 a.1 f.1 in
        let d = one (eqb q.budget 0) (eqb (length q.list) 0) refl refl in
        omega arith
      where
        one : (x y : Bool) → eqb q.budget 0 ≡ x → eqb (length q.list) 0 ≡ y → unless (x || y) ≤ calls_in (E s q).told
        one true y b c = omega arith
        one false true b c = omega arith
        one false false b c = omega (arith, ap (λ (s : S). calls_in (E s q).told) e, ap (λ (r : Reply S). calls_in r.told) (w p q h (asks q b c)))

    -- ---- runs from the state at a place
    module _ (serves : Serves T at E) (p : ℕ) (qs : List Request) where
      abbrev sums : Sums S
      sums = sums_of E (at p) qs

      pub sums_are : p ≤ T.end → Adds p (at p) qs
      sums_are h = adds p (at p) qs h refl (each_reply serves p qs h)

      -- the last answer is "ended" exactly where the run has come to the end
      pub ended_iff : p < T.end → SaysEnded sums.told ↔ (p + sums.points ≡ T.end)
      ended_iff h = go sums.told refl
        where
          go : (o : Option Report) → sums.told ≡ o → SaysEnded o ↔ (p + sums.points ≡ T.end)
          go none e = (λ x. absurd x, λ x. absurd (omega (arith, x, silent (at p) qs e)))
          go (some w) e = last_ended p (at p) qs (each_reply serves p qs (omega arith)) w e

      pub calls_enough : Willing T at E → p ≤ T.end → T.end - p ≤ asked_in qs → T.end - p ≤ sums.calls
      calls_enough w h l = omega (arith, calls_asked w p (at p) qs h refl (each_reply serves p qs h))

      -- as many calls as there are places left are enough
      pub calls_end : p ≤ T.end → T.end - p ≤ sums.calls → p + sums.points ≡ T.end
      calls_end h l =
          by_cases (dec_lt (p + sums.points) T.end)
          (λ m. absurd (omega (arith, not_yet p (at p) qs h refl (each_reply serves p qs h) m)))
          (λ n. omega (arith, n, (sums_are h).within))

    -- ---- demand 3
    module _ (serves : Serves T at E) (qs : List Request) where
      pub whole_run : 0 < T.end → SaysEnded (sums_of E (at 0) qs).told → WholeRun T at E qs
      whole_run h e =
          let a = sums_are serves 0 qs (omega arith) in
          let k : (sums_of E (at 0) qs).points ≡ T.end = sym (zero-add _) ∙ (ended_iff serves 0 qs h).0 e in
          let l : (sums_of E (at 0) qs).listed ≡ zeros_in T 0 T.end = a.listed ∙ ap (zeros_in T 0) k in
          record {
            each = each_reply serves 0 qs (omega arith);
            last = a.last ∙ ap at (zero-add _ ∙ k);
            order = l ∙ zeros_map T 0 T.end;
            all = λ x. rw l (all_hold T x);
            points = k;
            additions = a.additions ∙ ap (cost_in T 0) k;
            found = a.found ∙ ap (λ (x : ℕ). length (zeros_in T 0 x)) k;
          }

-- no entry twice, where different places have different entries
pub run_once : (T : Trail) {S : Type 0} (at : ℕ → S) (E : Engine S) (qs : List Request) → WholeRun T at E qs → Distinct T → Once (sums_of E (at 0) qs).listed
run_once T at E qs w d = rw (w.order, ← zeros_map T 0 T.end) (all_once T d)

-- a run over 0 to m - 1 and one over m to the end, both ended: together all that one whole walk gives
pub two_ranges : (T : Trail) {S : Type 0} (at : ℕ → S) (E F : Engine S) (m : ℕ) (cs ds : List Request) → m ≤ T.end → Serves (until T m) at E → Serves T at F
    → (sums_of E (at 0) cs).points ≡ m → m + (sums_of F (at m) ds).points ≡ T.end
    → ((sums_of E (at 0) cs).points + (sums_of F (at m) ds).points ≡ T.end)
    × ((sums_of E (at 0) cs).additions + (sums_of F (at m) ds).additions ≡ cost_in T 0 T.end)
    × ((sums_of E (at 0) cs).listed ++ (sums_of F (at m) ds).listed ≡ zeros_in T 0 T.end)
two_ranges T at E F m cs ds h se sf e f =
    let w = sums_are (until T m) at E se 0 cs (omega arith) in
    let v = sums_are T at F sf m ds h in
    let k = (sums_of F (at m) ds).points in
    let x : 0 + m ≡ m = omega arith in (
      omega arith,
      ap₂ (λ (x y : ℕ). x + y) (w.additions ∙ ap (cost_in (until T m) 0) e ∙ cost_until T m 0 m) v.additions
          ∙ ap (λ (i : ℕ). cost_in T 0 m + cost_in T i k) (sym x) ∙ sym (cost_add T 0 m k) ∙ ap (cost_in T 0) f,
      ap₂ (λ (x y : List ℕ). x ++ y) (w.listed ∙ ap (zeros_in (until T m) 0) e ∙ zeros_until T m 0 m) v.listed
          ∙ ap (λ (i : ℕ). zeros_in T 0 m ++ zeros_in T i k) (sym x) ∙ sym (zeros_add T 0 m k) ∙ ap (zeros_in T 0) f,
    )

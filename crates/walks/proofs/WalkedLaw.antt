-- What a loop over places keeps: the search from here, over what is left, is the search from the start. Over any walk that keeps counts.
use mathlib.Core.Path.{◌≡◌, refl, sym, ap, ◌∙◌}
use mathlib.Core.Bool.{Bool, true, false, not, ◌&&◌}
use Prim.Native.Nat.{ℕ, ◌+◌, ◌-◌, ◌*◌, ◌≤◌, ◌<◌}
use native.Mathlib.Omega.{arith}
use lib.Dec.{eqb}
use lib.ListN.{length}
use Rattle.walks.specs.Walk.{Walk, step_of, iterate}
use Rattle.walks.proofs.FollowLaw.{Counts}
use Rattle.walks.proofs.SearchLaw.{Near, search, going_true, going_false, iterate_near, leap, run_some, run_place, resume}

module _ (q : ℕ) {S : Type 0} (W : Walk S) (C : Counts S) (d : ℕ) where
  -- the numbers of a state are within their ends
  pub record Sound (e : ℕ) (s : S) : Type 0 where
    pub place : W.place s ≤ e
    pub found : C.found s ≤ length (C.list s)
    pub additions : C.additions s ≤ d * W.place s

  -- budget places from s₀ on, of which left are not walked yet, and the state s now
  pub record Walked (e budget left : ℕ) (s₀ s : S) : Type 0 where
    pub sound : Sound e s
    pub list : length (C.list s) ≡ length (C.list s₀)
    pub went : W.place s + left ≡ W.place s₀ + budget
    pub less : left ≤ budget
    pub state : search q W C d e left s ≡ search q W C d e budget s₀

  pub walked_none : (e k : ℕ) (s : S) → Sound e s → Walked e k k s s
  walked_none e k s a = record { sound = a; list = refl; went = refl; less = omega arith; state = refl }

  -- what a turn of a loop over single places may count on
  pub record Goes (e k : ℕ) (s : S) : Type 0 where
    pub left : 0 < k
    pub place : W.place s < e
    pub found : C.found s < length (C.list s)

  pub goes_on : (e budget left k : ℕ) (s₀ s : S) (b : Bool) → Walked e budget left s₀ s → k ≡ length (C.list s₀)
      → b ≡ (not (eqb left 0) && not (eqb (W.place s) e) && not (eqb (C.found s) k)) → b ≡ true → Goes e left s
  goes_on e budget left k s₀ s b w h g i =
      let f : length (C.list s) ≡ k = w.list ∙ sym h in
      let y = going_true q W C d e left s (ap (λ (x : ℕ). not (eqb left 0) && not (eqb (W.place s) e) && not (eqb (C.found s) x)) f ∙ sym g ∙ i) in
      record { left = y.0; place = omega (arith, y, w.sound.place); found = omega (arith, y, w.sound.found) }

  pub goes_no_more : (e budget left k : ℕ) (s₀ s : S) (b : Bool) → Walked e budget left s₀ s → k ≡ length (C.list s₀)
      → b ≡ (not (eqb left 0) && not (eqb (W.place s) e) && not (eqb (C.found s) k)) → b ≡ false → s ≡ search q W C d e budget s₀
  goes_no_more e budget left k s₀ s b w h g i =
      let f : length (C.list s) ≡ k = w.list ∙ sym h in
      sym (going_false q W C d e left s (ap (λ (x : ℕ). not (eqb left 0) && not (eqb (W.place s) e) && not (eqb (C.found s) x)) f ∙ sym g ∙ i)) ∙ w.state

  module _ (near : (s : S) → Near q W C d s (step_of q W s) 1) where
    -- k places more, where there is room for them
    pub walked_more : (e k budget left : ℕ) (s₀ s r : S) → Walked e budget left s₀ s → k ≤ left → W.place s + k ≤ e → C.found s + k ≤ length (C.list s)
        → r ≡ iterate q W k s → Walked e budget (left - k) s₀ r
    walked_more e k budget left s₀ s r w h p l i =
        let m = iterate_near q W C d near k s in
        let u = iterate q W k s in
        let v : Walked e budget (left - k) s₀ u =
        record {
          sound =
              record {
                place = omega (arith, m.place);
                found = omega (arith, m.found, m.list);
                additions = rw m.place (omega (arith, m.additions, w.sound.additions));
              };
          list = m.list ∙ w.list;
          went = omega (arith, m.place, w.went);
          less = omega (arith, w.less);
          state = sym (leap q W C d near e k left s h p l) ∙ w.state;
        } in
        rw i v

    -- one place more
    pub walked_one : (e budget left : ℕ) (s₀ s r : S) → Walked e budget left s₀ s → Goes e left s → r ≡ step_of q W s → Walked e budget (left - 1) s₀ r
    unfolding iterate
    walked_one e budget left s₀ s r w g i =
        walked_more e 1 budget left s₀ s r w (omega (arith, g.left)) (omega (arith, g.place)) (omega (arith, g.found)) i

    -- a run of j places to a, and then places to b that the rest of the search does not miss
    pub walked_on : (e j budget left : ℕ) (s₀ s a b : S) → Walked e budget left s₀ s → j ≤ left → a ≡ search q W C d e j s → length (C.list a) ≡ length (C.list s)
        → search q W C d e (left - (W.place a - W.place s) - (W.place b - W.place a)) b ≡ search q W C d e (left - (W.place a - W.place s)) a
        → Sound e b → length (C.list b) ≡ length (C.list a) → W.place a ≤ W.place b → W.place b ≤ W.place a + (left - (W.place a - W.place s))
        → Walked e budget (left - (W.place a - W.place s) - (W.place b - W.place a)) s₀ b
    walked_on e j budget left s₀ s a b w h ea la eb ok lb m n =
        let p = run_place q W C d near e j s in
        let z : W.place a ≡ W.place (search q W C d e j s) = ap W.place ea in
        record {
          sound = ok;
          list = lb ∙ la ∙ w.list;
          went = omega (arith, w.went, p, z);
          less = omega (arith, w.less);
          state = eb ∙ ap (λ (x : S). search q W C d e (left - (W.place x - W.place s)) x) ea ∙ resume q W C d near e j left s h ∙ w.state;
        }

    -- such a run goes on
    pub goes_some : (e j left : ℕ) (s a : S) → Goes e left s → 0 < j → a ≡ search q W C d e j s → W.place s < W.place a
    goes_some e j left s a g h ea =
        let x = g.place in
        let y = g.found in
        rw ea (run_some q W C d near e j s h (λ i. omega arith) (λ i. omega arith))

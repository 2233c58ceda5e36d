-- A search whose steps keep the counts of a trail answers as a call on it does: steps are followed one by one up to the first stop.
use mathlib.Core.Path.{◌≡◌, refl, sym, ap, ap₂, subst, ◌∙◌}
use mathlib.Core.Bool.{Bool, true, false, ◌||◌}
use mathlib.Core.List.{List, [], ◌∷◌, ◌++◌, append_assoc}
use Prim.Native.Nat.{ℕ, zero, suc, ◌+◌, ◌≤◌, ◌<◌}
use native.Mathlib.Nat.{add-zero, zero-add}
use native.Mathlib.Omega.{arith}
use lib.Dec.{eqb}
use lib.ListN.{length, set, take, drop, length-set, take-append-drop}
use lib.Seq.{take-suc-set, drop-set-lt}
use Rattle.walks.specs.Walk.{Walk, step_of, iterate, run_of}
use Rattle.walks.specs.Calls.{Trail, zeros_in, cost_in, points_in, stop_at, report_of, list_after}
use Rattle.walks.proofs.CallLaw.{zeros_hit, zeros_miss, first_stop, points_end}
use Rattle.walks.proofs.HaltLaw.{run_points}

-- the counts that a state keeps
pub record Counts (S : Type 0) : Type 0 where
  pub additions : S → ℕ
  pub found : S → ℕ
  pub list : S → List ℕ

-- one step from a state that is Right, with places and room left: it is Right again, one place on, with the place's additions,
-- and a zero's entry is written at the first entry that is free
pub record Follows (T : Trail) (q : ℕ) (S : Type 0) (W : Walk S) (C : Counts S) (Right : S → Type 0) : Type 0 where
  pub right : (s : S) → Right s → W.place s < T.end → C.found s < length (C.list s) → Right (step_of q W s)
  pub place : (s : S) → W.place (step_of q W s) ≡ W.place s + 1
  pub additions : (s : S) → Right s → W.place s < T.end → C.additions (step_of q W s) ≡ C.additions s + T.cost (W.place s)
  pub hit : (s : S) → Right s → W.place s < T.end → T.zero_at (W.place s) ≡ true
      → (C.found (step_of q W s) ≡ C.found s + 1) × (C.list (step_of q W s) ≡ set (C.list s) (C.found s) (T.entry (W.place s)))
  pub miss : (s : S) → Right s → W.place s < T.end → T.zero_at (W.place s) ≡ false
      → (C.found (step_of q W s) ≡ C.found s) × (C.list (step_of q W s) ≡ C.list s)

-- the list l with the zeros z written from entry f
abbrev written : List ℕ → ℕ → List ℕ → List ℕ
written l f z = take f l ++ (z ++ drop (f + length z) l)

written_hit : (l : List ℕ) (f x : ℕ) (z : List ℕ) → f < length l → written (set l f x) (suc f) z ≡ written l f (x ∷ z)
written_hit l f x z h =
    let n : suc f + length z ≡ f + suc (length z) = omega arith in
    ap₂ (λ (a b : List ℕ). a ++ (z ++ b)) (take-suc-set l f x h) (drop-set-lt (suc f + length z) l f x (omega arith))
    ∙ append_assoc (take f l) (x ∷ []) (z ++ drop (suc f + length z) l)
    ∙ ap (λ (i : ℕ). take f l ++ (x ∷ (z ++ drop i l))) n

module _ (T : Trail) (q : ℕ) {S : Type 0} (W : Walk S) (C : Counts S) (Right : S → Type 0) (law : Follows T q S W C Right) where
  -- the state r after k places from the state s
  pub record After (s r : S) (k : ℕ) : Type 0 where
    pub right : Right r
    pub place : W.place r ≡ W.place s + k
    pub additions : C.additions r ≡ C.additions s + cost_in T (W.place s) k
    pub found : C.found r ≡ C.found s + length (zeros_in T (W.place s) k)
    pub list : C.list r ≡ written (C.list s) (C.found s) (zeros_in T (W.place s) k)
    pub same : length (C.list r) ≡ length (C.list s)

  -- places and room left before each of k places
  abbrev Open : S → ℕ → Type 0
  Open s k = (j : ℕ) → j < k → (W.place s + j < T.end) × (C.found s + length (zeros_in T (W.place s) j) < length (C.list s))

  after_none : (s : S) → Right s → After s s 0
  unfolding zeros_in cost_in
  after_none s h =
      record {
        right = h;
        place = sym (add-zero _);
        additions = sym (add-zero _);
        found = sym (add-zero _);
        list = sym (ap (λ (i : ℕ). take (C.found s) (C.list s) ++ drop i (C.list s)) (add-zero (C.found s)) ∙ take-append-drop (C.found s) (C.list s));
        same = refl;
      }

  -- one step more in front
  after_more : (s r : S) (k : ℕ) → Right s → W.place s < T.end → C.found s < length (C.list s) → After (step_of q W s) r k → After s r (suc k)
  unfolding cost_in
  after_more s r k h l m a = go (T.zero_at (W.place s)) refl
    where
      p : ℕ
      p = W.place s

      on : W.place (step_of q W s) ≡ suc p
      on = law.place s ∙ omega arith

      sum : C.additions r ≡ C.additions s + (T.cost p + cost_in T (suc p) k)
      sum = omega (arith, a.additions, law.additions s h l, ap (λ (i : ℕ). cost_in T i k) on)

      z : zeros_in T (W.place (step_of q W s)) k ≡ zeros_in T (suc p) k
      z = ap (λ (i : ℕ). zeros_in T i k) on

      go : (t : Bool) → T.zero_at p ≡ t → After s r (suc k)
      go true e =
          let w = law.hit s h l e in
          let f : C.found (step_of q W s) ≡ suc (C.found s) = w.0 ∙ omega arith in
          record {
            right = a.right;
            place = omega (arith, a.place, on);
            additions = sum;
            found = omega (arith, a.found, f, ap length z, ap length (zeros_hit T p k e));
            list =
                a.list ∙ ap (λ (y : List ℕ). written y (C.found (step_of q W s)) (zeros_in T (W.place (step_of q W s)) k)) w.1
                ∙ ap₂ (λ (i : ℕ) (y : List ℕ). written (set (C.list s) (C.found s) (T.entry p)) i y) f z
                ∙ written_hit (C.list s) (C.found s) (T.entry p) (zeros_in T (suc p) k) m
                ∙ ap (written (C.list s) (C.found s)) (sym (zeros_hit T p k e));
            same = a.same ∙ ap length w.1 ∙ length-set (C.list s) (C.found s) (T.entry p);
          }
      go false e =
          let w = law.miss s h l e in
          record {
            right = a.right;
            place = omega (arith, a.place, on);
            additions = sum;
            found = omega (arith, a.found, w.0, ap length z, ap length (zeros_miss T p k e));
            list =
                a.list ∙ ap (λ (y : List ℕ). written y (C.found (step_of q W s)) (zeros_in T (W.place (step_of q W s)) k)) w.1
                ∙ ap₂ (λ (i : ℕ) (y : List ℕ). written (C.list s) i y) w.0 (z ∙ sym (zeros_miss T p k e));
            same = a.same ∙ ap length w.1;
          }

  open_more : (s : S) (k : ℕ) → Right s → Open s (suc k) → Open (step_of q W s) k
  open_more s k h o j l = go (T.zero_at p) refl
    where
      p : ℕ
      p = W.place s

      on : W.place (step_of q W s) ≡ suc p
      on = law.place s ∙ omega arith

      left : W.place s < T.end
      left = let x = (o 0 (omega arith)).0 in omega arith

      z : zeros_in T (W.place (step_of q W s)) j ≡ zeros_in T (suc p) j
      z = ap (λ (i : ℕ). zeros_in T i j) on

      go : (t : Bool) → T.zero_at p ≡ t
          → (W.place (step_of q W s) + j < T.end) × (C.found (step_of q W s) + length (zeros_in T (W.place (step_of q W s)) j) < length (C.list (step_of q W s)))
      go true e =
          let x = o (suc j) (omega arith) in
          let w = law.hit s h left e in (
            omega (arith, x.0, on),
            omega (arith, x.1, w.0, ap length z, ap length (zeros_hit T p j e), ap length w.1, length-set (C.list s) (C.found s) (T.entry p)),
          )
      go false e =
          let x = o (suc j) (omega arith) in
          let w = law.miss s h left e in
          (omega (arith, x.0, on), omega (arith, x.1, w.0, ap length z, ap length (zeros_miss T p j e), ap length w.1))

  pub follow : (k : ℕ) (s : S) → Right s → Open s k → After s (iterate q W k s) k
  unfolding iterate
  follow zero s h o = after_none s h
  follow (suc k) s h o =
      let x = o 0 (omega arith) in
      let l : W.place s < T.end = let y = x.0 in omega arith in
      let m : C.found s < length (C.list s) = let y = x.1 in omega arith in
      after_more s (iterate q W k (step_of q W s)) k h l m (follow k (step_of q W s) (law.right s h l m) (open_more s k h o))

  -- a search from s, with budget b, that came to the state r: all is as a call on the trail says
  pub record Answers (b : ℕ) (s r : S) : Type 0 where
    pub right : Right r
    pub place : W.place r ≡ W.place s + (report_of T b (length (C.list s)) (W.place s)).points
    pub additions : C.additions r ≡ C.additions s + (report_of T b (length (C.list s)) (W.place s)).additions
    pub found : C.found r ≡ (report_of T b (length (C.list s)) (W.place s)).found
    pub list : C.list r ≡ list_after T b (W.place s) (C.list s)
    pub stop : stop_at T (length (C.list s)) (C.found r) (W.place r) ≡ (report_of T b (length (C.list s)) (W.place s)).stop

  module _ (halt : S → Bool) (halts : (s : S) → halt s ≡ (eqb (W.place s) T.end || eqb (C.found s) (length (C.list s)))) where
    pub answers : (b : ℕ) (s : S) → Right s → W.place s ≤ T.end → C.found s ≡ 0 → Answers b s (run_of q W halt b s)
    unfolding report_of list_after
    answers b s h l e = subst (Answers b s) (sym (run_points T q W halt b c p s with)) there
      where
        p : ℕ
        p = W.place s

        c : ℕ
        c = length (C.list s)

        k : ℕ
        k = points_in T b c p

        open_to : (j : ℕ) → j ≤ k → Open s j
        open_to j m i n = let g = ((first_stop T b c p).goes i (omega arith)).1 in (omega (arith, points_end T b c p l), omega (arith, g, e))

        with : (j : ℕ) → j ≤ k → halt (iterate q W j s) ≡ (eqb (p + j) T.end || eqb (length (zeros_in T p j)) c)
        with j m =
            let a = follow j s h (open_to j m) in
            let f : C.found (iterate q W j s) ≡ length (zeros_in T p j) = omega (arith, a.found, e) in
            halts (iterate q W j s) ∙ rw (a.place, f, a.same)

        there : Answers b s (iterate q W k s)
        there =
            let a = follow k s h (open_to k (omega arith)) in
            let f : C.found (iterate q W k s) ≡ length (zeros_in T p k) = omega (arith, a.found, e) in
            let z = zeros_in T p k in
            record {
              right = a.right;
              place = a.place;
              additions = a.additions;
              found = f;
              list = a.list ∙ ap (λ (i : ℕ). written (C.list s) i z) e ∙ ap (λ (i : ℕ). z ++ drop i (C.list s)) (zero-add (length z));
              stop = ap₂ (stop_at T c) f a.place;
            }

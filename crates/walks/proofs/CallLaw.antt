-- One call: it stops at the first place at which it has to (by recursion on the budget), and everything else follows from that.
use mathlib.Core.Path.{◌≡◌, refl, sym, ap, subst, ◌∙◌}
use mathlib.Core.Bool.{Bool, true, false}
use mathlib.Core.Logic.{◌⊎◌, inl, inr, ⊎_elim, by_cases, ◌↔◌}
use mathlib.Core.List.{List, ◌∷◌, ◌++◌}
use Prim.Native.Nat.{ℕ, zero, suc, ◌+◌, ◌-◌, ◌*◌, ◌≤◌, ◌<◌}
use native.Mathlib.Nat.{add-zero, zero-add}
use native.Mathlib.Decide.{ℕ_discrete, dec_lt}
use native.Mathlib.Omega.{arith}
use lib.Dec.{eqb}
use lib.ListN.{length, get_or, take, drop, length-append, length-drop}
use lib.Seq.{take-append_seam, drop-append-add, get_or-append-add, get_or-drop}
use borrow.Author.Tests.{eq-eqb, ne_eqb}
use Rattle.gray.specs.declared.Place.{Place}
use Rattle.walks.specs.declared.Stop.{Stop}
use Rattle.walks.specs.declared.Stop.TheVariants.{Ended, Full, Spent}
use Rattle.walks.specs.Calls.{Trail, listed, zeros_in, cost_in, room_after, points_in, FirstStop, stop_at, stop_number, stop_place, report_of, list_after}

next_sum_lem : (p j : ℕ) → suc p + j ≡ p + suc j
next_sum_lem p j = omega arith

-- stops with different numbers differ
numbers : {s a b : Stop} → s ≡ a → s ≡ b → stop_number a ≡ stop_number b
numbers e f = sym (ap stop_number e) ∙ ap stop_number f

module _ (T : Trail) where
  -- ---- zeros and additions of places that follow each other
  pub zeros_hit : (p k : ℕ) → T.zero_at p ≡ true → zeros_in T p (suc k) ≡ T.entry p ∷ zeros_in T (suc p) k
  unfolding zeros_in
  zeros_hit p k e = ap (λ (z : Bool). listed z (T.entry p) (zeros_in T (suc p) k)) e

  pub zeros_miss : (p k : ℕ) → T.zero_at p ≡ false → zeros_in T p (suc k) ≡ zeros_in T (suc p) k
  unfolding zeros_in
  zeros_miss p k e = ap (λ (z : Bool). listed z (T.entry p) (zeros_in T (suc p) k)) e

  listed_append : (z : Bool) (x : ℕ) (l m : List ℕ) → listed z x (l ++ m) ≡ listed z x l ++ m
  listed_append true x l m = refl
  listed_append false x l m = refl

  listed_length : (z : Bool) (x : ℕ) (l : List ℕ) → length (listed z x l) ≤ suc (length l)
  listed_length true x l = omega arith
  listed_length false x l = omega arith

  pub zeros_add : (p j k : ℕ) → zeros_in T p (j + k) ≡ zeros_in T p j ++ zeros_in T (p + j) k
  unfolding zeros_in
  zeros_add p zero k = ap (zeros_in T p) (zero-add k) ∙ ap (λ (i : ℕ). zeros_in T i k) (sym (add-zero p))
  zeros_add p (suc j) k =
      let s : suc j + k ≡ suc (j + k) = omega arith in
      ap (zeros_in T p) s ∙ ap (listed (T.zero_at p) (T.entry p)) (zeros_add (suc p) j k)
      ∙ listed_append (T.zero_at p) (T.entry p) (zeros_in T (suc p) j) (zeros_in T (suc p + j) k)
      ∙ ap (λ (i : ℕ). listed (T.zero_at p) (T.entry p) (zeros_in T (suc p) j) ++ zeros_in T i k) (next_sum_lem p j)

  pub zeros_length : (p k : ℕ) → length (zeros_in T p k) ≤ k
  unfolding zeros_in
  zeros_length p zero = omega arith
  zeros_length p (suc k) = omega (arith, listed_length (T.zero_at p) (T.entry p) (zeros_in T (suc p) k), zeros_length (suc p) k)

  -- one place more gives at most one zero more
  pub zeros_near : (p j k : ℕ) → length (zeros_in T p (j + k)) ≤ length (zeros_in T p j) + k
  zeros_near p j k =
      omega (arith, ap length (zeros_add p j k), length-append (zeros_in T p j) (zeros_in T (p + j) k), zeros_length (p + j) k)

  pub cost_add : (p j k : ℕ) → cost_in T p (j + k) ≡ cost_in T p j + cost_in T (p + j) k
  unfolding cost_in
  cost_add p zero k = ap (cost_in T p) (zero-add k) ∙ ap (λ (i : ℕ). cost_in T i k) (sym (add-zero p)) ∙ sym (zero-add (cost_in T (p + 0) k))
  cost_add p (suc j) k =
      let s : suc j + k ≡ suc (j + k) = omega arith in
      ap (cost_in T p) s ∙ ap (λ (n : ℕ). T.cost p + n) (cost_add (suc p) j k)
      ∙ ap (λ (i : ℕ). T.cost p + (cost_in T (suc p) j + cost_in T i k)) (next_sum_lem p j) ∙ omega arith

  -- k places at d additions each, at most
  pub cost_most : (d : ℕ) → ((p : ℕ) → T.cost p ≤ d) → (p k : ℕ) → cost_in T p k ≤ d * k
  unfolding cost_in
  cost_most d f p zero = omega arith
  cost_most d f p (suc k) = omega (arith, f p, cost_most d f (suc p) k)

  -- ---- how far a call goes
  pub points_none : (b c p : ℕ) → p ≡ T.end → points_in T b c p ≡ 0
  unfolding points_in
  points_none zero c p e = refl
  points_none (suc b) c p e = rw (eq-eqb p T.end e, points_in)

  pub points_full : (b p : ℕ) → points_in T b 0 p ≡ 0
  unfolding points_in
  points_full zero p = refl
  points_full (suc b) p = go (eqb p T.end) refl
    where
      go : (t : Bool) → eqb p T.end ≡ t → points_in T (suc b) 0 p ≡ 0
      go true e = rw (e, points_in)
      go false e = rw (e, points_in)

  pub points_go : (b c p : ℕ) → (p ≡ T.end → ⊥) → 0 < c → points_in T (suc b) c p ≡ suc (points_in T b (room_after (T.zero_at p) c) (suc p))
  unfolding points_in
  points_go b c p f h = rw (ne_eqb p T.end f, ne_eqb c 0 (λ z. omega arith), points_in)

  -- the zeros with place p in front, against the room that it leaves of c
  room_more : (c p k : ℕ) → 0 < c → length (zeros_in T (suc p) k) < room_after (T.zero_at p) c → length (zeros_in T p (suc k)) < c
  room_more c p k h = go (T.zero_at p) refl
    where
      go : (z : Bool) → T.zero_at p ≡ z → length (zeros_in T (suc p) k) < room_after z c → length (zeros_in T p (suc k)) < c
      go true e l = omega (arith, ap length (zeros_hit p k e))
      go false e l = omega (arith, ap length (zeros_miss p k e))

  room_used : (c p k : ℕ) → 0 < c → length (zeros_in T (suc p) k) ≡ room_after (T.zero_at p) c → length (zeros_in T p (suc k)) ≡ c
  room_used c p k h = go (T.zero_at p) refl
    where
      go : (z : Bool) → T.zero_at p ≡ z → length (zeros_in T (suc p) k) ≡ room_after z c → length (zeros_in T p (suc k)) ≡ c
      go true e l = omega (arith, ap length (zeros_hit p k e))
      go false e l = omega (arith, ap length (zeros_miss p k e))

  goes_more : (b c p k : ℕ) → (p ≡ T.end → ⊥) → 0 < c → FirstStop T b (room_after (T.zero_at p) c) (suc p) k
      → (j : ℕ) → j < suc k → (p + j ≡ T.end → ⊥) × (length (zeros_in T p j) < c)
  unfolding zeros_in
  goes_more b c p k f h s zero l = (λ e. f (sym (add-zero p) ∙ e), h)
  goes_more b c p k f h s (suc j) l =
      let g = s.goes j (omega arith) in
      (λ e. g.0 (next_sum_lem p j ∙ e), room_more c p j h g.1)

  stop_more : (b c p k : ℕ) → (p ≡ T.end → ⊥) → 0 < c → FirstStop T b (room_after (T.zero_at p) c) (suc p) k → FirstStop T (suc b) c p (suc k)
  stop_more b c p k f h s =
      record {
        most = omega (arith, s.most);
        goes = goes_more b c p k f h s;
        here = ⊎_elim (λ e. inl (sym (next_sum_lem p k) ∙ e)) (⊎_elim (λ e. inr (inl (room_used c p k h e))) (λ e. inr (inr (ap suc e)))) s.here;
      }

  -- nothing to do
  stop_none : (b c p : ℕ) → (p + 0 ≡ T.end) ⊎ (length (zeros_in T p 0) ≡ c) ⊎ (0 ≡ b) → FirstStop T b c p 0
  stop_none b c p w = record { most = omega arith; goes = λ j l. absurd (omega arith); here = w }

  pub first_stop : (b c p : ℕ) → FirstStop T b c p (points_in T b c p)
  unfolding points_in zeros_in
  first_stop zero c p = stop_none 0 c p (inr (inr refl))
  first_stop (suc b) c p =
      by_cases (ℕ_discrete p T.end)
      (λ e. subst (FirstStop T (suc b) c p) (sym (points_none (suc b) c p e)) (stop_none (suc b) c p (inl (add-zero p ∙ e))))
      (λ f. room c f (λ i. first_stop b i (suc p)))
    where
      room : (c : ℕ) → (p ≡ T.end → ⊥) → ((i : ℕ) → FirstStop T b i (suc p) (points_in T b i (suc p))) → FirstStop T (suc b) c p (points_in T (suc b) c p)
      room zero f ih = subst (FirstStop T (suc b) 0 p) (sym (points_full (suc b) p)) (stop_none (suc b) 0 p (inr (inl refl)))
      room (suc c) f ih =
          let h : 0 < suc c = omega arith in
          let r = room_after (T.zero_at p) (suc c) in
          subst (FirstStop T (suc b) (suc c) p) (sym (points_go b (suc c) p f h)) (stop_more b (suc c) p (points_in T b r (suc p)) f h (ih r))

  -- and no other number of places is a first stop
  pub stop_only : (b c p j k : ℕ) → FirstStop T b c p j → FirstStop T b c p k → j ≡ k
  stop_only b c p j k s t = by_cases (dec_lt j k) (λ l. absurd (late j k l s t)) (λ f. by_cases (dec_lt k j) (λ l. absurd (late k j l t s)) (λ g. omega arith))
    where
      late : (j k : ℕ) → j < k → FirstStop T b c p j → FirstStop T b c p k → ⊥
      late j k l s t = let g = t.goes j l in let m = t.most in ⊎_elim (λ e. g.0 e) (⊎_elim (λ e. let i = g.1 in omega (arith, i, e)) (λ e. omega (arith, e, l, m))) s.here

  pub points_only : (b c p k : ℕ) → FirstStop T b c p k → k ≡ points_in T b c p
  points_only b c p k s = stop_only b c p k (points_in T b c p) s (first_stop b c p)

  pub points_le : (b c p : ℕ) → points_in T b c p ≤ b
  points_le b c p = (first_stop b c p).most

  pub points_one : (b c p : ℕ) → p < T.end → 0 < b → 0 < c → 0 < points_in T b c p
  points_one zero c p l hb hc = absurd (omega arith)
  points_one (suc b) c p l hb hc = omega (arith, points_go b c p (λ e. omega arith) hc)

  -- a call does not pass the end
  pub stop_end : (b c p k : ℕ) → p ≤ T.end → FirstStop T b c p k → p + k ≤ T.end
  stop_end b c p k h s =
      by_cases (dec_lt T.end (p + k))
      (λ l. absurd ((s.goes (T.end - p) (omega arith)).0 (omega arith)))
      (λ f. omega arith)

  pub points_end : (b c p : ℕ) → p ≤ T.end → p + points_in T b c p ≤ T.end
  points_end b c p h = stop_end b c p (points_in T b c p) h (first_stop b c p)

  -- nor does it find more than the list holds
  pub stop_room : (b c p k : ℕ) → FirstStop T b c p k → length (zeros_in T p k) ≤ c
  unfolding zeros_in
  stop_room b c p zero s = omega arith
  stop_room b c p (suc k) s =
      let g = (s.goes k (omega arith)).1 in
      let e : k + 1 ≡ suc k = omega arith in
      omega (arith, g, zeros_near p k 1, ap (λ (i : ℕ). length (zeros_in T p i)) e)

  pub zeros_room : (b c p : ℕ) → length (zeros_in T p (points_in T b c p)) ≤ c
  zeros_room b c p = stop_room b c p (points_in T b c p) (first_stop b c p)

  -- ---- why it stopped
  pub at_end : (c f p : ℕ) → p ≡ T.end → stop_at T c f p ≡ Ended
  at_end c f p e = rw (eq-eqb p T.end e)

  pub at_full : (c f p : ℕ) → (p ≡ T.end → ⊥) → f ≡ c → stop_at T c f p ≡ Full (record { 0 = p })
  at_full c f p n e = rw (ne_eqb p T.end n, eq-eqb f c e)

  pub at_spent : (c f p : ℕ) → (p ≡ T.end → ⊥) → (f ≡ c → ⊥) → stop_at T c f p ≡ Spent (record { 0 = p })
  at_spent c f p n m = rw (ne_eqb p T.end n, ne_eqb f c m)

  -- by cases on the stop
  at_cases : (c f p : ℕ) {P : Type 0} → (p ≡ T.end → stop_at T c f p ≡ Ended → P) → ((p ≡ T.end → ⊥) → f ≡ c → stop_at T c f p ≡ Full (record { 0 = p }) → P)
      → ((p ≡ T.end → ⊥) → (f ≡ c → ⊥) → stop_at T c f p ≡ Spent (record { 0 = p }) → P) → P
  at_cases c f p ended full spent =
      by_cases (ℕ_discrete p T.end) (λ e. ended e (at_end c f p e))
      (λ n. by_cases (ℕ_discrete f c) (λ e. full n e (at_full c f p n e)) (λ m. spent n m (at_spent c f p n m)))

  pub stop_place_lem : (c f p : ℕ) → stop_place T.end (stop_at T c f p) ≡ p
  stop_place_lem c f p = at_cases c f p (λ e s. ap (stop_place T.end) s ∙ sym e) (λ n e s. ap (stop_place T.end) s) (λ n m s. ap (stop_place T.end) s)

  pub stop_ended : (c f p : ℕ) → (stop_at T c f p ≡ Ended) ↔ (p ≡ T.end)
  stop_ended c f p = (
    λ s. at_cases c f p (λ e t. e) (λ n e t. absurd (omega (arith, numbers s t))) (λ n m t. absurd (omega (arith, numbers s t))),
    at_end c f p,
  )

  pub stop_full : (c f p : ℕ) (x : Place) → stop_at T c f p ≡ Full x → (x.0 ≡ p) × (f ≡ c) × (p ≡ T.end → ⊥)
  stop_full c f p x s =
      at_cases c f p (λ e t. absurd (omega (arith, numbers s t)))
      (λ n e t. (ap (stop_place 0) (sym s ∙ t), e, n))
      (λ n m t. absurd (omega (arith, numbers s t)))

  pub stop_spent : (c f p : ℕ) (x : Place) → stop_at T c f p ≡ Spent x → (x.0 ≡ p) × (f ≡ c → ⊥) × (p ≡ T.end → ⊥)
  stop_spent c f p x s =
      at_cases c f p (λ e t. absurd (omega (arith, numbers s t)))
      (λ n e t. absurd (omega (arith, numbers s t)))
      (λ n m t. (ap (stop_place 0) (sym s ∙ t), m, n))

  -- the same of a call
  module _ (b c p : ℕ) where
    pub report_points : (report_of T b c p).points ≡ points_in T b c p
    unfolding report_of
    report_points = refl

    pub report_ended : ((report_of T b c p).stop ≡ Ended) ↔ (p + points_in T b c p ≡ T.end)
    unfolding report_of
    report_ended = let k = points_in T b c p in stop_ended c (length (zeros_in T p k)) (p + k)

    pub report_full : (x : Place) → (report_of T b c p).stop ≡ Full x
        → (x.0 ≡ p + points_in T b c p) × ((report_of T b c p).found ≡ c) × (p + points_in T b c p ≡ T.end → ⊥)
    unfolding report_of
    report_full x s = let k = points_in T b c p in stop_full c (length (zeros_in T p k)) (p + k) x s

    pub report_spent : (x : Place) → (report_of T b c p).stop ≡ Spent x
        → (x.0 ≡ p + points_in T b c p) × ((report_of T b c p).found < c) × (points_in T b c p ≡ b) × (p + points_in T b c p ≡ T.end → ⊥)
    unfolding report_of
    report_spent x s =
        let k = points_in T b c p in
        let l = stop_spent c (length (zeros_in T p k)) (p + k) x s in
        let m = l.1 in (
          l.0,
          omega (arith, zeros_room b c p, m),
          ⊎_elim (λ e. absurd (l.2 e)) (⊎_elim (λ e. absurd (m e)) (λ e. e)) (first_stop b c p).here,
          l.2,
        )

    -- the place that a caller gets is that of the record after
    pub report_place : stop_place T.end (report_of T b c p).stop ≡ p + points_in T b c p
    unfolding report_of
    report_place = let k = points_in T b c p in stop_place_lem c (length (zeros_in T p k)) (p + k)

  -- ---- the list after a call
  module _ (b p : ℕ) (l : List ℕ) where
    pub after_length : length (list_after T b p l) ≡ length l
    unfolding list_after
    after_length =
        let f = zeros_in T p (points_in T b (length l) p) in
        omega (arith, length-append f (drop (length f) l), length-drop (length f) l, zeros_room b (length l) p)

    pub after_front : take (report_of T b (length l) p).found (list_after T b p l) ≡ zeros_in T p (report_of T b (length l) p).points
    unfolding list_after report_of
    after_front = let f = zeros_in T p (points_in T b (length l) p) in take-append_seam f (drop (length f) l)

    pub after_drop : drop (report_of T b (length l) p).found (list_after T b p l) ≡ drop (report_of T b (length l) p).found l
    unfolding list_after report_of
    after_drop =
        let f = zeros_in T p (points_in T b (length l) p) in
        let e : length f + 0 ≡ length f = omega arith in
        ap (λ (j : ℕ). drop j (list_after T b p l)) (sym e) ∙ drop-append-add f (drop (length f) l) 0

    pub after_rest : (i : ℕ) → (report_of T b (length l) p).found ≤ i → get_or (list_after T b p l) i 0 ≡ get_or l i 0
    unfolding list_after report_of
    after_rest i h =
        let f = zeros_in T p (points_in T b (length l) p) in
        let e : i ≡ length f + (i - length f) = omega arith in
        ap (λ (j : ℕ). get_or (list_after T b p l) j 0) e ∙ get_or-append-add f (drop (length f) l) (i - length f) 0
        ∙ get_or-drop (length f) l (i - length f) 0 ∙ ap (λ (j : ℕ). get_or l j 0) (sym e)

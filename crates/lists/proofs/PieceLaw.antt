-- The loop over pieces: what was done is always the front of the whole call, and what is left makes up the rest.
use Rattle.std.specs.Prelude.{Ok}
use mathlib.Core.Bool.{true}
use mathlib.Core.Path.{◌≡◌, refl, sym, ap, ap₂, subst, ◌∙◌}
use mathlib.Core.Logic.{⊎_elim, inl, inr, ◌⊎◌}
use mathlib.Core.List.{List, ◌++◌}
use Prim.Native.Nat.{ℕ, ◌+◌, ◌-◌, ◌*◌, ◌/◌, ◌^◌, ◌≤◌, ◌<◌, min}
use native.Mathlib.Omega.{arith}
use lib.ListN.{length, take, drop, length-append, length-drop}
use lib.Seq.{length-take-le, take-append-le}
use Rattle.walks.specs.declared.Report.{Report}
use Rattle.walks.specs.declared.Stop.{Stop}
use Rattle.walks.specs.Calls.{Trail, zeros_in, cost_in, points_in, stop_from, report_of, report_in, list_after}
use Rattle.walks.proofs.CallLaw.{zeros_add, cost_add, cost_most, points_none, points_le, points_one, points_end, zeros_room, after_length, after_front}
use Rattle.codec.specs.Codec.{bytes_from, pasted}
use Rattle.codec.proofs.CodecLaw.{paste_paste, paste_none, from_append, from_nil, length_from, length_pasted}
use Rattle.given.specs.Given.{Given, Checked}
use Rattle.given.proofs.TableLaw.{power_small}
use Rattle.opening.specs.declared.Record.{Record}
use Rattle.outcomes.specs.declared.Outcome.{Outcome}
use Rattle.opening.specs.Opened.{opened_at}
use Rattle.outcomes.specs.Search.{trail_behind, fits, ran_of}
use Rattle.outcomes.proofs.VerdictLaw.{fits_opened}
use Rattle.outcomes.proofs.FitsLaw as fitting
use Rattle.outcomes.proofs.TrailLaw.{end_is, cost_three, place_opened}
use Rattle.lists.specs.Listed.{found_in}
use Rattle.lists.specs.Pieces.{did_of}
use Rattle.lists.proofs.CutLaw.{zeros_none, found_add, Cut, cut_none, cut_more, cut_over, report_over}

cost_none : (T : Trail) (p : ℕ) → cost_in T p 0 ≡ 0
unfolding cost_in
cost_none T p = refl

module _ (g : Given) (r : Record) (budget : ℕ) (l₀ : List ℕ) where
  abbrev T : Trail
  T = trail_behind g

  abbrev p : ℕ
  p = r.place.0

  abbrev pub room : ℕ
  room = length l₀ / 8

  -- after k places: what is left of the budget, the entries and additions so far, the list and the record
  pub record Held (k left at additions : ℕ) (l : List ℕ) (s : Record) : Type 0 where
    pub cut : Cut T budget room p k
    pub spare : left ≡ budget - k
    pub used : at ≡ length (zeros_in T p k)
    pub sum : additions ≡ cost_in T p k
    pub near : p + k ≤ 3 ^ g.n
    pub here : s ≡ opened_at g (p + k)
    pub list : l ≡ pasted l₀ 0 (bytes_from (zeros_in T p k))

  pub starts : fits g r ≡ true → Held 0 budget 0 0 l₀ r
  starts h =
      let z : p + 0 ≡ p = omega arith in
      record {
        cut = cut_none T budget room p;
        spare = omega arith;
        used = sym (ap length (zeros_none T p));
        sum = sym (cost_none T p);
        near = omega (arith, fitting.fits_place g r h);
        here = fitting.fits_opened g r h ∙ ap (opened_at g) (sym z);
        list = paste_none l₀ 0 ∙ ap (pasted l₀ 0) (sym (ap bytes_from (zeros_none T p) ∙ from_nil));
      }

  module _ (k left at additions : ℕ) (l : List ℕ) (s : Record) (h : Held k left at additions l s) where
    pub long : length l ≡ length l₀
    long =
        let e = length_from (zeros_in T p k) in
        let f = h.cut.fits in
        ap length h.list ∙ length_pasted l₀ 0 (bytes_from (zeros_in T p k)) (omega (arith, e, f))

    pub at_within : at ≤ room
    at_within = omega (arith, h.used, h.cut.fits)

    pub place_is : s.place.0 ≡ p + k
    place_is = ap (λ (x : Record). x.place.0) h.here ∙ place_opened g (p + k)

    pub own : fits g s ≡ true
    own = ap (fits g) h.here ∙ fits_opened g (p + k) h.near

    -- ---- nothing is left to do: this is the whole call
    pub closed : (st : Stop) → st ≡ stop_from s.place.0 (3 ^ g.n) at room → (s.place.0 ≡ 3 ^ g.n) ⊎ (left ≡ 0) ⊎ (room - at ≡ 0)
        → (◌≡◌ {A = Outcome} (record { answer = Ok (record { stop = st; points = k; additions = additions; found = at }); «record» = s }) (ran_of g p budget room))
        × (l ≡ pasted l₀ 0 (bytes_from (found_in g p budget room)))
    unfolding trail_behind
    closed st es o =
        let v : (p + k ≡ T.end) ⊎ (budget - k ≡ 0) ⊎ (room - length (zeros_in T p k) ≡ 0) =
        ⊎_elim (λ e. inl (sym place_is ∙ e)) (⊎_elim (λ e. inr (inl (sym h.spare ∙ e))) (λ e. inr (inr (ap (λ (x : ℕ). room - x) (sym h.used) ∙ e)))) o
        in
        let e = cut_over T budget room p k h.cut v in
        let w = report_over T budget room p k h.cut v in
        let i : st ≡ (report_in T room p k).stop = es ∙ ap₂ (λ (x y : ℕ). stop_from x (3 ^ g.n) y room) place_is h.used in
        let a : ◌≡◌ {A = Report} (record { stop = st; points = k; additions = additions; found = at }) (report_in T room p k) =
        λ j. record { stop = i j; points = k; additions = h.sum j; found = h.used j }
        in (
          ap₂ (λ (x : Report) (y : Record). record { answer = Ok x; «record» = y }) (a ∙ w) (h.here ∙ ap (λ (x : ℕ). opened_at g (p + x)) (sym e)),
          h.list ∙ ap (λ (x : ℕ). pasted l₀ 0 (bytes_from (zeros_in T p x))) (sym e),
        )

    -- ---- a piece more, with so many words between
    module _ (words : ℕ) (o : Outcome) (l' : List ℕ) (w : Report)
        (eo : o ≡ ran_of g s.place.0 left (min words (length l / 8 - at)))
        (el : l' ≡ pasted l (8 * at) (bytes_from (found_in g s.place.0 left (min words (length l / 8 - at)))))
        (ew : w ≡ did_of o.answer) where
      abbrev d : ℕ
      d = min words (room - at)

      abbrev q : ℕ
      q = p + k

      abbrev j : ℕ
      j = points_in T (budget - k) d q

      same : min words (length l / 8 - at) ≡ d
      same = ap (λ (x : ℕ). min words (x / 8 - at)) long

      outcome : o ≡ ran_of g q (budget - k) d
      outcome = eo ∙ ap₂ (λ (x y : ℕ). ran_of g x y (min words (length l / 8 - at))) place_is h.spare ∙ ap (ran_of g q (budget - k)) same

      found : l' ≡ pasted l (8 * at) (bytes_from (zeros_in T q j))
      found =
          el ∙ ap₂ (λ (x y : ℕ). pasted l (8 * at) (bytes_from (found_in g x y (min words (length l / 8 - at))))) place_is h.spare
          ∙ ap (λ (x : ℕ). pasted l (8 * at) (bytes_from (found_in g q (budget - k) x))) same

      report : w ≡ report_of T (budget - k) d q
      report = ew ∙ ap (λ (x : Outcome). did_of x.answer) outcome

      points_are : w.points ≡ j
      unfolding report_of
      points_are = ap (λ (x : Report). x.points) report

      found_are : w.found ≡ length (zeros_in T q j)
      unfolding report_of
      found_are = ap (λ (x : Report). x.found) report

      additions_are : w.additions ≡ cost_in T q j
      unfolding report_of
      additions_are = ap (λ (x : Report). x.additions) report

      less : d ≤ room - length (zeros_in T p k)
      less = omega (arith, h.used)

      next_cut : Cut T budget room p (k + j)
      next_cut = cut_more T budget room p k d h.cut less

      next_near : p + (k + j) ≤ 3 ^ g.n
      next_near =
          let e = end_is g in
          let i : q + j ≤ 3 ^ g.n = subst (λ (x : ℕ). q + j ≤ x) e (points_end T (budget - k) d q (subst (λ (x : ℕ). q ≤ x) (sym e) h.near)) in
          omega (arith, i)

      pub points_fit : w.points ≤ left
      points_fit = omega (arith, points_are, points_le T (budget - k) d q, h.spare)

      pub found_fit : at + w.found ≤ room
      found_fit = omega (arith, found_are, h.used, found_add T p k j, next_cut.fits)

      pub few : Checked g → additions + w.additions ≤ 3 * 3 ^ 20
      few ok =
          let a : k + j ≤ 3 ^ 20 = omega (arith, next_near, power_small g ok) in
          let c = cost_most T 3 (cost_three g) p (k + j) in
          omega (arith, h.sum, additions_are, cost_add T p k j, c, a)

      next_list : l' ≡ pasted l₀ 0 (bytes_from (zeros_in T p (k + j)))
      next_list =
          let u = bytes_from (zeros_in T p k) in
          let v = bytes_from (zeros_in T q j) in
          let a = length_from (zeros_in T p k) in
          let b = length_from (zeros_in T q j) in
          let i : 8 * at ≡ 0 + length u = omega (arith, h.used, a) in
          found ∙ ap (λ (x : List ℕ). pasted x (8 * at) v) h.list ∙ ap (λ (x : ℕ). pasted (pasted l₀ 0 u) x v) i
          ∙ paste_paste l₀ 0 u v (omega (arith, a, b, found_add T p k j, next_cut.fits))
          ∙ ap (pasted l₀ 0) (sym (from_append (zeros_in T p k) (zeros_in T q j)) ∙ ap bytes_from (sym (zeros_add T p k j)))

      next_record : o.«record» ≡ opened_at g (p + (k + j))
      next_record =
          let e : q + j ≡ p + (k + j) = omega arith in
          ap (λ (x : Outcome). x.«record») outcome ∙ ap (opened_at g) e

      pub next : Held (k + w.points) (left - w.points) (at + w.found) (additions + w.additions) l' o.«record»
      next =
          subst (λ (x : ℕ). Held (k + x) (left - x) (at + w.found) (additions + w.additions) l' o.«record») (sym points_are)
          (record {
            cut = next_cut;
            spare = omega (arith, h.spare);
            used = omega (arith, h.used, found_are, found_add T p k j);
            sum = omega (arith, h.sum, additions_are, cost_add T p k j);
            near = next_near;
            here = next_record;
            list = next_list;
          })

      -- where something is left, the piece was not empty
      pub moved : 0 < words → (o.«record».place.0 ≡ 3 ^ g.n → ⊥) → 0 < left - w.points → 0 < room - (at + w.found) → 0 < w.points
      moved some f hb hc =
          let e = ap (λ (x : Record). x.place.0) next_record ∙ place_opened g (p + (k + j)) in
          let i : q ≡ T.end → ⊥ = λ x. let z = points_none T (budget - k) d q x in let y = end_is g in f (e ∙ omega (arith, x, z, y)) in
          let u : q < T.end = omega (arith, i, end_is g, h.near) in
          let x = points_one T (budget - k) d q u (omega (arith, h.spare, hb)) (omega (arith, some, hc)) in
          omega (arith, x, points_are)

  -- ---- the same as the code counts: the places so far are what is gone of the budget
  module _ (left at additions : ℕ) (l : List ℕ) (s : Record) (h : Held (budget - left) left at additions l s) (words : ℕ) (o : Outcome) (l' : List ℕ) (w : Report)
      (eo : o ≡ ran_of g s.place.0 left (min words (length l / 8 - at)))
      (el : l' ≡ pasted l (8 * at) (bytes_from (found_in g s.place.0 left (min words (length l / 8 - at)))))
      (ew : w ≡ did_of o.answer) where
    pub again : Held (budget - (left - w.points)) (left - w.points) (at + w.found) (additions + w.additions) l' o.«record»
    again =
        let k = budget - left in
        let e : k + w.points ≡ budget - (left - w.points) = omega (arith, points_fit k left at additions l s h words o l' w eo el ew, h.spare) in
        subst (λ (x : ℕ). Held x (left - w.points) (at + w.found) (additions + w.additions) l' o.«record») e (next k left at additions l s h words o l' w eo el ew)

-- ---- a piece: the points of a call stand in front of the words that it was lent
module _ (g : Given) (q b c : ℕ) (words last : List ℕ) (o : Outcome) (h : c ≤ length words)
    (eo : o ≡ ran_of g q b (length (take c words))) (el : last ≡ list_after (trail_behind g) b q (take c words)) where
  long_front : length (take c words) ≡ c
  long_front = length-take-le c words h

  pub piece_outcome : o ≡ ran_of g q b c
  piece_outcome = eo ∙ ap (ran_of g q b) long_front

  count : (did_of o.answer).found ≡ length (found_in g q b c)
  unfolding report_of
  count = ap (λ (x : Outcome). (did_of x.answer).found) piece_outcome

  pub piece_fits : (did_of o.answer).found ≤ c
  piece_fits = omega (arith, count, zeros_room (trail_behind g) b c q)

  last_long : length last ≡ c
  last_long = ap length el ∙ after_length (trail_behind g) b q (take c words) ∙ long_front

  pub piece_long : length (last ++ drop c words) ≡ length words
  piece_long = omega (arith, length-append last (drop c words), length-drop c words, last_long, h)

  pub piece_listed : take (did_of o.answer).found (last ++ drop c words) ≡ found_in g q b c
  unfolding report_of
  piece_listed =
      let T = trail_behind g in
      let k = (did_of o.answer).found in
      let e : found_in g q b (length (take c words)) ≡ found_in g q b c = ap (found_in g q b) long_front in
      take-append-le k last (drop c words) (omega (arith, piece_fits, last_long))
      ∙ ap₂ (λ (x : ℕ) (y : List ℕ). take x y) (count ∙ ap length (sym e)) el
      ∙ after_front T b q (take c words) ∙ e

  pub piece_size : length (take (did_of o.answer).found (last ++ drop c words)) ≡ (did_of o.answer).found
  piece_size = ap length piece_listed ∙ sym count

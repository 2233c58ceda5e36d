-- The latest place before one that begins with the same positions, by number.
use mathlib.Core.Path.{◌≡◌, refl, sym, ap, ◌∙◌, subst}
use mathlib.Core.Bool.{true}
use mathlib.Core.Logic.{by_cases, ⊎_elim}
use mathlib.Core.List.{List, ◌++◌, append-nil}
use Prim.Native.Nat.{ℕ, zero, suc, ◌+◌, ◌-◌, ◌*◌, ◌/◌, ◌%◌, ◌^◌, ◌<◌, ◌≤◌}
use native.Mathlib.Nat.{mul-zero, mul-suc, one-mul, pow-zero, mod-lt, mod-eq_of_lt, div-add-mod, one-le-pow, mul-le-mul_left}
use native.Mathlib.Decide.{ℕ_discrete, dec_lt}
use native.Mathlib.Omega.{arith}
use Rattle.positions.specs.Positions.{positions}
use Rattle.gray.proofs.GrayLaw.{Stays, Carries, carry, mod_of}
use Rattle.positions.proofs.PositionLaw.{positions_none}
use Rattle.held.specs.Held.{begins, first_of, latest_of}
use Rattle.held.proofs.HeldLaw.{either, begins_append, first_le, first_is, latest_self, latest_other}
use Rattle.held.proofs.StemLaw.{Stem, root, stem_of, place_at, Room, Lies, down, up, low}

-- the number before y that leaves room
unfoldable pub past_of : ℕ → ℕ → ℕ → ℕ
past_of q r y = elim (y % q) [ zero ↦ y - suc r | suc d ↦ y - 1 ]

-- the stem of L
abbrev pub top : ℕ → List ℕ → Stem
top q L = stem_of q root L

module _ (q : ℕ) (two : 1 < q) where
  pos : 0 < q
  pos = omega arith

  whole_root : (y : ℕ) → place_at q root y ≡ y
  whole_root y = ap (λ (w : ℕ). 0 + w * (0 + y)) (pow-zero q) ∙ one y
    where
      one : (y : ℕ) → 0 + 1 * (0 + y) ≡ y
      one y = omega arith

  part_root : (y : ℕ) → q ^ 0 * y ≡ y
  part_root y = ap (λ (w : ℕ). w * y) (pow-zero q) ∙ one-mul y

  room_root : (y : ℕ) → Room q root y
  room_root y = omega (arith, mod-lt y pos)

  -- place p is y above the stem of L
  pub record Above (L : List ℕ) (p y : ℕ) : Type 0 where
    pub is : p ≡ place_at q (top q L) y
    pub room : Room q (top q L) y
    pub rest : positions q p ≡ L ++ positions q (q ^ (top q L).at * y)

  above_from : (L : List ℕ) (p y : ℕ) → Lies q two root L p y → Above L p y
  above_from L p y t = record { is = sym (whole_root p) ∙ t.whole; room = t.room; rest = ap (positions q) (sym (part_root p)) ∙ t.rest }

  pub above : (L : List ℕ) (p : ℕ) → begins L (positions q p) ≡ true → (y : ℕ) × Above L p y
  above L p e =
      let f : begins L (positions q (q ^ 0 * p)) ≡ true = rw (part_root p) e in
      let d = down q two L root p (room_root p) f in
      (d.0, above_from L p d.0 d.1)

  -- one place that begins with L: every number with room gives another
  pub above_other : (L : List ℕ) (p : ℕ) → begins L (positions q p) ≡ true → (y : ℕ) → Room q (top q L) y → Above L (place_at q (top q L) y) y
  above_other L p e y r =
      let f : begins L (positions q (q ^ 0 * p)) ≡ true = rw (part_root p) e in
      let u = up q two L root p (room_root p) f y r in
      let a : Above L u.0 y = above_from L u.0 y u.2 in
      subst (λ (x : ℕ). Above L x y) a.is a

  pub above_begins : (L : List ℕ) (p y : ℕ) → Above L p y → begins L (positions q p) ≡ true
  above_begins L p y a = rw a.rest (begins_append L (positions q (q ^ (top q L).at * y)))

  pub above_low : (L : List ℕ) (p : ℕ) → begins L (positions q p) ≡ true → (top q L).base < q ^ (top q L).at
  above_low L p e =
      let f : begins L (positions q (q ^ 0 * p)) ≡ true = rw (part_root p) e in
      let z : 0 < q ^ 0 = one-le-pow 0 q pos in
      low q two L root p (room_root p) f z

  -- the first of them has no other positions
  bare : (L : List ℕ) (p : ℕ) → begins L (positions q p) ≡ true → positions q (place_at q (top q L) 0) ≡ L
  bare L p b =
      let a = above L p b in
      let z : 0 % q ≡ 0 = mod-eq_of_lt pos in
      let r : 0 % q + (top q L).run < q = omega (arith, a.1.room) in
      let o : Above L (place_at q (top q L) 0) 0 = above_other L p b 0 r in
      o.rest ∙ ap (λ (x : ℕ). L ++ positions q x) (mul-zero (q ^ (top q L).at)) ∙ ap (λ (l : List ℕ). L ++ l) (positions_none q two) ∙ append-nil L

  pub first_place : (L : List ℕ) (p : ℕ) → begins L (positions q p) ≡ true → first_of q L ≡ place_at q (top q L) 0
  first_place L p b = first_is q two L (place_at q (top q L) 0) (bare L p b)

  pub first_positions : (L : List ℕ) (p : ℕ) → begins L (positions q p) ≡ true → positions q (first_of q L) ≡ L
  first_positions L p b = ap (positions q) (first_place L p b) ∙ bare L p b

  -- ---- the number before
  pub past_near : (r y : ℕ) → (y % q ≡ 0 → ⊥) → past_of q r y ≡ y - 1
  unfolding past_of
  past_near r y n = go (y % q) refl
    where
      go : (d : ℕ) → y % q ≡ d → past_of q r y ≡ y - 1
      go zero e = absurd (n e)
      go (suc d) e = rw (e, past_of)

  pub past_far : (r y : ℕ) → y % q ≡ 0 → past_of q r y ≡ y - suc r
  unfolding past_of
  past_far r y e = rw (e, past_of)

  pub below_room : (y : ℕ) → (suc y % q ≡ 0 → ⊥) → suc y % q ≡ suc (y % q)
  below_room y n = ⊎_elim (λ (s : Stays q two y). s.low) (λ (s : Carries q two y). absurd (n s.low)) (carry q two y)

  -- a multiple of q above 0, and the numbers less than q before it
  pub multiple : (y : ℕ) → 0 < y → y % q ≡ 0 → (w : ℕ) × (y ≡ q * w + q)
  multiple y h e = go (y / q) refl
    where
      go : (w : ℕ) → y / q ≡ w → (w : ℕ) × (y ≡ q * w + q)
      go zero f = absurd (let m : q * (y / q) ≡ 0 = rw f (mul-zero q) in omega (arith, div-add-mod y q))
      go (suc w) f = (w, let m : q * (y / q) ≡ q * w + q = rw f (mul-suc q w) in omega (arith, div-add-mod y q))

  pub before_multiple : (y i : ℕ) → 0 < y → y % q ≡ 0 → 0 < i → i < q → (y - i) % q ≡ q - i
  before_multiple y i h e l m =
      let w = multiple y h e in
      let f : y - i ≡ q * w.0 + (q - i) = omega (arith, w.1) in
      ap (λ (x : ℕ). x % q) f ∙ mod_of q two w.0 (q - i) (omega arith)

  pub at_least : (y : ℕ) → 0 < y → y % q ≡ 0 → q ≤ y
  at_least y h e = let w = multiple y h e in omega (arith, w.1)

  past_room : (r y : ℕ) → 0 < y → y % q + r < q → past_of q r y % q + r < q
  past_room r zero h l = absurd (omega arith)
  past_room r (suc y) h l =
      by_cases (ℕ_discrete (suc y % q) 0)
      (λ e. let m = before_multiple (suc y) (suc r) h e (omega arith) in
      by_cases (dec_lt (suc r) q)
      (λ g. let k : (suc y - suc r) % q ≡ q - suc r = m g in rw (past_far r (suc y) e, k) (omega arith))
      (λ g. let k : suc r ≡ q = omega arith in
      let z : (suc y - suc r) % q ≡ 0 = whole (suc y) (suc r) h e k in
      rw (past_far r (suc y) e, z) (omega arith)))
      (λ n. let one : suc y - 1 ≡ y = omega arith in
      rw (past_near r (suc y) n, one) (omega (arith, below_room y n)))
    where
      whole : (y r : ℕ) → 0 < y → y % q ≡ 0 → r ≡ q → (y - r) % q ≡ 0
      whole y r h e k =
          let w = multiple y h e in
          let f : y - r ≡ q * w.0 + 0 = omega (arith, w.1) in
          ap (λ (x : ℕ). x % q) f ∙ mod_of q two w.0 0 pos

  past_lt : (r y : ℕ) → 0 < y → past_of q r y < y
  past_lt r y h =
      by_cases (ℕ_discrete (y % q) 0)
      (λ e. rw (past_far r y e) (omega arith))
      (λ n. rw (past_near r y n) (omega arith))

  -- none between has room
  past_none : (r y u : ℕ) → 0 < y → y % q + r < q → past_of q r y < u → u < y → u % q + r < q → ⊥
  past_none r y u h l a b m =
      by_cases (ℕ_discrete (y % q) 0)
      (λ e. let f = past_far r y e in
      let i : y - (y - u) ≡ u = omega arith in
      let k : (y - (y - u)) % q ≡ q - (y - u) = before_multiple y (y - u) h e (omega arith) (omega arith) in
      let j : u % q ≡ q - (y - u) = ap (λ (x : ℕ). x % q) (sym i) ∙ k in
      omega arith)
      (λ n. omega (arith, past_near r y n))

  -- ---- the latest place
  pub latest_at : (L : List ℕ) (t p : ℕ) → t ≤ p → begins L (positions q t) ≡ true
      → ((u : ℕ) → t < u → u ≤ p → begins L (positions q u) ≡ true → ⊥) → latest_of q L p ≡ t
  unfolding latest_of
  latest_at L t zero l b f = let w = first_le q two L t b in omega arith
  latest_at L t (suc p) l b f =
      by_cases (ℕ_discrete t (suc p))
      (λ e. let c : begins L (positions q (suc p)) ≡ true = rw (← e) b in latest_self q two L p c ∙ sym e)
      (λ n. either (begins L (positions q (suc p)))
      (λ c. absurd (f (suc p) (omega arith) (omega arith) c))
      (λ c. latest_other q two L p c ∙ latest_at L t p (omega arith) b (λ u g h. f u g (omega arith))))

  pub rises : (s : Stem) (a b : ℕ) → place_at q s a < place_at q s b → a < b
  rises s a b h =
      by_cases (dec_lt a b) (λ l. l)
      (λ n. let i : s.run + b ≤ s.run + a = omega arith in
      let m : q ^ s.at * (s.run + b) ≤ q ^ s.at * (s.run + a) = mul-le-mul_left (q ^ s.at) i in
      absurd (omega arith))

  rises_to : (s : Stem) (a b : ℕ) → a < b → place_at q s a < place_at q s b
  rises_to s a b h =
      let w = one-le-pow s.at q pos in
      let i : suc (s.run + a) ≤ s.run + b = omega arith in
      let m : q ^ s.at * suc (s.run + a) ≤ q ^ s.at * (s.run + b) = mul-le-mul_left (q ^ s.at) i in
      omega (arith, mul-suc (q ^ s.at) (s.run + a))

  pub latest_above : (L : List ℕ) (p y : ℕ) → Above L (suc p) y → 0 < y → latest_of q L p ≡ place_at q (top q L) (past_of q (top q L).run y)
  latest_above L p y a h =
      let s = top q L in
      let z = past_of q s.run y in
      let b = above_begins L (suc p) y a in
      let o : Above L (place_at q s z) z = above_other L (suc p) b z (past_room s.run y h a.room) in
      let l = rises_to s z y (past_lt s.run y h) in
      let i = a.is in
      latest_at L (place_at q s z) p (omega arith) (above_begins L (place_at q s z) z o)
      (λ u g k e.
      let w : (x : ℕ) × Above L u x = above L u e in
      let j : u ≡ place_at q s w.0 = w.1.is in
      past_none s.run y w.0 h a.room (rises s z w.0 (omega arith)) (rises s w.0 y (omega arith)) w.1.room)

  -- the latest place begins with L too
  pub past_above : (L : List ℕ) (p y : ℕ) → Above L p y → 0 < y → Above L (place_at q (top q L) (past_of q (top q L).run y)) (past_of q (top q L).run y)
  past_above L p y a h = above_other L p (above_begins L p y a) (past_of q (top q L).run y) (past_room (top q L).run y h a.room)

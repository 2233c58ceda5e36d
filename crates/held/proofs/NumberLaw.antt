-- Opening at any place: the latest place that begins with L, from the number of the place alone.
use mathlib.Core.Path.{◌≡◌, sym, ap, ◌∙◌}
use mathlib.Core.Bool.{true}
use mathlib.Core.Logic.{by_cases}
use mathlib.Core.List.{List}
use Prim.Native.Nat.{ℕ, suc, ◌+◌, ◌-◌, ◌*◌, ◌/◌, ◌%◌, ◌^◌, ◌<◌, ◌≤◌}
use native.Mathlib.Nat.{mul-suc, mod-lt, div-add-mod, one-le-pow, mul-le-mul_left, div-eq_of_lt}
use native.Mathlib.Decide.{dec_lt}
use native.Mathlib.Omega.{arith}
use Rattle.positions.specs.Positions.{positions}
use Rattle.gray.proofs.GrayLaw.{mod_of}
use Rattle.held.specs.Held.{begins, first_of, latest_of}
use Rattle.held.proofs.HeldLaw.{latest_first}
use Rattle.held.proofs.StemLaw.{Stem, place_at}
use Rattle.held.proofs.PastLaw.{top, Above, above, above_other, above_begins, latest_at, rises, first_place}

-- the largest number up to m whose lowest digit leaves room for r more
unfoldable pub fit_of : ℕ → ℕ → ℕ → ℕ
fit_of q r m = m - (m % q + suc r - q)

module _ (q : ℕ) (two : 1 < q) where
  pos : 0 < q
  pos = omega arith

  -- i less, where the lowest digit has them
  lower : (m i : ℕ) → i ≤ m % q → (m - i) % q ≡ m % q - i
  lower m i h =
      let l = mod-lt m pos in
      let e : m - i ≡ q * (m / q) + (m % q - i) = omega (arith, div-add-mod m q) in
      ap (λ (x : ℕ). x % q) e ∙ mod_of q two (m / q) (m % q - i) (omega arith)

  fit_room : (r m : ℕ) → r < q → fit_of q r m % q + r < q
  unfolding fit_of
  fit_room r m h =
      let l = mod-lt m pos in
      let e : (m - (m % q + suc r - q)) % q ≡ m % q - (m % q + suc r - q) = lower m (m % q + suc r - q) (omega arith) in
      rw e (omega arith)

  fit_le : (r m : ℕ) → fit_of q r m ≤ m
  unfolding fit_of
  fit_le r m = omega arith

  fit_none : (r m u : ℕ) → r < q → fit_of q r m < u → u ≤ m → u % q + r < q → ⊥
  unfolding fit_of
  fit_none r m u h a b l =
      let k = mod-lt m pos in
      let i : m - (m - u) ≡ u = omega arith in
      let e : (m - (m - u)) % q ≡ m % q - (m - u) = lower m (m - u) (omega arith) in
      let j : u % q ≡ m % q - (m - u) = ap (λ (x : ℕ). x % q) (sym i) ∙ e in
      omega arith

  -- the place above the stem and the number that it leaves
  place_less : (s : Stem) (y : ℕ) → place_at q s y ≡ place_at q s 0 + q ^ s.at * y
  place_less s y = split s.base (q ^ s.at) s.run y
    where
      split : (b w r y : ℕ) → b + w * (r + y) ≡ b + w * (r + 0) + w * y
      split b w r y = omega arith

  below : (w x y : ℕ) → 0 < w → w * y ≤ x → y ≤ x / w
  below w x y h l =
      by_cases (dec_lt (x / w) y)
      (λ g. let m : w * suc (x / w) ≤ w * y = mul-le-mul_left w g in absurd (omega (arith, mul-suc w (x / w), div-add-mod x w, mod-lt x h)))
      (λ g. omega arith)

  -- L begins some place t: the latest up to p
  pub latest_number : (L : List ℕ) (t p : ℕ) → begins L (positions q t) ≡ true
      → latest_of q L p ≡ place_at q (top q L) (fit_of q (top q L).run ((p - first_of q L) / q ^ (top q L).at))
  latest_number L t p b =
      let s = top q L in
      let w = one-le-pow s.at q pos in
      let z : (y : ℕ) × Above q two L t y = above q two L t b in
      let r : s.run < q = omega (arith, z.1.room) in
      let f : first_of q L ≡ place_at q s 0 = first_place q two L t b in
      by_cases (dec_lt p (first_of q L))
      (λ g.
      let n : (p - first_of q L) / q ^ s.at ≡ 0 = let o : p - first_of q L ≡ 0 = omega arith in ap (λ (x : ℕ). x / q ^ s.at) o ∙ div-eq_of_lt w in
      let k : fit_of q s.run 0 ≡ 0 = fit_zero s.run in
      latest_first q two L p g ∙ f ∙ ap (place_at q s) (sym (ap (fit_of q s.run) n ∙ k)))
      (λ g.
      let m = (p - first_of q L) / q ^ s.at in
      let y = fit_of q s.run m in
      let o : Above q two L (place_at q s y) y = above_other q two L t b y (fit_room s.run m r) in
      let le : q ^ s.at * y ≤ q ^ s.at * m = mul-le-mul_left (q ^ s.at) (fit_le s.run m) in
      let lm : q ^ s.at * m ≤ p - first_of q L = omega (arith, div-add-mod (p - first_of q L) (q ^ s.at)) in
      let pl = place_less s y in
      latest_at q two L (place_at q s y) p (omega arith) (above_begins q two L (place_at q s y) y o)
      (λ u g1 g2 e.
      let v : (x : ℕ) × Above q two L u x = above q two L u e in
      let i : u ≡ place_at q s v.0 = v.1.is in
      let j = place_less s v.0 in
      let up : v.0 ≤ m = below (q ^ s.at) (p - first_of q L) v.0 w (omega arith) in
      fit_none s.run m v.0 r (rises q two s y v.0 (omega arith)) up v.1.room))
    where
      fit_zero : (r : ℕ) → fit_of q r 0 ≡ 0
      fit_zero r = let l = fit_le r 0 in omega arith

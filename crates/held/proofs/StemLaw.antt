-- All places that begin with the same positions, by number: a stem below, and above it any number whose lowest digit leaves room.
use mathlib.Core.Path.{◌≡◌, refl, sym, ap, ap₂, ◌∙◌, subst}
use mathlib.Core.Bool.{true}
use mathlib.Core.Logic.{⊎_elim, by_cases}
use mathlib.Core.List.{List, [], ◌∷◌, ◌++◌}
use Prim.Native.Nat.{ℕ, zero, suc, ◌+◌, ◌-◌, ◌*◌, ◌/◌, ◌%◌, ◌^◌, ◌<◌, ◌≤◌}
use native.Mathlib.Nat.{add-zero, mul-zero, mul-suc, one-mul, pow-zero, pow-suc, pow-succ', mod-lt, mul-mod_right, one-le-pow, mul-le-mul_left}
use native.Mathlib.Decide.{ℕ_discrete}
use native.Mathlib.Omega.{arith}
use lib.Dec.{eqb}
use lib.Pow.{pow-add}
use borrow.Author.Tests.{eqb-true}
use Rattle.residues.specs.Sums.{same}
use Rattle.residues.proofs.Every.{and_left, and_right}
use Rattle.residues.proofs.SumLaw.{same_self, same_other}
use Rattle.positions.specs.Positions.{lowest_of, positions}
use Rattle.positions.proofs.LowestLaw.{of_times, of_other}
use Rattle.gray.proofs.GrayLaw.{Stays, Carries, carry}
use Rattle.gray.proofs.LatestLaw.{moves}
use Rattle.positions.proofs.PositionLaw.{positions_none, positions_next}
use Rattle.held.specs.Held.{begins}

-- the last position, how often it stands at the end, and the digits below it
pub record Stem : Type 0 where
  pub base : ℕ
  pub at : ℕ
  pub run : ℕ

abbrev pub root : Stem
root = record { base = 0; at = 0; run = 0 }

-- one position more
unfoldable pub grow : ℕ → Stem → ℕ → Stem
grow q s d = elim (same d s.at) [
  | zero ↦ record { base = s.base + q ^ s.at * s.run; at = d; run = 1 }
  | suc i ↦ record { base = s.base; at = s.at; run = suc s.run }
]

unfoldable pub stem_of : ℕ → Stem → List ℕ → Stem
stem_of q s [] = s
stem_of q s (d ∷ L) = stem_of q (grow q s d) L

-- the place with y above the stem
abbrev pub place_at : ℕ → Stem → ℕ → ℕ
place_at q s y = s.base + q ^ s.at * (s.run + y)

-- the lowest digit of y leaves room for the run
abbrev pub Room : ℕ → Stem → ℕ → Type 0
Room q s y = y % q + s.run < q

pub grow_self : (q : ℕ) (s : Stem) → grow q s s.at ≡ record { base = s.base; at = s.at; run = suc s.run }
unfolding grow
grow_self q s = rw (same_self s.at, grow)

pub grow_other : (q : ℕ) (s : Stem) (d : ℕ) → (d ≡ s.at → ⊥) → grow q s d ≡ record { base = s.base + q ^ s.at * s.run; at = d; run = 1 }
unfolding grow
grow_other q s d n = rw (same_other d s.at n, grow)

pub grow_at : (q : ℕ) (s : Stem) (d : ℕ) → (grow q s d).at ≡ d
grow_at q s d =
    by_cases (ℕ_discrete d s.at)
    (λ (e : d ≡ s.at). ap (λ (x : ℕ). (grow q s x).at) e ∙ ap (λ (t : Stem). t.at) (grow_self q s) ∙ sym e)
    (λ e. ap (λ (t : Stem). t.at) (grow_other q s d e))

pub one_run : (q b : ℕ) → (grow q root b).run ≡ 1
one_run q b =
    by_cases (ℕ_discrete b 0)
    (λ (e : b ≡ 0). ap (λ (x : ℕ). (grow q root x).run) e ∙ ap (λ (t : Stem). t.run) (grow_self q root))
    (λ e. ap (λ (t : Stem). t.run) (grow_other q root b e))

pub stem_snoc : (q : ℕ) (s : Stem) (L : List ℕ) (d : ℕ) → stem_of q s (L ++ d ∷ []) ≡ grow q (stem_of q s L) d
unfolding stem_of
stem_snoc q s [] d = refl
stem_snoc q s (b ∷ L) d = stem_snoc q (grow q s b) L d

module _ (q : ℕ) (two : 1 < q) where
  pos : 0 < q
  pos = omega arith

  power : (b : ℕ) → 0 < q ^ b
  power b = one-le-pow b q pos

  -- one position: the lowest of q ^ c * (q ^ b * suc z), whose digit suc z % q is not 0
  pub lowest_at : (b z : ℕ) → (suc z % q ≡ 0 → ⊥) → lowest_of q (q ^ b * suc z) ≡ b
  lowest_at b z n = of_times q two b (suc z) (omega arith) ∙ ap (λ (x : ℕ). b + x) (of_other q two (suc z) n) ∙ add-zero b

  pub positions_at : (b z : ℕ) → (suc z % q ≡ 0 → ⊥) → positions q (q ^ b * suc z) ≡ b ∷ positions q (q ^ b * z)
  positions_at b z n =
      let m : q ^ b * suc z ≡ q ^ b * z + q ^ b = mul-suc (q ^ b) z in
      let w = power b in
      let h : 0 < q ^ b * suc z = omega arith in
      let l = lowest_at b z n in
      let r : q ^ b * suc z - q ^ b ≡ q ^ b * z = omega arith in
      positions_next q two (q ^ b * suc z) h ∙ ap₂ (λ (x : ℕ) (y : ℕ). x ∷ positions q y) l (ap (λ (x : ℕ). q ^ b * suc z - q ^ x) l ∙ r)

  -- every number above 0 is such a product
  pub record Split (y : ℕ) : Type 0 where
    pub low : ℕ
    pub over : ℕ
    pub is : y ≡ q ^ low * suc over
    pub digit : suc over % q ≡ 0 → ⊥
    pub lowest : lowest_of q y ≡ low

  pub split : (y : ℕ) → 0 < y → Split y
  split zero h = absurd (omega arith)
  split (suc y) h = let m = moves q two (lowest_of q (suc y)) y refl in record { low = lowest_of q (suc y); over = y / q ^ lowest_of q (suc y); is = m.is; digit = m.digit; lowest = refl }

  pub joined : (c b x : ℕ) → q ^ c * (q ^ b * x) ≡ q ^ (c + b) * x
  joined c b x = left (q ^ c) (q ^ b) x ∙ ap (λ (w : ℕ). w * x) (sym (pow-add q c b))
    where
      left : (a b c : ℕ) → a * (b * c) ≡ a * b * c
      left a b c = omega arith

  -- ---- one position more: the same place, seen from the next stem
  at_grow : (s : Stem) (b : ℕ) → (grow q s (s.at + b)).at ≡ s.at + b
  at_grow s zero = ap (λ (d : ℕ). (grow q s d).at) (add-zero s.at) ∙ ap (λ (t : Stem). t.at) (grow_self q s) ∙ sym (add-zero s.at)
  at_grow s (suc b) = ap (λ (t : Stem). t.at) (grow_other q s (s.at + suc b) (λ e. omega arith))

  place_grow : (s : Stem) (b z : ℕ) → place_at q s (q ^ b * suc z) ≡ place_at q (grow q s (s.at + b)) z
  place_grow s zero z =
      ap (λ (w : ℕ). s.base + q ^ s.at * (s.run + w * suc z)) (pow-zero q) ∙ ap (λ (w : ℕ). s.base + q ^ s.at * w) (once s.run z)
      ∙ sym (ap (λ (t : Stem). place_at q t z) (ap (grow q s) (add-zero s.at) ∙ grow_self q s))
    where
      once : (r z : ℕ) → r + 1 * suc z ≡ suc r + z
      once r z = omega arith
  place_grow s (suc b) z =
      ap (λ (w : ℕ). s.base + w) (spread (q ^ s.at) s.run (q ^ suc b * suc z) ∙ ap (λ (w : ℕ). q ^ s.at * s.run + w) (joined s.at (suc b) (suc z)))
      ∙ right s.base (q ^ s.at * s.run) (q ^ (s.at + suc b)) z
      ∙ sym (ap (λ (t : Stem). place_at q t z) (grow_other q s (s.at + suc b) (λ e. omega arith)))
    where
      spread : (w r x : ℕ) → w * (r + x) ≡ w * r + w * x
      spread w r x = omega arith

      right : (a b w z : ℕ) → a + (b + w * suc z) ≡ a + b + w * (1 + z)
      right a b w z = omega arith

  rest_grow : (s : Stem) (b z : ℕ) → (suc z % q ≡ 0 → ⊥) → positions q (q ^ s.at * (q ^ b * suc z)) ≡ (s.at + b) ∷ positions q (q ^ (grow q s (s.at + b)).at * z)
  rest_grow s b z n =
      ap (positions q) (joined s.at b (suc z)) ∙ positions_at (s.at + b) z n ∙ ap (λ (x : ℕ). (s.at + b) ∷ positions q (q ^ x * z)) (sym (at_grow s b))

  -- room is kept, both ways
  room_out : (s : Stem) (b z : ℕ) → (suc z % q ≡ 0 → ⊥) → Room q s (q ^ b * suc z) → Room q (grow q s (s.at + b)) z
  room_out s zero z n r =
      ⊎_elim
      (λ (t : Stays q two z).
      let e : q ^ 0 * suc z ≡ suc z = ap (λ (w : ℕ). w * suc z) (pow-zero q) ∙ one-mul (suc z) in
      let f : suc z % q + s.run < q = rw e at r in
      let g : z % q + suc s.run < q = omega (arith, t.low) in
      rw (add-zero s.at, grow_self q s) g)
      (λ (t : Carries q two z). absurd (n t.low))
      (carry q two z)
  room_out s (suc b) z n r =
      ⊎_elim
      (λ (t : Stays q two z).
      let g : z % q + 1 < q = omega (arith, t.low, mod-lt (suc z) pos) in
      rw (grow_other q s (s.at + suc b) (λ e. omega arith)) g)
      (λ (t : Carries q two z). absurd (n t.low))
      (carry q two z)

  digit_in : (z r : ℕ) → z % q + suc r < q → suc z % q ≡ suc (z % q)
  digit_in z r h = ⊎_elim (λ (t : Stays q two z). t.low) (λ (t : Carries q two z). absurd (omega (arith, t.top))) (carry q two z)

  run_grow : (s : Stem) (b : ℕ) → (r : ℕ) × ((grow q s (s.at + b)).run ≡ suc r)
  run_grow s zero = (s.run, ap (λ (d : ℕ). (grow q s d).run) (add-zero s.at) ∙ ap (λ (t : Stem). t.run) (grow_self q s))
  run_grow s (suc b) = (0, ap (λ (t : Stem). t.run) (grow_other q s (s.at + suc b) (λ e. omega arith)))

  digit_grow : (s : Stem) (b z : ℕ) → Room q (grow q s (s.at + b)) z → suc z % q ≡ 0 → ⊥
  digit_grow s b z r e =
      let g = run_grow s b in
      let h : z % q + suc g.0 < q = rw g.1 at r in
      omega (arith, digit_in z g.0 h)

  room_in : (s : Stem) (b z : ℕ) → s.run < q → Room q (grow q s (s.at + b)) z → Room q s (q ^ b * suc z)
  room_in s zero z l r =
      let f : z % q + suc s.run < q = rw (add-zero s.at, grow_self q s) at r in
      let e : q ^ 0 * suc z ≡ suc z = ap (λ (w : ℕ). w * suc z) (pow-zero q) ∙ one-mul (suc z) in
      rw e (omega (arith, digit_in z s.run f))
  room_in s (suc b) z l r =
      let e : q ^ suc b * suc z ≡ q * (q ^ b * suc z) = ap (λ (w : ℕ). w * suc z) (pow-suc q b) ∙ turn (q ^ b) q (suc z) in
      let m : (q ^ suc b * suc z) % q ≡ 0 = ap (λ (w : ℕ). w % q) e ∙ mul-mod_right q (q ^ b * suc z) in
      omega arith
    where
      turn : (a b c : ℕ) → a * b * c ≡ b * (a * c)
      turn a b c = omega arith

  -- ---- the stem of L: y above s is z above the stem of L
  pub record Lies (s : Stem) (L : List ℕ) (y z : ℕ) : Type 0 where
    pub whole : place_at q s y ≡ place_at q (stem_of q s L) z
    pub rest : positions q (q ^ s.at * y) ≡ L ++ positions q (q ^ (stem_of q s L).at * z)
    pub room : Room q (stem_of q s L) z

  small : (s : Stem) (y : ℕ) → Room q s y → s.run < q
  small s y r = omega arith

  more : (s : Stem) (b z x : ℕ) (L : List ℕ) → (suc z % q ≡ 0 → ⊥) → Lies (grow q s (s.at + b)) L z x → Lies s ((s.at + b) ∷ L) (q ^ b * suc z) x
  unfolding stem_of
  more s b z x L n t =
      record {
        whole = place_grow s b z ∙ t.whole;
        rest = rest_grow s b z n ∙ ap (λ (l : List ℕ). (s.at + b) ∷ l) t.rest;
        room = t.room;
      }

  -- a number above s that begins with L
  pub down : (L : List ℕ) (s : Stem) (y : ℕ) → Room q s y → begins L (positions q (q ^ s.at * y)) ≡ true → (z : ℕ) × Lies s L y z
  unfolding stem_of begins
  down [] s y r e = (y, record { whole = refl; rest = refl; room = r })
  down (d ∷ L) s zero r e =
      let z : begins (d ∷ L) [] ≡ true = rw (mul-zero (q ^ s.at), positions_none q two) at e in
      absurd (let w : ◌≡◌ {A = ℕ} 0 1 = cc in omega arith)
  down (d ∷ L) s (suc y) r e =
      let h : 0 < suc y = omega arith in
      let p = split (suc y) h in
      let z = p.over in
      let b = p.low in
      let t : Stem = grow q s (s.at + b) in
      let r' : Room q s (q ^ b * suc z) = rw p.is at r in
      let f : begins (d ∷ L) ((s.at + b) ∷ positions q (q ^ t.at * z)) ≡ true = rw (p.is, rest_grow s b z p.digit) at e in
      let i : d ≡ s.at + b = eqb-true d (s.at + b) (and_left (eqb d (s.at + b)) (begins L (positions q (q ^ t.at * z))) f) in
      let n : (x : ℕ) × Lies t L z x = down L t z (room_out s b z p.digit r') (and_right (eqb d (s.at + b)) (begins L (positions q (q ^ t.at * z))) f) in
      let m : Lies s ((s.at + b) ∷ L) (q ^ b * suc z) n.0 = more s b z n.0 L p.digit n.1 in
      rw i (n.0, subst (λ (w : ℕ). Lies s ((s.at + b) ∷ L) w n.0) (sym p.is) m)

  -- and every other number over the stem of L
  pub up : (L : List ℕ) (s : Stem) (y : ℕ) → Room q s y → begins L (positions q (q ^ s.at * y)) ≡ true
      → (z : ℕ) → Room q (stem_of q s L) z → (x : ℕ) × Room q s x × Lies s L x z
  unfolding stem_of begins
  up [] s y r e z k = (z, k, record { whole = refl; rest = refl; room = k })
  up (d ∷ L) s zero r e z k =
      let z : begins (d ∷ L) [] ≡ true = rw (mul-zero (q ^ s.at), positions_none q two) at e in
      absurd (let w : ◌≡◌ {A = ℕ} 0 1 = cc in omega arith)
  up (d ∷ L) s (suc y) r e z k =
      let h : 0 < suc y = omega arith in
      let p = split (suc y) h in
      let b = p.low in
      let t : Stem = grow q s (s.at + b) in
      let r' : Room q s (q ^ b * suc p.over) = rw p.is at r in
      let f : begins (d ∷ L) ((s.at + b) ∷ positions q (q ^ t.at * p.over)) ≡ true = rw (p.is, rest_grow s b p.over p.digit) at e in
      let i : d ≡ s.at + b = eqb-true d (s.at + b) (and_left (eqb d (s.at + b)) (begins L (positions q (q ^ t.at * p.over))) f) in
      let k' : Room q (stem_of q t L) z = rw i at k in
      let n : (x : ℕ) × Room q t x × Lies t L x z
      = up L t p.over (room_out s b p.over p.digit r') (and_right (eqb d (s.at + b)) (begins L (positions q (q ^ t.at * p.over))) f) z k' in
      rw i (q ^ b * suc n.0, room_in s b n.0 (small s (suc y) r) n.1, more s b n.0 z L (digit_grow s b n.0 n.1) n.2)

  -- ---- what stands below the last position is small
  low_grow : (s : Stem) (b : ℕ) → s.run < q → s.base < q ^ s.at → (grow q s (s.at + b)).base < q ^ (grow q s (s.at + b)).at
  low_grow s zero r l = rw (add-zero s.at, grow_self q s) l
  low_grow s (suc b) r l =
      let w = power b in
      let m : q ^ s.at * suc s.run ≤ q ^ s.at * q = mul-le-mul_left (q ^ s.at) r in
      let e : q ≤ q ^ suc b = rw pow-succ' (omega (arith, mul-le-mul_left q w)) in
      let n : q ^ s.at * q ≤ q ^ s.at * q ^ suc b = mul-le-mul_left (q ^ s.at) e in
      let g : s.base + q ^ s.at * s.run < q ^ (s.at + suc b) = rw (pow-add q s.at (suc b)) (omega (arith, mul-suc (q ^ s.at) s.run)) in
      rw (grow_other q s (s.at + suc b) (λ e. omega arith)) g

  pub low : (L : List ℕ) (s : Stem) (y : ℕ) → Room q s y → begins L (positions q (q ^ s.at * y)) ≡ true → s.base < q ^ s.at → (stem_of q s L).base < q ^ (stem_of q s L).at
  unfolding stem_of begins
  low [] s y r e l = l
  low (d ∷ L) s zero r e l =
      let z : begins (d ∷ L) [] ≡ true = rw (mul-zero (q ^ s.at), positions_none q two) at e in
      absurd (let w : ◌≡◌ {A = ℕ} 0 1 = cc in omega arith)
  low (d ∷ L) s (suc y) r e l =
      let h : 0 < suc y = omega arith in
      let p = split (suc y) h in
      let b = p.low in
      let t : Stem = grow q s (s.at + b) in
      let r' : Room q s (q ^ b * suc p.over) = rw p.is at r in
      let f : begins (d ∷ L) ((s.at + b) ∷ positions q (q ^ t.at * p.over)) ≡ true = rw (p.is, rest_grow s b p.over p.digit) at e in
      let i : d ≡ s.at + b = eqb-true d (s.at + b) (and_left (eqb d (s.at + b)) (begins L (positions q (q ^ t.at * p.over))) f) in
      let n : (stem_of q t L).base < q ^ (stem_of q t L).at
      = low L t p.over (room_out s b p.over p.digit r') (and_right (eqb d (s.at + b)) (begins L (positions q (q ^ t.at * p.over))) f) (low_grow s b (small s (suc y) r) l) in
      rw i n

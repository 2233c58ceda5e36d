-- How far apart the points of two places in a row with the same first positions are: it depends on the positions alone.
use mathlib.Core.Path.{◌≡◌, sym, ap, ap₂, ◌∙◌}
use mathlib.Core.Logic.{by_cases}
use Prim.Native.Nat.{ℕ, zero, suc, ◌+◌, ◌-◌, ◌*◌, ◌/◌, ◌%◌, ◌^◌, ◌<◌}
use native.Mathlib.Nat.{add-zero, zero-add, suc-add, mul-zero, pow-zero, pow-suc, pow-succ', mod-lt, div-add-mod, div-lt_iff_lt-mul}
use native.Mathlib.Decide.{ℕ_discrete}
use native.Mathlib.Omega.{arith}
use Rattle.residues.specs.Sums.{same}
use Rattle.residues.proofs.SumLaw.{same_self, same_other}
use Rattle.residues.proofs.ModLaw.{Cong, crefl, cof, csym, ◌⨾◌, cdrop, cadd, cwhole, cancel, cminus}
use Rattle.gray.specs.Numbers.{point_digit}
use Rattle.positions.specs.Positions.{lowest_of}
use Rattle.positions.proofs.LowestLaw.{of_zero, of_other}
use Rattle.gray.proofs.GrayLaw.{div_of, mod_of, point_low, point_next, gray_step}
use Rattle.held.proofs.StemLaw.{Stem, root, grow, place_at, Room, grow_at, one_run}
use Rattle.held.proofs.PastLaw.{past_of, past_near, past_far, below_room, at_least}

-- the number y with b digits below it: those of low
unfoldable pub over : ℕ → ℕ → ℕ → ℕ → ℕ
over q zero low y = y
over q (suc b) low y = q * over q b (low / q) y + low % q

-- the direction from one place to the next with the same first positions, whose stem is s, where d is the position after them
unfoldable pub dir_of : ℕ → Stem → ℕ → ℕ → ℕ
dir_of q s d k = elim (same d s.at) [
  | zero ↦ s.run * same k s.at + same k d + (q - 1) * (suc s.run * same (suc k) s.at)
  | suc i ↦ same k s.at + (q - 1) * same (suc k) s.at
]

pub dir_self : (q : ℕ) (s : Stem) (k : ℕ) → dir_of q s s.at k ≡ same k s.at + (q - 1) * same (suc k) s.at
unfolding dir_of
dir_self q s k = rw (same_self s.at, dir_of)

pub dir_other : (q : ℕ) (s : Stem) (d k : ℕ) → (d ≡ s.at → ⊥) → dir_of q s d k ≡ s.run * same k s.at + same k d + (q - 1) * (suc s.run * same (suc k) s.at)
unfolding dir_of
dir_other q s d k n = rw (same_other d s.at n, dir_of)

-- of no position: b itself
pub one_dir : (q b k : ℕ) → dir_of q root b k ≡ same k b
unfolding same
one_dir q b k =
    by_cases (ℕ_discrete b 0)
    (λ (e : b ≡ 0). ap (λ (x : ℕ). dir_of q root x k) e ∙ dir_self q root k ∙ ap (λ (x : ℕ). same k 0 + x) (mul-zero (q - 1)) ∙ add-zero _ ∙ ap (same k) (sym e))
    (λ e. dir_other q root b k e ∙ ring (same k 0) (same k b) (q - 1))
  where
    ring : (a b r : ℕ) → 0 * a + b + r * (1 * 0) ≡ b
    ring a b r = omega arith

-- of b: e_b less the unknown before it, for b again; else e_b and e_c less twice the unknown before b
pub same_dir : (q b k : ℕ) → dir_of q (grow q root b) b k ≡ same k b + (q - 1) * same (suc k) b
same_dir q b k =
    ap (λ (x : ℕ). dir_of q (grow q root b) x k) (sym (grow_at q root b)) ∙ dir_self q (grow q root b) k
    ∙ ap (λ (x : ℕ). same k x + (q - 1) * same (suc k) x) (grow_at q root b)

pub other_dir : (q b c k : ℕ) → (c ≡ b → ⊥) → dir_of q (grow q root b) c k ≡ 1 * same k b + same k c + (q - 1) * (2 * same (suc k) b)
other_dir q b c k n =
    dir_other q (grow q root b) c k (λ i. n (i ∙ grow_at q root b))
    ∙ ap₂ (λ (r x : ℕ). r * same k x + same k c + (q - 1) * (suc r * same (suc k) x)) (one_run q b) (grow_at q root b)

module _ (q : ℕ) (two : 1 < q) where
  pos : 0 < q
  pos = omega arith

  -- ---- digits below
  over_part : (b low y : ℕ) → over q (suc b) low y / q ≡ over q b (low / q) y
  unfolding over
  over_part b low y = div_of q two (over q b (low / q) y) (low % q) (mod-lt low pos)

  over_low : (b low y : ℕ) → Cong q (over q (suc b) low y) low
  unfolding over
  over_low b low y = cof (turn (q * over q b (low / q) y) (low % q)) ⨾ cwhole (low % q) (over q b (low / q) y) ⨾ cdrop low
    where
      turn : (a b : ℕ) → a + b ≡ b + a
      turn a b = omega arith

  pub over_is : (b low y : ℕ) → low < q ^ b → over q b low y ≡ low + q ^ b * y
  unfolding over
  over_is zero low y h = let z : low ≡ 0 = omega (arith, pow-zero q) in sym (ap₂ (λ (x w : ℕ). x + w * y) z (pow-zero q) ∙ omega arith)
  over_is (suc b) low y h =
      let l : low < q ^ b * q = rw pow-suc at h in
      let g : low / q < q ^ b = (div-lt_iff_lt-mul pos).1 l in
      ap (λ (x : ℕ). q * x + low % q) (over_is b (low / q) y g)
      ∙ turn q (low / q) (q ^ b) y (low % q) ∙ ap₂ (λ (x w : ℕ). x + w * y) (div-add-mod low q) (sym (pow-succ' q b))
    where
      turn : (q a w y r : ℕ) → q * (a + w * y) + r ≡ q * a + r + q * w * y
      turn q a w y r = omega arith

  mid : (b low y z e : ℕ) → Cong q y (z + e) → Cong q (over q b low y) (over q b low z + e * same 0 b)
  unfolding over same
  mid zero low y z e h = h ⨾ cof (omega arith)
  mid (suc b) low y z e h = over_low b low y ⨾ csym (over_low b low z) ⨾ cof (omega arith)

  low_is : (b low y : ℕ) → Cong q (point_digit q (over q (suc b) low y) 0 + over q b (low / q) y) low
  low_is b low y = cof (ap (λ (x : ℕ). point_digit q (over q (suc b) low y) 0 + x) (sym (over_part b low y))) ⨾ point_low q two (over q (suc b) low y) ⨾ over_low b low y

  -- if y has e more than z in its lowest digit, and its point d more at 0 and a more at c, then so far apart are the points with the same b digits below
  pub gap : (y z e d a c : ℕ) → Cong q y (z + e) → ((k : ℕ) → Cong q (point_digit q y k) (point_digit q z k + d * same k 0 + a * same k c))
      → (b low k : ℕ) → Cong q (point_digit q (over q b low y) k + e * same (suc k) b) (point_digit q (over q b low z) k + d * same k b + a * same k (b + c))
  unfolding same over
  gap y z e d a c h f zero low k = cof (none (point_digit q y k) e) ⨾ f k ⨾ cof (ap (λ (x : ℕ). point_digit q z k + d * same k 0 + a * same k x) (sym (zero-add c)))
    where
      none : (x e : ℕ) → x + e * 0 ≡ x
      none x e = omega arith
  gap y z e d a c h f (suc b) low zero =
      cancel pos (over q b (low / q) z)
      (cof (swap (point_digit q (over q (suc b) low y) 0) (e * same 0 b) (over q b (low / q) z)) ⨾ cadd (crefl _) (csym (mid b (low / q) y z e h))
      ⨾ low_is b low y ⨾ csym (low_is b low z) ⨾ cof (ap (λ (x : ℕ). x + over q b (low / q) z) (none (point_digit q (over q (suc b) low z) 0)
      ∙ ap (λ (x : ℕ). point_digit q (over q (suc b) low z) 0 + d * 0 + a * same 0 x) (sym (suc-add b c)))))
    where
      swap : (a b c : ℕ) → a + b + c ≡ a + (c + b)
      swap a b c = omega arith

      none : (x : ℕ) → x ≡ x + d * 0 + a * 0
      none x = omega arith
  gap y z e d a c h f (suc b) low (suc k) =
      rw (point_next q two (over q (suc b) low y) k, point_next q two (over q (suc b) low z) k, over_part b low y, over_part b low z, suc-add b c) (gap y z e d a c h f b (low / q) k)

  -- r more, where the lowest digit leaves room
  raised : (r z : ℕ) → z % q + r < q → (r + z) % q ≡ r + z % q
  raised r z h =
      let e : r + z ≡ q * (z / q) + (r + z % q) = omega (arith, div-add-mod z q) in
      ap (λ (x : ℕ). x % q) e ∙ mod_of q two (z / q) (r + z % q) (omega arith)

  -- r steps at the lowest digit
  climb : (r z : ℕ) → z % q + r < q → (k : ℕ) → Cong q (point_digit q (r + z) k) (point_digit q z k + r * same k 0)
  climb zero z h k = cof (ap (λ (x : ℕ). point_digit q x k) (zero-add z) ∙ none _ _)
    where
      none : (a b : ℕ) → a ≡ a + 0 * b
      none a b = omega arith
  climb (suc r) z h k =
      let n : (suc r + z) % q ≡ suc r + z % q = raised (suc r) z h in
      let m : suc (r + z) % q ≡ suc r + z % q = ap (λ (x : ℕ). x % q) (sym (suc-add r z)) ∙ n in
      cof (ap (λ (x : ℕ). point_digit q x k) (suc-add r z)) ⨾ gray_step q two k (r + z)
      ⨾ cadd (climb r z (omega arith) k) (cof (ap (same k) (of_other q two (suc (r + z)) (λ e. omega arith)))) ⨾ cof (more (point_digit q z k) (same k 0) r)
    where
      more : (a s d : ℕ) → a + d * s + s ≡ a + suc d * s
      more a s d = omega arith

  -- the negative part on the other side
  pub minus : (x y w u : ℕ) → Cong q (y + u) (x + w) → Cong q y (x + (w + (q - 1) * u))
  minus x y w u e = cancel pos u (e ⨾ csym (cof (turn x w u (q - 1)) ⨾ cadd (crefl (x + w)) (cminus q pos u) ⨾ cof (add-zero (x + w))))
    where
      turn : (x w u r : ℕ) → x + (w + r * u) + u ≡ x + w + (u + r * u)
      turn x w u r = omega arith

  module _ (s : Stem) (low : s.base < q ^ s.at) where
    place_is : (x : ℕ) → s.base + q ^ s.at * x ≡ over q s.at s.base x
    place_is x = sym (over_is s.at s.base x low)

    -- the next position is the last once more
    pub near : (z k : ℕ) → Room q s (suc z) → (suc z % q ≡ 0 → ⊥)
        → Cong q (point_digit q (place_at q s (suc z)) k + same (suc k) s.at) (point_digit q (place_at q s z) k + same k s.at)
    near z k r n =
        let e : suc z % q ≡ suc (z % q) = below_room q two z n in
        let m : suc (s.run + z) % q ≡ suc s.run + z % q = ap (λ (x : ℕ). x % q) (sym (suc-add s.run z)) ∙ raised (suc s.run) z (omega arith) in
        let o : lowest_of q (suc (s.run + z)) ≡ 0 = of_other q two (suc (s.run + z)) (λ e. omega arith) in
        let t : s.run + suc z ≡ suc (s.run + z) = omega arith in
        let one : suc (s.run + z) ≡ s.run + z + 1 = omega arith in
        let f : (j : ℕ) → Cong q (point_digit q (suc (s.run + z)) j) (point_digit q (s.run + z) j + 1 * same j 0 + 0 * same j 0)
        = λ j. gray_step q two j (s.run + z) ⨾ cof (ap (λ (x : ℕ). point_digit q (s.run + z) j + same j x) o ∙ none _ _) in
        cof (ap (λ (x : ℕ). point_digit q x k + same (suc k) s.at) (ap (λ (x : ℕ). s.base + q ^ s.at * x) t ∙ place_is (suc (s.run + z))) ∙ once _ _)
        ⨾ gap (suc (s.run + z)) (s.run + z) 1 1 0 0 (cof one) f s.at s.base k
        ⨾ cof (ap (λ (x : ℕ). point_digit q x k + 1 * same k s.at + 0 * same k (s.at + 0)) (sym (place_is (s.run + z))) ∙ sym (none' _ _ _))
      where
        once : (a b : ℕ) → a + b ≡ a + 1 * b
        once a b = omega arith

        none : (a b : ℕ) → a + b ≡ a + 1 * b + 0 * b
        none a b = omega arith

        none' : (a b c : ℕ) → a + b ≡ a + 1 * b + 0 * c
        none' a b c = omega arith

    -- the next position is above
    far : (w k : ℕ) → s.run < q → suc w % q ≡ 0
        → Cong q (point_digit q (place_at q s (suc w)) k + suc s.run * same (suc k) s.at)
        (point_digit q (s.base + q ^ s.at * w) k + (s.run * same k s.at + same k (s.at + lowest_of q (suc w))))
    far w k r e =
        let more : s.run + suc w ≡ w + suc s.run = omega arith in
        let f : (j : ℕ) → Cong q (point_digit q (s.run + suc w) j) (point_digit q w j + s.run * same j 0 + 1 * same j (lowest_of q (suc w)))
        = λ j. climb s.run (suc w) (omega arith) j ⨾ cadd (gray_step q two j w) (crefl _) ⨾ cof (turn _ _ _) in
        cof (ap (λ (x : ℕ). point_digit q x k + suc s.run * same (suc k) s.at) (place_is (s.run + suc w)))
        ⨾ gap (s.run + suc w) w (suc s.run) s.run 1 (lowest_of q (suc w)) (cof more) f s.at s.base k
        ⨾ cof (ap (λ (x : ℕ). point_digit q x k + s.run * same k s.at + 1 * same k (s.at + lowest_of q (suc w))) (sym (place_is w)) ∙ right _ _ _)
      where
        turn : (a b c : ℕ) → a + b + c ≡ a + c + 1 * b
        turn a b c = omega arith

        right : (a b c : ℕ) → a + b + 1 * c ≡ a + (b + c)
        right a b c = omega arith

    pub apart : (y k : ℕ) → 0 < y → Room q s y
        → Cong q (point_digit q (place_at q s y) k) (point_digit q (place_at q s (past_of q s.run y)) k + dir_of q s (s.at + lowest_of q y) k)
    apart zero k h r = absurd (omega arith)
    apart (suc w) k h r =
        by_cases (ℕ_discrete (suc w % q) 0)
        (λ e.
        let a = at_least q two (suc w) h e in
        let i : s.run + (suc w - suc s.run) ≡ w = omega arith in
        let o : s.at + lowest_of q (suc w) ≡ s.at → ⊥ = λ c. let z = of_zero q two (suc w) h e in omega arith in
        minus (point_digit q (s.base + q ^ s.at * w) k) (point_digit q (place_at q s (suc w)) k) (s.run * same k s.at + same k (s.at + lowest_of q (suc w))) (suc s.run * same (suc k) s.at) (far w k (omega arith) e)
        ⨾ cof (ap₂ (λ (x z : ℕ). point_digit q (s.base + q ^ s.at * x) k + z) (sym i ∙ ap (λ (x : ℕ). s.run + x) (sym (past_far q two s.run (suc w) e))) (sym (dir_other q s (s.at + lowest_of q (suc w)) k o))))
        (λ n.
        let one : w ≡ suc w - 1 = omega arith in
        let o : s.at + lowest_of q (suc w) ≡ s.at = ap (λ (x : ℕ). s.at + x) (of_other q two (suc w) n) ∙ add-zero s.at in
        minus (point_digit q (place_at q s w) k) (point_digit q (place_at q s (suc w)) k) (same k s.at) (same (suc k) s.at) (near w k r n)
        ⨾ cof (ap₂ (λ (x z : ℕ). point_digit q (place_at q s x) k + z) (one ∙ sym (past_near q two s.run (suc w) n)) (sym (ap (λ (d : ℕ). dir_of q s d k) o ∙ dir_self q s k))))

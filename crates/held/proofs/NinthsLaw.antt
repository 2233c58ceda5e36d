-- Base 3: the sums over places that the value asks for in degree 3, from the number of the place alone, modulo 3.
use mathlib.Core.Path.{◌≡◌, refl, sym, ap, ap₂, ◌∙◌}
use mathlib.Core.Bool.{true}
use mathlib.Core.Logic.{⊎_elim, by_cases}
use mathlib.Core.List.{[], ◌∷◌}
use Prim.Native.Nat.{ℕ, zero, suc, ◌+◌, ◌-◌, ◌*◌, ◌/◌, ◌%◌, ◌^◌, ◌<◌, ◌≤◌}
use native.Mathlib.Nat.{pow-suc, pow-zero, div-one, mod-lt, div-div-eq-div-mul, mul_comm}
use native.Mathlib.Decide.{dec_lt}
use native.Mathlib.Omega.{arith}
use Rattle.residues.specs.Sums.{sum}
use Rattle.residues.proofs.ModLaw.{Cong, crefl, cof, csym, ◌⨾◌, cdrop, cadd, cmul, cwhole}
use Rattle.residues.proofs.SumLaw.{sum_ext, sum_cong}
use Rattle.positions.specs.Positions.{positions}
use Rattle.positions.proofs.PowerLaw.{power_positions}
use Rattle.gray.proofs.GrayLaw.{Stays, Carries, carry}
use Rattle.held.specs.Held.{begins, first_of}
use Rattle.held.specs.Visits.{gathered, visits}
use Rattle.held.specs.Thirds.{turns_of, low_sum, next_sum, same_sum, lows_sum}
use Rattle.held.proofs.HeldLaw.{begins_self}
use Rattle.held.proofs.StemLaw.{stem_of, one_run}
use Rattle.held.proofs.VisitLaw.{roomy, roomy_more, roomy_same, roomy_ext, gathered_number, roomy_one}
use Rattle.held.proofs.ThirdsLaw.{two, pos, turns_low, turns_up, roomy_thirds, roomy_firsts, roomy_ups, roomy_next, roomy_far, sum_turns_up, sum_turns_low, part_is, three_times, visits_pair_far, visits_pair_same, gathered_far, gathered_near, gathered_twice}

-- ---- places that begin with one position
above_one : (a y : ℕ) → 0 + a * suc y ≡ a * suc y
above_one a y = omega arith

less_one : (a y : ℕ) → a * suc y - a ≡ a * y
less_one a y = let e : a * suc y ≡ a * y + a = omega arith in omega arith

pub gathered_one : (b : ℕ) (h : ℕ → ℕ) (p : ℕ) → gathered 3 (b ∷ []) h p ≡ roomy 3 1 (λ y. h (3 ^ b * suc y)) (p / 3 ^ b)
unfolding first_of stem_of
gathered_one b h p =
    let g : begins (b ∷ []) (positions 3 (3 ^ b)) ≡ true = rw (power_positions 3 two b) (begins_self (b ∷ [])) in
    let z : p - 0 ≡ p = omega arith in
    gathered_number 3 two [] b (3 ^ b) g h p ∙ ap₂ (λ (r x : ℕ). roomy 3 r (λ y. h (0 + 3 ^ b * suc y)) (x / 3 ^ b)) (one_run 3 b) z
    ∙ roomy_ext 3 1 (λ y. h (0 + 3 ^ b * suc y)) (λ y. h (3 ^ b * suc y)) (λ y l. ap h (above_one (3 ^ b) y)) (p / 3 ^ b)

pub visits_one : (b p : ℕ) → visits 3 (b ∷ []) p ≡ p / 3 ^ b - p / 3 ^ b / 3
unfolding visits
visits_one b p = gathered_one b (λ u. 1) p ∙ roomy_one (p / 3 ^ b)

-- what is left of such a place over a later position
part_one : (b c y : ℕ) → b ≤ c → (3 ^ b * suc y - 3 ^ b) / 3 ^ c ≡ y / 3 ^ (c - b)
part_one b c y l = ap (λ (x : ℕ). x / 3 ^ c) (less_one (3 ^ b) y) ∙ part_is b c y l

whole_part : (b y : ℕ) → y / 3 ^ (b - b) ≡ y
whole_part b y = let z : b - b ≡ 0 = omega arith in ap (λ (k : ℕ). y / 3 ^ k) z ∙ ap (λ (w : ℕ). y / w) (pow-zero 3) ∙ div-one y

-- and of two
pub gathered_one_far : (b c p : ℕ) → b < c → gathered 3 (b ∷ []) (visits 3 (b ∷ c ∷ [])) p ≡ roomy 3 1 (turns_of (c - b)) (p / 3 ^ b)
unfolding turns_of
gathered_one_far b c p l =
    gathered_one b (visits 3 (b ∷ c ∷ [])) p
    ∙ roomy_ext 3 1 _ (turns_of (c - b)) (λ y h. visits_pair_far b c (3 ^ b * suc y) l ∙ ap (λ (x : ℕ). x - x / 3) (part_one b c y (omega arith))) (p / 3 ^ b)

pub gathered_one_same : (b p : ℕ) → gathered 3 (b ∷ []) (visits 3 (b ∷ b ∷ [])) p ≡ roomy 3 1 (λ y. (y + 2) / 3) (p / 3 ^ b)
gathered_one_same b p =
    gathered_one b (visits 3 (b ∷ b ∷ [])) p
    ∙ roomy_ext 3 1 _ (λ y. (y + 2) / 3) (λ y h. visits_pair_same b (3 ^ b * suc y) ∙ ap (λ (x : ℕ). (x + 2) / 3) (part_one b b y (omega arith) ∙ whole_part b y)) (p / 3 ^ b)

-- and of three
pub gathered_two_far : (b c d p : ℕ) → b < c → c < d
    → gathered 3 (b ∷ []) (gathered 3 (b ∷ c ∷ []) (visits 3 (b ∷ c ∷ d ∷ []))) p ≡ roomy 3 1 (λ y. roomy 3 1 (turns_of (d - c)) (y / 3 ^ (c - b))) (p / 3 ^ b)
gathered_two_far b c d p l m =
    gathered_one b (gathered 3 (b ∷ c ∷ []) (visits 3 (b ∷ c ∷ d ∷ []))) p
    ∙ roomy_ext 3 1 _ (λ y. roomy 3 1 (turns_of (d - c)) (y / 3 ^ (c - b))) (λ y h. gathered_far b c d (3 ^ b * suc y) l m ∙ ap (roomy 3 1 (turns_of (d - c))) (part_one b c y (omega arith))) (p / 3 ^ b)

pub gathered_two_near : (b c p : ℕ) → b < c
    → gathered 3 (b ∷ []) (gathered 3 (b ∷ c ∷ []) (visits 3 (b ∷ c ∷ c ∷ []))) p ≡ roomy 3 1 (λ y. roomy 3 1 (λ x. (x + 2) / 3) (y / 3 ^ (c - b))) (p / 3 ^ b)
gathered_two_near b c p l =
    gathered_one b (gathered 3 (b ∷ c ∷ []) (visits 3 (b ∷ c ∷ c ∷ []))) p
    ∙ roomy_ext 3 1 _ (λ y. roomy 3 1 (λ x. (x + 2) / 3) (y / 3 ^ (c - b))) (λ y h. gathered_near b c (3 ^ b * suc y) l ∙ ap (roomy 3 1 (λ x. (x + 2) / 3)) (part_one b c y (omega arith))) (p / 3 ^ b)

pub gathered_two_same : (b d p : ℕ) → b < d
    → gathered 3 (b ∷ []) (gathered 3 (b ∷ b ∷ []) (visits 3 (b ∷ b ∷ d ∷ []))) p ≡ roomy 3 1 (λ y. roomy 3 2 (turns_of (d - b)) y) (p / 3 ^ b)
gathered_two_same b d p l =
    gathered_one b (gathered 3 (b ∷ b ∷ []) (visits 3 (b ∷ b ∷ d ∷ []))) p
    ∙ roomy_ext 3 1 _ (λ y. roomy 3 2 (turns_of (d - b)) y) (λ y h. gathered_twice b d (3 ^ b * suc y) l ∙ ap (roomy 3 2 (turns_of (d - b))) (part_one b b y (omega arith) ∙ whole_part b y)) (p / 3 ^ b)

-- ---- sums of products with what does not change between multiples of 3: s is the sum of f, and 0 at those
module _ (s f g : ℕ → ℕ) (start : Cong 3 (s 0) 0) (step : (k : ℕ) → Cong 3 (s k + f k) (s (suc k))) (none : (k : ℕ) → k % 3 ≡ 0 → Cong 3 (s k) 0) where
  pub sum_by : (k : ℕ) → Cong 3 (sum k (λ z. f z * g (z / 3))) (s k * g (k / 3))
  unfolding sum
  sum_by zero = csym (cmul start (crefl (g (0 / 3))) ⨾ cof (nought (g (0 / 3))))
    where
      nought : (y : ℕ) → 0 * y ≡ 0
      nought y = omega arith
  sum_by (suc k) =
      cadd (sum_by k) (crefl (f k * g (k / 3))) ⨾ cof (both (s k) (f k) (g (k / 3))) ⨾ cmul (step k) (crefl (g (k / 3))) ⨾ ⊎_elim
      (λ (t : Stays 3 two k). cof (ap (λ (y : ℕ). s (suc k) * g y) (sym t.part)))
      (λ (t : Carries 3 two k). cmul (none (suc k) t.low) (crefl (g (k / 3))) ⨾ cof (zeros (g (k / 3)) (g (suc k / 3))) ⨾ csym (cmul (none (suc k) t.low) (crefl (g (suc k / 3)))))
      (carry 3 two k)
    where
      both : (a b y : ℕ) → a * y + b * y ≡ (a + b) * y
      both a b y = omega arith

      zeros : (x y : ℕ) → 0 * x ≡ 0 * y
      zeros x y = omega arith

by_three : (k : ℕ) → k % 3 ≡ 0 → Cong 3 k 0
by_three k e = cof (one k) ⨾ three_times k e 1
  where
    one : (k : ℕ) → k ≡ k * 1
    one k = omega arith

-- of ones, of turns, of odd numbers
pub sum_ones : (g : ℕ → ℕ) (k : ℕ) → Cong 3 (sum k (λ z. g (z / 3))) (k * g (k / 3))
sum_ones g k = cof (sum_ext k _ (λ z. 1 * g (z / 3)) (λ z l. one (g (z / 3)))) ⨾ sum_by (λ y. y) (λ y. 1) g (crefl 0) (λ y. cof (next y)) by_three k
  where
    one : (y : ℕ) → y ≡ 1 * y
    one y = omega arith

    next : (y : ℕ) → y + 1 ≡ suc y
    next y = omega arith

low_three : (k : ℕ) → k % 3 ≡ 0 → Cong 3 (low_sum k) 0
unfolding low_sum
low_three k e = cadd (cof (ap (λ (y : ℕ). y / 2) e)) (cmul (crefl 2) (three_times k e (k / 3)))

low_step : (k : ℕ) → Cong 3 (low_sum k + (k + 2 * (k / 3))) (low_sum (suc k))
unfolding sum
low_step k = cadd (csym (sum_turns_low k)) (cof (is k) ⨾ cwhole (k - k / 3) (k / 3) ⨾ cof (sym (turns_low k))) ⨾ sum_turns_low (suc k)
  where
    is : (k : ℕ) → k + 2 * (k / 3) ≡ k - k / 3 + 3 * (k / 3)
    is k = omega arith

pub sum_lows : (g : ℕ → ℕ) (k : ℕ) → Cong 3 (sum k (λ z. (z + 2 * (z / 3)) * g (z / 3))) (low_sum k * g (k / 3))
unfolding low_sum
sum_lows g k = sum_by low_sum (λ z. z + 2 * (z / 3)) g (crefl 0) low_step low_three k

pub sum_odds : (g : ℕ → ℕ) (k : ℕ) → Cong 3 (sum k (λ z. (2 * z + 1) * g (z / 3))) (k * k * g (k / 3))
sum_odds g k = sum_by (λ y. y * y) (λ z. 2 * z + 1) g (crefl 0) (λ y. cof (next y)) (λ y e. three_times y e y) k
  where
    next : (y : ℕ) → y * y + (2 * y + 1) ≡ suc y * suc y
    next y = omega arith

sum_last : (k : ℕ) (h : ℕ → ℕ) → sum (suc k) h ≡ sum k h + h k
unfolding sum
sum_last k h = refl

-- ---- a position, and one that is two or more further on
third_part : (F : ℕ → ℕ) (j z : ℕ) → F (z / 3 ^ suc j) ≡ F (z / 3 / 3 ^ j)
third_part F j z = ap F (ap (λ (w : ℕ). z / w) (pow-suc 3 j ∙ mul_comm (3 ^ j) 3) ∙ sym (div-div-eq-div-mul z 3 (3 ^ j)))

pub roomy_apart : (F : ℕ → ℕ) (j x : ℕ) → Cong 3 (roomy 3 1 (λ y. F (y / 3 ^ suc (suc j))) x) ((x + 2 * (x / 3)) * F (x / 3 ^ suc (suc j)))
roomy_apart F j x =
    let t = F (x / 3 ^ suc (suc j)) in
    let g : ℕ → ℕ = λ (z : ℕ). F (z / 3 ^ suc j) in
    let e : g (x / 3) ≡ t = sym (third_part F (suc j) x) in
    let s : Cong 3 (sum (x / 3) g) (x / 3 * t)
    = cof (sum_ext (x / 3) g (λ z. F (z / 3 / 3 ^ j)) (λ z l. third_part F j z)) ⨾ sum_ones (λ z. F (z / 3 ^ j)) (x / 3) ⨾ cof (ap (λ (y : ℕ). x / 3 * y) (sym (third_part F j (x / 3)) ∙ e)) in
    cof (roomy_ext 3 1 _ (λ y. g (y / 3)) (λ y l. third_part F (suc j) y) x ∙ roomy_thirds g x) ⨾ cadd (cadd s s) (cmul (cdrop x) (cof e)) ⨾ cof (join (x / 3) x t)
  where
    join : (k x t : ℕ) → k * t + k * t + x * t ≡ (x + 2 * k) * t
    join k x t = omega arith

-- ---- a position and the next one: what follows is summed
pub roomy_after : (F : ℕ → ℕ) (x : ℕ) → roomy 3 1 (λ y. F (y / 3 ^ 1)) x ≡ sum (x / 3) F + sum (x / 3) F + x % 3 * F (x / 3)
roomy_after F x = roomy_ext 3 1 _ (λ y. F (y / 3)) (λ y l. ap (λ (w : ℕ). F (y / w)) one) x ∙ roomy_thirds F x
  where
    one : 3 ^ 1 ≡ 3
    one = refl

-- sums of the weights of two positions: those of a position that is two or more further on; of the next; of the same
pub after_far : (l k : ℕ) → Cong 3 (sum k (roomy 3 1 (turns_of (suc (suc l))))) (low_sum k * turns_of (suc (suc l)) k)
after_far l k =
    sum_cong 3 k _ (λ z. (z + 2 * (z / 3)) * turns_of (suc l) (z / 3)) (λ z h. roomy_far l z ⨾ cof (ap (λ (y : ℕ). (z + 2 * (z / 3)) * y) (turns_up (suc l) z)))
    ⨾ sum_lows (turns_of (suc l)) k ⨾ cof (ap (λ (y : ℕ). low_sum k * y) (sym (turns_up (suc l) k)))

-- a number that is 3 a + i, and the next
turn : (P : ℕ → ℕ → ℕ → ℕ → Type 0) → ((a : ℕ) → P a 0 a 1) → ((a : ℕ) → P a 1 a 2) → ((a : ℕ) → P a 2 (suc a) 0) → (k : ℕ) → P (k / 3) (k % 3) (suc k / 3) (suc k % 3)
turn P zero_case one_case two_case k = go (k % 3) refl (mod-lt k pos)
  where
    go : (i : ℕ) → k % 3 ≡ i → i < 3 → P (k / 3) (k % 3) (suc k / 3) (suc k % 3)
    go zero e l = let u : suc k / 3 ≡ k / 3 = omega arith in let v : suc k % 3 ≡ 1 = omega arith in rw (e, u, v) (zero_case (k / 3))
    go (suc zero) e l = let u : suc k / 3 ≡ k / 3 = omega arith in let v : suc k % 3 ≡ 2 = omega arith in rw (e, u, v) (one_case (k / 3))
    go (suc (suc zero)) e l = let u : suc k / 3 ≡ suc (k / 3) = omega arith in let v : suc k % 3 ≡ 0 = omega arith in rw (e, u, v) (two_case (k / 3))
    go (suc (suc (suc i))) e l = absurd (omega arith)

next_step : (k : ℕ) → Cong 3 (next_sum k + (2 * low_sum (k / 3) + k % 3 * (k / 3 - k / 3 / 3))) (next_sum (suc k))
unfolding next_sum
next_step =
    turn (λ a i c j. Cong 3 (i * (2 * low_sum a) + i / 2 * (a - a / 3) + (2 * low_sum a + i * (a - a / 3))) (j * (2 * low_sum c) + j / 2 * (c - c / 3)))
    (λ a. cof (first (low_sum a) (a - a / 3)))
    (λ a. cof (second (low_sum a) (a - a / 3)))
    (λ a. cof (third (low_sum a) (a - a / 3)) ⨾ cwhole 0 (2 * low_sum a + (a - a / 3)) ⨾ cof (none (low_sum (suc a)) (suc a - suc a / 3)))
  where
    first : (s x : ℕ) → 0 * (2 * s) + 0 / 2 * x + (2 * s + 0 * x) ≡ 1 * (2 * s) + 1 / 2 * x
    first s x = omega arith

    second : (s x : ℕ) → 1 * (2 * s) + 1 / 2 * x + (2 * s + 1 * x) ≡ 2 * (2 * s) + 2 / 2 * x
    second s x = omega arith

    third : (s x : ℕ) → 2 * (2 * s) + 2 / 2 * x + (2 * s + 2 * x) ≡ 0 + 3 * (2 * s + x)
    third s x = omega arith

    none : (s x : ℕ) → 0 ≡ 0 * (2 * s) + 0 / 2 * x
    none s x = omega arith

same_step : (k : ℕ) → Cong 3 (same_sum k + (k / 3 * (k / 3) + k % 3 * (k / 3) + k % 3 / 2)) (same_sum (suc k))
unfolding same_sum
same_step =
    turn (λ a i c j. Cong 3 (a + i * (a * a) + i / 2 * a + (a * a + i * a + i / 2)) (c + j * (c * c) + j / 2 * c))
    (λ a. cof (first a))
    (λ a. cof (second a))
    (λ a. cof (third a) ⨾ cwhole (suc a) (a * a + a) ⨾ cof (none a))
  where
    first : (a : ℕ) → a + 0 * (a * a) + 0 / 2 * a + (a * a + 0 * a + 0 / 2) ≡ a + 1 * (a * a) + 1 / 2 * a
    first a = omega arith

    second : (a : ℕ) → a + 1 * (a * a) + 1 / 2 * a + (a * a + 1 * a + 1 / 2) ≡ a + 2 * (a * a) + 2 / 2 * a
    second a = omega arith

    third : (a : ℕ) → a + 2 * (a * a) + 2 / 2 * a + (a * a + 2 * a + 2 / 2) ≡ suc a + 3 * (a * a + a)
    third a = omega arith

    none : (a : ℕ) → suc a ≡ suc a + 0 * (suc a * suc a) + 0 / 2 * suc a
    none a = omega arith

-- low_sum of 3 a + i, for i up to 3
low_at : (k : ℕ) → Cong 3 (low_sum k) (k % 3 / 2 + 2 * (k % 3 * (k / 3)))
unfolding low_sum
low_at k = cadd (crefl (k % 3 / 2)) (cmul (crefl 2) (cmul (csym (cdrop k)) (crefl (k / 3))))

lows_step : (k : ℕ) → Cong 3 (lows_sum k + (low_sum k + low_sum (suc k))) (lows_sum (suc k))
unfolding lows_sum
lows_step k = cadd (crefl _) (cadd (low_at k) (low_at (suc k))) ⨾
    turn (λ a i c j. Cong 3 (2 * a + (i + 1) / 2 * (2 * a) + i / 2 + (i / 2 + 2 * (i * a) + (j / 2 + 2 * (j * c)))) (2 * c + (j + 1) / 2 * (2 * c) + j / 2))
    (λ a. cof (first a))
    (λ a. cof (second a) ⨾ cwhole (2 * a + 3 / 2 * (2 * a) + 2 / 2) (2 * a))
    (λ a. cof (third a) ⨾ cwhole (2 * suc a + 1 / 2 * (2 * suc a) + 0 / 2) (2 * a))
    k
  where
    first : (a : ℕ) → 2 * a + 1 / 2 * (2 * a) + 0 / 2 + (0 / 2 + 2 * (0 * a) + (1 / 2 + 2 * (1 * a))) ≡ 2 * a + 2 / 2 * (2 * a) + 1 / 2
    first a = omega arith

    second : (a : ℕ) → 2 * a + 2 / 2 * (2 * a) + 1 / 2 + (1 / 2 + 2 * (1 * a) + (2 / 2 + 2 * (2 * a))) ≡ 2 * a + 3 / 2 * (2 * a) + 2 / 2 + 3 * (2 * a)
    second a = omega arith

    third : (a : ℕ) → 2 * a + 3 / 2 * (2 * a) + 2 / 2 + (2 / 2 + 2 * (2 * a) + (0 / 2 + 2 * (0 * suc a))) ≡ 2 * suc a + 1 / 2 * (2 * suc a) + 0 / 2 + 3 * (2 * a)
    third a = omega arith

sum_is : (s f : ℕ → ℕ) → Cong 3 0 (s 0) → ((k : ℕ) → Cong 3 (s k + f k) (s (suc k))) → (k : ℕ) → Cong 3 (sum k f) (s k)
unfolding sum
sum_is s f start step zero = start
sum_is s f start step (suc k) = cadd (sum_is s f start step k) (crefl (f k)) ⨾ step k

pub after_next : (k : ℕ) → Cong 3 (sum k (roomy 3 1 (turns_of 1))) (next_sum k)
unfolding next_sum
after_next k = sum_cong 3 k _ (λ z. 2 * low_sum (z / 3) + z % 3 * (z / 3 - z / 3 / 3)) (λ z h. roomy_next z) ⨾ sum_is next_sum _ (cof (none (low_sum 0))) next_step k
  where
    none : (y : ℕ) → 0 ≡ 0 * (2 * y) + 0
    none y = omega arith

pub after_same : (k : ℕ) → Cong 3 (sum k (roomy 3 1 (λ x. (x + 2) / 3))) (same_sum k)
unfolding same_sum
after_same k = cof (sum_ext k _ (λ z. z / 3 * (z / 3) + z % 3 * (z / 3) + z % 3 / 2) (λ z h. roomy_ups z)) ⨾ sum_is same_sum _ (crefl 0) same_step k

-- ---- a position twice: what follows is summed up to thirds, rounded up
pub roomy_rounded : (B : ℕ → ℕ) (x : ℕ) → roomy 3 1 (λ y. B ((y + 2) / 3)) x ≡ sum (x / 3) (λ k. B k + B (suc k)) + ((x % 3 + 1) / 2 * B (x / 3) + x % 3 / 2 * B (suc (x / 3)))
unfolding roomy sum
roomy_rounded B zero = none (B 0) (B 1)
  where
    none : (x y : ℕ) → 0 ≡ 0 + (0 * x + 0 * y)
    none x y = omega arith
roomy_rounded B (suc x) =
    ⊎_elim
    (λ (s : Stays 3 two x).
    let l : x % 3 + 1 < 3 = omega (arith, s.low, mod-lt (suc x) pos) in
    roomy_more 3 1 (λ y. B ((y + 2) / 3)) x l ∙ ap (λ (a : ℕ). a + B ((x + 2) / 3)) (roomy_rounded B x) ∙ by_cases (dec_lt (x % 3) 1)
    (λ z. let i : x % 3 ≡ 0 = omega arith in let j : (x + 2) / 3 ≡ x / 3 = omega arith in
    ap₂ (λ (i j : ℕ). sum (x / 3) (λ k. B k + B (suc k)) + ((i + 1) / 2 * B (x / 3) + i / 2 * B (suc (x / 3))) + B j) i j ∙ first _ (B (x / 3)) (B (suc (x / 3)))
    ∙ ap₂ (λ (k i : ℕ). sum k (λ k. B k + B (suc k)) + ((i + 1) / 2 * B k + i / 2 * B (suc k))) (sym s.part) (sym (s.low ∙ ap suc i)))
    (λ z. let i : x % 3 ≡ 1 = omega arith in let j : (x + 2) / 3 ≡ suc (x / 3) = omega arith in
    ap₂ (λ (i j : ℕ). sum (x / 3) (λ k. B k + B (suc k)) + ((i + 1) / 2 * B (x / 3) + i / 2 * B (suc (x / 3))) + B j) i j ∙ second _ (B (x / 3)) (B (suc (x / 3)))
    ∙ ap₂ (λ (k i : ℕ). sum k (λ k. B k + B (suc k)) + ((i + 1) / 2 * B k + i / 2 * B (suc k))) (sym s.part) (sym (s.low ∙ ap suc i))))
    (λ (s : Carries 3 two x).
    let l : 3 ≤ x % 3 + 1 = omega (arith, s.top) in
    let i : x % 3 ≡ 2 = omega (arith, s.top) in
    roomy_same 3 1 (λ y. B ((y + 2) / 3)) x l ∙ roomy_rounded B x ∙ ap (λ (i : ℕ). sum (x / 3) (λ k. B k + B (suc k)) + ((i + 1) / 2 * B (x / 3) + i / 2 * B (suc (x / 3)))) i
    ∙ third _ (B (x / 3)) (B (suc (x / 3))) (B (suc (suc (x / 3)))) ∙ ap₂ (λ (k i : ℕ). sum k (λ k. B k + B (suc k)) + ((i + 1) / 2 * B k + i / 2 * B (suc k))) (sym s.part) (sym s.low))
    (carry 3 two x)
  where
    first : (s x y : ℕ) → s + ((0 + 1) / 2 * x + 0 / 2 * y) + x ≡ s + ((1 + 1) / 2 * x + 1 / 2 * y)
    first s x y = omega arith

    second : (s x y : ℕ) → s + ((1 + 1) / 2 * x + 1 / 2 * y) + y ≡ s + ((2 + 1) / 2 * x + 2 / 2 * y)
    second s x y = omega arith

    third : (s x y z : ℕ) → s + ((2 + 1) / 2 * x + 2 / 2 * y) ≡ s + (x + y) + ((0 + 1) / 2 * y + 0 / 2 * z)
    third s x y z = omega arith

pub twice_next : (x : ℕ) → Cong 3 (roomy 3 1 (λ y. roomy 3 2 (turns_of 1) y) x) (lows_sum (x / 3) + ((x % 3 + 1) / 2 * low_sum (x / 3) + x % 3 / 2 * low_sum (suc (x / 3))))
unfolding lows_sum
twice_next x =
    let B : ℕ → ℕ = λ (z : ℕ). sum z (turns_of 0) in
    cof (roomy_ext 3 1 _ (λ y. B ((y + 2) / 3)) (λ y l. roomy_ext 3 2 (turns_of 1) (λ z. turns_of 0 (z / 3)) (λ z h. turns_up 0 z) y ∙ roomy_firsts (turns_of 0) y) x ∙ roomy_rounded B x)
    ⨾ cadd (sum_cong 3 (x / 3) _ (λ k. low_sum k + low_sum (suc k)) (λ k l. cadd (sum_turns_low k) (sum_turns_low (suc k))) ⨾ sum_is lows_sum _ (crefl 0) lows_step (x / 3))
    (cadd (cmul (crefl _) (sum_turns_low (x / 3))) (cmul (crefl _) (sum_turns_low (suc (x / 3)))))

pub twice_far : (l x : ℕ) → Cong 3 (roomy 3 1 (λ y. roomy 3 2 (turns_of (suc (suc l))) y) x) ((x / 3 * (x / 3) + x % 3 * (x / 3) + x % 3 / 2) * turns_of (suc l) (x / 3))
twice_far l x =
    let K = x / 3 in
    let t = turns_of (suc l) K in
    let B : ℕ → ℕ = λ (z : ℕ). sum z (turns_of (suc l)) in
    let up : (k : ℕ) → Cong 3 (B (suc k)) (suc k * turns_of (suc l) k) = λ k. step k in
    cof (roomy_ext 3 1 _ (λ y. B ((y + 2) / 3)) (λ y h. roomy_ext 3 2 (turns_of (suc (suc l))) (λ z. turns_of (suc l) (z / 3)) (λ z h. turns_up (suc l) z) y ∙ roomy_firsts (turns_of (suc l)) y) x ∙ roomy_rounded B x)
    ⨾ cadd (sum_cong 3 K _ (λ k. (2 * k + 1) * turns_of l (k / 3)) (λ k h. cadd (sum_turns_up l k) (up k) ⨾ cof (join k (turns_of (suc l) k) ∙ ap (λ (y : ℕ). (2 * k + 1) * y) (turns_up l k)))
    ⨾ sum_odds (turns_of l) K ⨾ cof (ap (λ (y : ℕ). K * K * y) (sym (turns_up l K))))
    (cadd (cmul (crefl ((x % 3 + 1) / 2)) (sum_turns_up l K)) (cmul (crefl (x % 3 / 2)) (up K))) ⨾ cof (all K (x % 3) t (mod-lt x pos))
  where
    step : (k : ℕ) → Cong 3 (sum (suc k) (turns_of (suc l))) (suc k * turns_of (suc l) k)
    step k = sum_step k ⨾ cadd (sum_turns_up l k) (crefl (turns_of (suc l) k)) ⨾ cof (more k (turns_of (suc l) k))
      where
        more : (k y : ℕ) → k * y + y ≡ suc k * y
        more k y = omega arith

        sum_step : (k : ℕ) → Cong 3 (sum (suc k) (turns_of (suc l))) (sum k (turns_of (suc l)) + turns_of (suc l) k)
        sum_step k = cof (sum_last k (turns_of (suc l)))

    join : (k y : ℕ) → k * y + suc k * y ≡ (2 * k + 1) * y
    join k y = omega arith

    all : (k i t : ℕ) → i < 3 → k * k * t + ((i + 1) / 2 * (k * t) + i / 2 * (suc k * t)) ≡ (k * k + i * k + i / 2) * t
    all k zero t l = zero_case k t
      where
        zero_case : (k t : ℕ) → k * k * t + ((0 + 1) / 2 * (k * t) + 0 / 2 * (suc k * t)) ≡ (k * k + 0 * k + 0 / 2) * t
        zero_case k t = omega arith
    all k (suc zero) t l = one_case k t
      where
        one_case : (k t : ℕ) → k * k * t + ((1 + 1) / 2 * (k * t) + 1 / 2 * (suc k * t)) ≡ (k * k + 1 * k + 1 / 2) * t
        one_case k t = omega arith
    all k (suc (suc zero)) t l = two_case k t
      where
        two_case : (k t : ℕ) → k * k * t + ((2 + 1) / 2 * (k * t) + 2 / 2 * (suc k * t)) ≡ (k * k + 2 * k + 2 / 2) * t
        two_case k t = omega arith
    all k (suc (suc (suc i))) t l = absurd (omega arith)

-- A row of entries with their weights, as the code sums it.
use mathlib.Core.Path.{◌≡◌, refl, sym, ap, ◌∙◌}
use mathlib.Core.Logic.{by_cases}
use mathlib.Core.List.{List}
use Prim.Native.Nat.{ℕ, zero, suc, ◌+◌, ◌-◌, ◌*◌, ◌%◌, ◌≤◌, ◌<◌}
use native.Mathlib.Nat.{add-zero}
use native.Mathlib.Numerals.{add-one}
use native.Mathlib.Decide.{ℕ_discrete, dec_lt}
use native.Mathlib.Omega.{arith}
use lib.ListN.{get_or}
use Rattle.residues.specs.Sums.{sum}
use Rattle.residues.proofs.ModLaw.{Cong, crefl, cof, csym, ◌⨾◌, cdrop, cadd, cmul}
use Rattle.residues.proofs.SumLaw.{sum_ext, sum_zero, sum_cong, sum_scale}
use Rattle.trits.specs.declared.Vector.{Vector}
use Rattle.trits.specs.Trit.{Holds}
use Rattle.trits.specs.Words.{Scaled}
use Rattle.trits.proofs.HoldLaw.{holds_ext, holds_times}
use Rattle.gray.specs.Numbers.{point_digit}
use Rattle.listed.specs.Lists.{Lists}
use Rattle.listed.proofs.ListLaw.{listed_lt, listed_rise}
use Rattle.weights.specs.declared.Weights.{Weights}
use Rattle.weights.specs.Parts.{Weighs, Skips, Ready}

-- ---- the listed unknowns past k
module _ (n : ℕ) (x : ℕ → ℕ) (at turn : List ℕ) (count : ℕ) (lists : Lists n x at turn count) (k from : ℕ) (s : Skips x at count k from) where
  -- none left
  pub skip_end : from ≡ count → Skips x at count (k + 1) from
  skip_end e = record { some = s.some; late = λ t l m. absurd (omega arith); zero = λ i l m. s.zero i (omega arith) m }

  -- the next is k itself
  pub skip_one : from < count → get_or at from 0 ≡ k → Skips x at count (k + 1) (from + 1)
  skip_one h e =
      let u = lists.step from h in
      let v : get_or at (from + 1) 0 ≡ get_or at (suc from) 0 = ap (λ (y : ℕ). get_or at y 0) (add-one from) in
      record {
        some = omega arith;
        late = λ t l m. let r = listed_rise n x at turn count lists (suc from) t (omega arith) m in omega arith;
        zero = λ i l m. lists.gap from h i (omega arith) (omega arith);
      }

  -- it is past k
  pub skip_none : from < count → (get_or at from 0 ≡ k → ⊥) → Skips x at count (k + 1) from
  skip_none h e =
      let u = s.late from (omega arith) h in
      record {
        some = s.some;
        late = λ t l m. let r = listed_rise n x at turn count lists from t l m in omega arith;
        zero = λ i l m. s.zero i (omega arith) m;
      }

-- digits of which those below `low` are 0, listed from the first on
pub skips_first : (n : ℕ) (x : ℕ → ℕ) (at turn : List ℕ) (count low : ℕ) → Lists n x at turn count → ((k : ℕ) → k < low → x k ≡ 0) → Skips x at count low 0
skips_first n x at turn count low lists none = record {
  some = omega arith;
  late = λ t l m. by_cases (dec_lt (get_or at t 0) low) (λ h. let z = none (get_or at t 0) h in let d = lists.digit t m in absurd (omega arith)) (λ h. omega arith);
  zero = λ k l m. lists.first k m;
}

-- ---- digits listed
pub ready_first : (n b r : ℕ) (ds at turn : List ℕ) (count : ℕ) → ((k : ℕ) → b + 1 ≤ k → k < n → get_or ds k 0 ≡ point_digit 3 r k) → ((k : ℕ) → (b + 1 ≤ k → k < n → ⊥) → get_or ds k 0 ≡ 0)
    → Lists n (λ k. get_or ds k 0 % 3) at turn count → Ready n b r at turn count (b + 1) 0
ready_first n b r ds at turn count used unused lists = record {
  x = λ k. get_or ds k 0 % 3;
  lists = lists;
  digits = λ d h l. cdrop (get_or ds d 0) ⨾ cof (used d (omega arith) l);
  skips = skips_first n (λ k. get_or ds k 0 % 3) at turn count (b + 1) lists (λ k h. ap (λ (y : ℕ). y % 3) (unused k (λ p q. omega arith)));
}

pub ready_skip : (n b r : ℕ) (at turn : List ℕ) (count low from next : ℕ) → ((n : ℕ) (x : ℕ → ℕ) (turn : List ℕ) → Lists n x at turn count → Skips x at count low from → Skips x at count (low + 1) next)
    → Ready n b r at turn count low from → Ready n b r at turn count (low + 1) next
ready_skip n b r at turn count low from next s h = record { x = h.x; lists = h.lists; digits = h.digits; skips = s n h.x turn h.lists h.skips }

-- every one of them is past, and below n
pub ready_late : (n b r : ℕ) (at turn : List ℕ) (count low from : ℕ) → Ready n b r at turn count low from → (t : ℕ) → from ≤ t → t < count → (low ≤ get_or at t 0) × (get_or at t 0 < n)
ready_late n b r at turn count low from h t l m = (h.skips.late t l m, listed_lt n h.x at turn count h.lists t m)

-- ---- sums
pub sum_parts : (i j : ℕ) (H : ℕ → ℕ) → sum (i + j) H ≡ sum i H + sum j (λ k. H (i + k))
unfolding sum
sum_parts i zero H = let e : i + 0 ≡ i = omega arith in ap (λ (k : ℕ). sum k H) e ∙ sym (add-zero _)
sum_parts i (suc j) H = let e : i + suc j ≡ suc (i + j) = omega arith in ap (λ (k : ℕ). sum k H) e ∙ ap (λ (y : ℕ). y + H (i + j)) (sum_parts i j H) ∙ right (sum i H) (sum j (λ k. H (i + k))) (H (i + j))
  where
    right : (a b c : ℕ) → a + b + c ≡ a + (b + c)
    right a b c = omega arith

sum_no : (H : ℕ → ℕ) → sum 0 H ≡ 0
unfolding sum
sum_no H = refl

sum_one_more : (i : ℕ) (H : ℕ → ℕ) → sum (suc i) H ≡ sum i H + H i
unfolding sum
sum_one_more i H = refl

module _ (n b c a : ℕ) (g x : ℕ → ℕ) (w : Weights) (weighs : Weighs n b c a g x w) (low : c < n) (cube : ℕ → ℕ) where
  abbrev G : ℕ → ℕ
  G d = g d * cube d

  -- nothing before c
  front : Cong 3 (sum c G) 0
  front = sum_cong 3 c G (λ d. 0 * cube d) (λ d l. cmul (weighs.none d l) (crefl (cube d))) ⨾ cof (sum_ext c _ (λ d. cube d * 0) (λ d l. turn (cube d)) ∙ sum_zero c cube)
    where
      turn : (y : ℕ) → 0 * y ≡ y * 0
      turn y = omega arith

  -- the listed part, a times
  far : (i j : ℕ) → i + j ≡ n → suc c < i → Cong 3 (a * sum j (λ k. cube (i + k) * x (i + k))) (sum j (λ k. G (i + k)))
  far i j e l =
      cof (sum_scale j a (λ k. cube (i + k) * x (i + k)))
      ⨾ sum_cong 3 j _ _ (λ k m. cof (turn a (cube (i + k)) (x (i + k))) ⨾ cmul (weighs.far (i + k) (omega arith) (omega arith)) (crefl (cube (i + k))))
    where
      turn : (a u v : ℕ) → a * (u * v) ≡ a * v * u
      turn a u v = omega arith

  -- one entry that is there, or not
  pub near : (s : ℕ) → b < c → Cong 3 (s + cube c * w.same) (s + G c)
  near s l = cadd (crefl s) (cof (swap (cube c) w.same) ⨾ cmul (weighs.same l) (crefl (cube c)))
    where
      swap : (u v : ℕ) → u * v ≡ v * u
      swap u v = omega arith

  pub near_none : (s : ℕ) → b ≡ c → Cong 3 s (s + G c)
  near_none s e = csym (cadd (crefl s) (cmul (weighs.twice e) (crefl (cube c))) ⨾ cof (nought s (cube c)))
    where
      nought : (s y : ℕ) → s + 0 * y ≡ s
      nought s y = omega arith

  pub next : (s : ℕ) → suc c < n → Cong 3 (s + cube (suc c) * w.next) (s + G (suc c))
  next s l = cadd (crefl s) (cof (swap (cube (suc c)) w.next) ⨾ cmul (weighs.next l) (crefl (cube (suc c))))
    where
      swap : (u v : ℕ) → u * v ≡ v * u
      swap u v = omega arith

  -- all together: where there is a next
  pub whole_next : (Q S : ℕ) → suc c < n → S ≡ sum (n - (c + 2)) (λ k. cube (c + 2 + k) * x (c + 2 + k)) → Cong 3 ((Q + S) * w.whole + G c + G (suc c)) (a * Q + sum n G)
  whole_next Q S l e =
      let i : c + 2 + (n - (c + 2)) ≡ n = omega arith in
      let k : c + 2 ≡ suc (suc c) = omega arith in
      let T = sum (n - (c + 2)) (λ k. G (c + 2 + k)) in
      let parts : sum n G ≡ sum c G + G c + G (suc c) + T
      = ap (λ (y : ℕ). sum y G) (sym i) ∙ sum_parts (c + 2) (n - (c + 2)) G ∙ ap (λ (y : ℕ). y + T) (ap (λ (y : ℕ). sum y G) k ∙ sum_one_more (suc c) G ∙ ap (λ (y : ℕ). y + G (suc c)) (sum_one_more c G)) in
      cadd (cadd (cmul (crefl (Q + S)) weighs.whole ⨾ cof (split Q S a) ⨾ cadd (crefl (a * Q)) (cof (ap (λ (y : ℕ). a * y) e) ⨾ far (c + 2) (n - (c + 2)) i (omega arith))) (crefl (G c))) (crefl (G (suc c)))
      ⨾ cof (order (a * Q) T (G c) (G (suc c))) ⨾ cadd (crefl (a * Q)) (cadd (cadd (cadd (csym front) (crefl (G c))) (crefl (G (suc c)))) (crefl T) ⨾ cof (sym parts))
    where
      split : (Q S a : ℕ) → (Q + S) * a ≡ a * Q + a * S
      split Q S a = omega arith

      order : (q t u v : ℕ) → q + t + u + v ≡ q + (0 + u + v + t)
      order q t u v = omega arith

  -- and where there is none
  pub whole_last : (Q S : ℕ) → suc c ≡ n → S ≡ 0 → Cong 3 ((Q + S) * w.whole + G c) (a * Q + sum n G)
  whole_last Q S l e =
      let parts : sum n G ≡ sum c G + G c = ap (λ (y : ℕ). sum y G) (sym l) ∙ sum_one_more c G in
      cadd (cmul (cof (ap (λ (y : ℕ). Q + y) e ∙ add-zero Q)) weighs.whole ⨾ cof (swap Q a)) (crefl (G c))
      ⨾ cof (order (a * Q) (G c)) ⨾ cadd (crefl (a * Q)) (cadd (csym front) (crefl (G c)) ⨾ cof (sym parts))
    where
      swap : (u v : ℕ) → u * v ≡ v * u
      swap u v = omega arith

      order : (q u : ℕ) → q + u ≡ q + (0 + u)
      order q u = omega arith

-- ---- vectors: u has the listed part and the entry of b, c; near has that of c too, r that of c + 1 too
module _ (n m b c a : ℕ) (g x : ℕ → ℕ) (w : Weights) (weighs : Weighs n b c a g x w) (h : b ≤ c) (low : c < n) (Q S : ℕ → ℕ) (K : ℕ → ℕ → ℕ) where
  pub near_holds : {u v : Vector} → Holds m (λ e. (Q e + S e) * w.whole) u → (b < c → Holds m (λ e. (Q e + S e) * w.whole + K e c * w.same) v) → (b ≡ c → v ≡ u)
      → Holds m (λ e. (Q e + S e) * w.whole + g c * K e c) v
  near_holds hu some none =
      by_cases (ℕ_discrete b c)
      (λ (e : b ≡ c). rw (none e) (holds_ext (λ i l. (near_none n b c a g x w weighs low (K i) ((Q i + S i) * w.whole) e).same) hu))
      (λ e. let k : b < c = omega arith in holds_ext (λ i l. (near n b c a g x w weighs low (K i) ((Q i + S i) * w.whole) k).same) (some k))

  pub all_holds : {v r : Vector} → Holds m (λ e. (Q e + S e) * w.whole + g c * K e c) v
      → (suc c < n → Holds m (λ e. (Q e + S e) * w.whole + g c * K e c + K e (suc c) * w.next) r) → (suc c ≡ n → r ≡ v)
      → ((e : ℕ) → suc c < n → S e ≡ sum (n - (c + 2)) (λ k. K e (c + 2 + k) * x (c + 2 + k))) → ((e : ℕ) → suc c ≡ n → S e ≡ 0)
      → Holds m (λ e. a * Q e + sum n (λ d. g d * K e d)) r
  all_holds hv some none far last =
      by_cases (dec_lt (suc c) n)
      (λ l. holds_ext (λ i k. (next n b c a g x w weighs low (K i) _ l ⨾ whole_next n b c a g x w weighs low (K i) (Q i) (S i) l (far i l)).same) (some l))
      (λ l. let e : suc c ≡ n = omega arith in
      rw (none e) (holds_ext (λ i k. (whole_last n b c a g x w weighs low (K i) (Q i) (S i) e (last i e)).same) hv))

-- ---- before the first of them all digits are 0
pub none_skipped : (x : ℕ → ℕ) (at : List ℕ) (count low from : ℕ) (h : ℕ → ℕ) → Skips x at count low from → sum (get_or at from 0 - low) (λ d. h (low + d) * x (low + d)) ≡ 0
none_skipped x at count low from h s =
    sum_ext (get_or at from 0 - low) _ (λ d. h (low + d) * 0) (λ d l. ap (λ (y : ℕ). h (low + d) * y) (s.zero (low + d) (omega arith) (omega arith))) ∙ sum_zero (get_or at from 0 - low) (λ d. h (low + d))

-- ---- a whole row: far is what the listed part promises, from wherever its sum is said to begin
module _ (n m b c a : ℕ) (g x : ℕ → ℕ) (w : Weights) (weighs : Weighs n b c a g x w) (h : b ≤ c) (low : c < n)
    (at turn : List ℕ) (count from : ℕ) (lists : Lists n x at turn count) (skips : Skips x at count (c + 2) from) (Q : ℕ → ℕ) (K : ℕ → ℕ → ℕ) {far u v r : Vector}
    (row : (i : ℕ) → i ≤ get_or at from 0 → ((e : ℕ) → sum (get_or at from 0 - i) (λ d. K e (i + d) * x (i + d)) ≡ 0) → Holds m (λ e. Q e + sum (n - i) (λ d. K e (i + d) * x (i + d))) far)
    (scaled : Scaled far w.whole u) (near-some : (f : ℕ → ℕ) → Holds m f u → b < c → Holds m (λ e. f e + K e c * w.same) v) (near-no : b ≡ c → v ≡ u)
    (next-some : (f : ℕ → ℕ) → Holds m f v → suc c < n → Holds m (λ e. f e + K e (suc c) * w.next) r) (next-no : suc c ≡ n → r ≡ v) where
  from_start : (i : ℕ) → i ≤ get_or at from 0 → ((e : ℕ) → sum (get_or at from 0 - i) (λ d. K e (i + d) * x (i + d)) ≡ 0)
      → ((e : ℕ) → suc c < n → sum (n - i) (λ d. K e (i + d) * x (i + d)) ≡ sum (n - (c + 2)) (λ k. K e (c + 2 + k) * x (c + 2 + k))) → ((e : ℕ) → suc c ≡ n → sum (n - i) (λ d. K e (i + d) * x (i + d)) ≡ 0)
      → Holds m (λ e. a * Q e + sum n (λ d. g d * K e d)) r
  from_start i l none s t =
      let S : ℕ → ℕ = λ (e : ℕ). sum (n - i) (λ d. K e (i + d) * x (i + d)) in
      let hu : Holds m (λ e. (Q e + S e) * w.whole) u = holds_times scaled (row i l none) in
      let hv : Holds m (λ e. (Q e + S e) * w.whole + g c * K e c) v = near_holds n m b c a g x w weighs h low Q S K hu (near-some (λ e. (Q e + S e) * w.whole) hu) near-no in
      all_holds n m b c a g x w weighs h low Q S K hv (next-some (λ e. (Q e + S e) * w.whole + g c * K e c) hv) next-no s t

  pub weighed_law : Holds m (λ e. a * Q e + sum n (λ d. g d * K e d)) r
  weighed_law =
      by_cases (dec_lt (suc c) n)
      (λ l.
      let i : c + 2 ≤ get_or at from 0
      = by_cases (dec_lt from count) (λ j. skips.late from (omega arith) j) (λ j. let e : from ≡ count = omega (arith, skips.some) in let k : get_or at from 0 ≡ n = ap (λ (y : ℕ). get_or at y 0) e ∙ lists.last in omega arith) in
      from_start (c + 2) i (λ e. none_skipped x at count (c + 2) from (K e) skips) (λ e k. refl) (λ e k. absurd (omega arith)))
      (λ l.
      let o : from ≡ count
      = by_cases (dec_lt from count) (λ j. let k = skips.late from (omega arith) j in let z = listed_lt n x at turn count lists from j in absurd (omega arith)) (λ j. omega (arith, skips.some)) in
      let k : get_or at from 0 ≡ n = ap (λ (y : ℕ). get_or at y 0) o ∙ lists.last in
      let z : n - n ≡ 0 = omega arith in
      let zero-from : (e : ℕ) → sum (n - n) (λ d. K e (n + d) * x (n + d)) ≡ 0 = λ e. ap (λ (y : ℕ). sum y (λ d. K e (n + d) * x (n + d))) z ∙ sum_no (λ d. K e (n + d) * x (n + d)) in
      from_start n (omega arith) (λ e. ap (λ (y : ℕ). sum (y - n) (λ d. K e (n + d) * x (n + d))) k ∙ zero-from e) (λ e i. absurd (omega arith)) (λ e i. zero-from e))

-- A second slot as the code sums it: an entry after the other, each as often as places began with its unknowns. All of them together are what is held.
use mathlib.Core.Path.{◌≡◌, refl, sym, ap, ap₂, ◌∙◌}
use mathlib.Core.Logic.{by_cases}
use mathlib.Core.List.{List, [], ◌∷◌}
use Prim.Native.Nat.{ℕ, zero, suc, ◌+◌, ◌-◌, ◌*◌, ◌/◌, ◌%◌, ◌^◌, ◌≤◌, ◌<◌}
use native.Mathlib.Nat.{add-zero, pow-suc, pow-le-pow_right, div-div-eq-div-mul}
use native.Mathlib.Numerals.{add-one}
use native.Mathlib.Decide.{ℕ_discrete, dec_lt}
use native.Mathlib.Omega.{arith}
use Rattle.residues.specs.Sums.{sum}
use Rattle.residues.proofs.ModLaw.{Cong, crefl, cof, csym, ◌⨾◌, cadd, cmul}
use Rattle.residues.proofs.SumLaw.{sum_ext, sum_zero, sum_cong}
use Rattle.trits.specs.declared.Vector.{Vector}
use Rattle.trits.specs.Trit.{Holds}
use Rattle.trits.specs.Words.{Added, Scaled}
use Rattle.trits.proofs.HoldLaw.{holds_ext, holds_add, holds_times}
use Rattle.tables.specs.Monomials.{index_of}
use Rattle.tables.specs.Words.{entry}
use Rattle.held.specs.Held as held
use Rattle.held.specs.Visits.{visits}
use Rattle.held.proofs.CountLaw.{held_counts}
use Rattle.held.proofs.VisitLaw.{visits_fall, visits_thrice, visits_far, visits_near}
use Rattle.cubics.specs.Cubic.{Cubic, cubic_of}
use Rattle.cubics.specs.Whole.{back_cubic}
use Rattle.cubics.proofs.CubicLaw.{ext_cubic, flat_cubic}
use Rattle.cubics.proofs.OneSystemLaw.{table_quad, table_two, table_all}
use Rattle.cubic_tables.specs.Order.{cubic_count, triple_index, key_of, pair_of}
use Rattle.cubic_tables.specs.Words.{CubicTable, cubic_at}
use Rattle.cubic_tables.proofs.OrderLaw.{triple_lt}
use Rattle.cubic_tables.proofs.PairLaw.{triple_key}
use Rattle.cubic_tables.proofs.HoldsLaw.{quad_holds, cube_holds}
use Rattle.seconds.specs.Parts.{counted_to}

-- ---- where the products of b, c stand
pub base_at : (n b c d base : ℕ) → b ≤ c → c ≤ d → b < d → d < n → base ≡ key_of n b + (pair_of n c c - c) → base + d ≡ triple_index n b c d
unfolding pair_of
base_at n b c d base h l m o e = rw e (join (key_of n b) (c * n - c * (c + 1) / 2) c d) ∙ triple_key n b c d h l m o
  where
    join : (k x c d : ℕ) → k + (x + c - c) + d ≡ k + (x + d)
    join k x c d = omega arith

pub pair_low : (n c : ℕ) → c ≤ pair_of n c c
unfolding pair_of
pair_low n c = omega arith

pub base_room : (n b c d base len : ℕ) → b ≤ c → c ≤ d → b < d → d < n → base ≡ key_of n b + (pair_of n c c - c) → len ≡ 2 * cubic_count n → 2 * (base + d) + 1 < len
base_room n b c d base len h l m o e f = omega (arith, base_at n b c d base h l m o e, triple_lt n b c d h l m o)

-- ---- one entry after the other
module _ (b c q : ℕ) where
  -- no place begins with unknowns that fall, or with one three times
  pub counted_none : (f : Cubic) → b ≤ c → counted_to f b c q c ≡ f.quad b c
  unfolding counted_to
  counted_none f h =
      ap (λ (x : ℕ). f.quad b c + x)
      (sum_ext c _ (λ k. f.cube b c k * 0) (λ k l. ap (λ (x : ℕ). x * f.cube b c k) (visits_fall 3 (omega arith) b c k q l) ∙ turn (f.cube b c k)) ∙ sum_zero c (f.cube b c)) ∙ add-zero _
    where
      turn : (x : ℕ) → 0 * x ≡ x * 0
      turn x = omega arith

  pub counted_next : (f : Cubic) (d : ℕ) → counted_to f b c q (d + 1) ≡ counted_to f b c q d + f.cube b c d * visits 3 (b ∷ c ∷ d ∷ []) q
  unfolding counted_to sum
  counted_next f d = ap (λ (k : ℕ). f.quad b c + sum k (λ k. visits 3 (b ∷ c ∷ k ∷ []) q * f.cube b c k)) (add-one d) ∙ more (f.quad b c) _ (visits 3 (b ∷ c ∷ d ∷ []) q) (f.cube b c d)
    where
      more : (a s v x : ℕ) → a + (s + v * x) ≡ a + s + x * v
      more a s v x = omega arith

  pub counted_same : (f : Cubic) → b ≡ c → counted_to f b c q (c + 1) ≡ f.quad b c
  counted_same f e =
      counted_next f c ∙ ap₂ (λ (x v : ℕ). x + f.cube b c c * v) (counted_none f (omega arith)) (ap (λ (k : ℕ). visits 3 (b ∷ k ∷ k ∷ []) q) (sym e) ∙ visits_thrice b q) ∙ none (f.quad b c) (f.cube b c c)
    where
      none : (a x : ℕ) → a + x * 0 ≡ a
      none a x = omega arith

-- ---- vectors
module _ (n m : ℕ) (t : List ℕ) (table : CubicTable n m t) (b c q : ℕ) (h : b ≤ c) (l : c < n) where
  pub seed_same : {v : Vector} → b ≡ c → v ≡ entry t (index_of n b c) → Holds m (λ e. counted_to (cubic_at n t e) b c q (c + 1)) v
  seed_same {v} i e =
      let w : Holds m (λ e. (cubic_at n t e).quad b c) v = rw e (quad_holds n m t table b c h l) in
      holds_ext (λ e k. ap (λ (x : ℕ). x % 3) (sym (counted_same b c q (cubic_at n t e) i))) w

  pub seed_near : {v u w r : Vector} (k y : ℕ) → (b ≡ c → ⊥) → v ≡ entry t (index_of n b c) → k ≡ triple_index n b c c → u ≡ entry t k → y ≡ (q - (3 ^ b + 3 ^ c)) / 3 ^ c → Scaled u ((y + 2) / 3) w
      → Added v w r → Holds m (λ e. counted_to (cubic_at n t e) b c q (c + 1)) r
  seed_near {v} {u} {w} {r} k y i e g f p s a =
      let hv : Holds m (λ e. (cubic_at n t e).quad b c) v = rw e (quad_holds n m t table b c h l) in
      let hu : Holds m (λ e. (cubic_at n t e).cube b c c) u = rw (f, g) (cube_holds n m t table b c c h (omega arith) (omega arith) l) in
      let z : (y + 2) / 3 ≡ visits 3 (b ∷ c ∷ c ∷ []) q = ap (λ (x : ℕ). (x + 2) / 3) p ∙ sym (visits_near b c q (omega arith)) in
      holds_ext (λ e o. ap (λ (x : ℕ). x % 3) (ap₂ (λ (x y : ℕ). x + (cubic_at n t e).cube b c c * y) (sym (counted_none b c q (cubic_at n t e) h)) z ∙ sym (counted_next b c q (cubic_at n t e) c))) (holds_add a hv (holds_times s hu))

  pub counted_more : {v u w r : Vector} (d k y z : ℕ) → c < d → d < n → k ≡ triple_index n b c d → u ≡ entry t k → y ≡ (q - (3 ^ b + 3 ^ c)) / 3 ^ d → z ≡ y / 3 → Scaled u (y - z) w
      → Added v w r → Holds m (λ e. counted_to (cubic_at n t e) b c q d) v → Holds m (λ e. counted_to (cubic_at n t e) b c q (d + 1)) r
  counted_more {v} {u} {w} {r} d k y z i j g f p o s a hv =
      let hu : Holds m (λ e. (cubic_at n t e).cube b c d) u = rw (f, g) (cube_holds n m t table b c d h (omega arith) (omega arith) j) in
      let e : y - z ≡ visits 3 (b ∷ c ∷ d ∷ []) q = ap₂ (λ (x y : ℕ). x - y) p (o ∙ ap (λ (x : ℕ). x / 3) p) ∙ sym (visits_far b c d q h i) in
      holds_ext (λ x o. ap (λ (x : ℕ). x % 3) (ap (λ (y : ℕ). counted_to (cubic_at n t x) b c q d + (cubic_at n t x).cube b c d * y) e ∙ sym (counted_next b c q (cubic_at n t x) d))) (holds_add a hv (holds_times s hu))

  -- all of them
  counted_held : (f : Cubic) → q < 3 ^ n → Cong 3 (counted_to f b c q n) (held.held 3 (held.along 3 (cubic_of (back_cubic n f) n)) (b ∷ c ∷ []) q)
  unfolding counted_to
  counted_held f small =
      csym (held_counts 3 (omega arith) n (cubic_of (back_cubic n f) n) (ext_cubic 3 (omega arith) (back_cubic n f) n) 3 (flat_cubic 3 (omega arith) (back_cubic n f) n) (b ∷ c ∷ []) refl q small
      ⨾ cadd (table_quad n f b c h l) (sum_cong 3 n _ _ (λ d j. one d j)))
    where
      one : (d : ℕ) → d < n → Cong 3 (visits 3 (b ∷ c ∷ d ∷ []) q * held.entry 3 (held.along 3 (cubic_of (back_cubic n f) n)) (b ∷ c ∷ d ∷ [])) (visits 3 (b ∷ c ∷ d ∷ []) q * f.cube b c d)
      one d j =
          by_cases (dec_lt d c)
          (λ i. cof (ap₂ (λ (x y : ℕ). x * y) (visits_fall 3 (omega arith) b c d q i) refl ∙ none _ _ ∙ ap (λ (x : ℕ). x * f.cube b c d) (sym (visits_fall 3 (omega arith) b c d q i))))
          (λ i. by_cases (ℕ_discrete b c)
          (λ (e : b ≡ c). by_cases (ℕ_discrete c d)
          (λ (g : c ≡ d). let z : visits 3 (b ∷ c ∷ d ∷ []) q ≡ 0 = ap₂ (λ (x y : ℕ). visits 3 (b ∷ x ∷ y ∷ []) q) (sym e) (sym (e ∙ g)) ∙ visits_thrice b q in
          cof (ap (λ (x : ℕ). x * held.entry 3 (held.along 3 (cubic_of (back_cubic n f) n)) (b ∷ c ∷ d ∷ [])) z ∙ none _ _ ∙ ap (λ (x : ℕ). x * f.cube b c d) (sym z)))
          (λ g. cmul (crefl _) (rw (← e) (table_two n f b d (omega arith) j))))
          (λ e. cmul (crefl _) (table_all n f b c d (omega arith) (omega arith) j)))
        where
          none : (x y : ℕ) → 0 * x ≡ 0 * y
          none x y = omega arith

  pub counted_whole : {v : Vector} → q < 3 ^ n → Holds m (λ e. counted_to (cubic_at n t e) b c q n) v → Holds m (λ e. held.held 3 (held.along 3 (cubic_of (back_cubic n (cubic_at n t e)) n)) (b ∷ c ∷ []) q) v
  counted_whole small w = holds_ext (λ e k. (counted_held (cubic_at n t e) small).same) w

-- ---- the numbers of the loop
pub part_next : (r d : ℕ) → r / 3 ^ d / 3 ≡ r / 3 ^ (d + 1)
part_next r d = div-div-eq-div-mul r (3 ^ d) 3 ∙ ap (λ (x : ℕ). r / x) (sym (pow-suc 3 d) ∙ ap (λ (k : ℕ). 3 ^ k) (sym (add-one d)))

pub power_next : (c : ℕ) → 3 ^ c * 3 ≡ 3 ^ (c + 1)
power_next c = sym (pow-suc 3 c) ∙ ap (λ (k : ℕ). 3 ^ k) (sym (add-one c))

pub power_small : (c : ℕ) → c ≤ 20 → 3 ^ c ≤ 3 ^ 20
power_small c h = pow-le-pow_right {n = 3} (omega arith) {i = c} {j = 20} h

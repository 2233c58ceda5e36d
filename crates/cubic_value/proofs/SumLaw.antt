-- The value as the code sums it: the rows of each unknown, the unknowns. All together are what the walk has come to.
use mathlib.Core.Path.{◌≡◌, refl, sym, ap, ap₂, ◌∙◌}
use mathlib.Core.Logic.{by_cases}
use mathlib.Core.List.{List, [], ◌∷◌}
use Prim.Native.Nat.{ℕ, zero, suc, ◌+◌, ◌-◌, ◌*◌, ◌/◌, ◌%◌, ◌^◌, ◌≤◌, ◌<◌}
use native.Mathlib.Nat.{add-zero}
use native.Mathlib.Numerals.{add-one}
use native.Mathlib.Decide.{ℕ_discrete, dec_lt}
use native.Mathlib.Omega.{arith}
use Rattle.residues.specs.Sums.{sum}
use Rattle.residues.proofs.ModLaw.{Cong, crefl, cof, csym, ◌⨾◌, cadd, cmul}
use Rattle.residues.proofs.SumLaw.{sum_zero, sum_cong, sum_scale}
use Rattle.trits.specs.declared.Vector.{Vector}
use Rattle.trits.specs.Trit.{Holds, of_trits}
use Rattle.trits.specs.Words.{Added, Scaled}
use Rattle.trits.proofs.HoldLaw.{holds_is, holds_ext, holds_add, holds_times}
use Rattle.gray.specs.Numbers.{point_digit}
use Rattle.tables.specs.Words.{entry}
use Rattle.held.specs.Held as held
use Rattle.held.specs.Visits.{gathered, visits}
use Rattle.held.proofs.CountLaw.{held_counts_three}
use Rattle.held.proofs.StandLaw.{held_value}
use Rattle.cubics.specs.Cubic.{Cubic, cubic_of}
use Rattle.cubics.specs.Whole.{back_cubic}
use Rattle.cubics.proofs.CubicLaw.{ext_cubic, flat_cubic}
use Rattle.cubics.proofs.OneSystemLaw.{table_const, table_lin, table_quad, table_two, table_all}
use Rattle.cubic_tables.specs.Words.{CubicTable, cubic_at}
use Rattle.cubic_tables.proofs.HoldsLaw.{const_holds, lin_holds}
use Rattle.weights.proofs.RowLaw.{sum_parts}
use Rattle.cubic_value.specs.Parts.{pair_to, later_to, part_to, value_to}
use Rattle.shares.proofs.ShareLaw.{none_pair, none_triple, none_first, none_cube, once_is, later_pair, later_triple}

pub pair_is : (f : Cubic) (n b c q : ℕ)
    → pair_to f n b c q ≡ gathered 3 (b ∷ []) (visits 3 (b ∷ c ∷ [])) q * f.quad b c + sum n (λ d. gathered 3 (b ∷ []) (gathered 3 (b ∷ c ∷ []) (visits 3 (b ∷ c ∷ d ∷ []))) q * f.cube b c d)
unfolding pair_to
pair_is f n b c q = refl

pub later_is : (f : Cubic) (n b c q : ℕ) → later_to f n b c q ≡ visits 3 (c ∷ []) q * f.quad b c + sum n (λ d. gathered 3 (c ∷ []) (visits 3 (c ∷ d ∷ [])) q * f.cube b c d)
unfolding later_to
later_is f n b c q = refl

zero_left : (y : ℕ) → 0 * y ≡ 0
zero_left y = omega arith

-- a row of which all weights are none
rows_none : (n : ℕ) (g h : ℕ → ℕ) → ((d : ℕ) → Cong 3 (g d) 0) → Cong 3 (sum n (λ d. g d * h d)) 0
rows_none n g h e = sum_cong 3 n _ (λ d. h d * 0) (λ d l. cmul (e d) (crefl (h d)) ⨾ cof (turn (h d))) ⨾ cof (sum_zero n h)
  where
    turn : (y : ℕ) → 0 * y ≡ y * 0
    turn y = omega arith

pair_none : (f : Cubic) (n b c q : ℕ) → c < b → Cong 3 (pair_to f n b c q) 0
unfolding pair_to
pair_none f n b c q l =
    cadd (cmul (none_pair b c q l) (crefl (f.quad b c)) ⨾ cof (zero_left (f.quad b c))) (rows_none n (λ d. gathered 3 (b ∷ []) (gathered 3 (b ∷ c ∷ []) (visits 3 (b ∷ c ∷ d ∷ []))) q) (f.cube b c) (λ d. none_first b c d q l))

-- a later row, as often as b moved
pub pair_later : (f : Cubic) (n b c q : ℕ) → suc b < c → Cong 3 (visits 3 (b ∷ []) q * later_to f n b c q) (pair_to f n b c q)
unfolding pair_to later_to
pair_later f n b c q l =
    let a = visits 3 (b ∷ []) q in
    cof (spread a (visits 3 (c ∷ []) q) (f.quad b c) (sum n (λ d. gathered 3 (c ∷ []) (visits 3 (c ∷ d ∷ [])) q * f.cube b c d)))
    ⨾ cadd (cmul (csym (later_pair b c q l)) (crefl (f.quad b c)))
    (cof (sum_scale n a (λ d. gathered 3 (c ∷ []) (visits 3 (c ∷ d ∷ [])) q * f.cube b c d))
    ⨾ sum_cong 3 n _ _ (λ d k. cof (left a (gathered 3 (c ∷ []) (visits 3 (c ∷ d ∷ [])) q) (f.cube b c d)) ⨾ cmul (csym (later_triple b c d q l)) (crefl (f.cube b c d))))
  where
    spread : (a u x s : ℕ) → a * (u * x + s) ≡ a * u * x + a * s
    spread a u x s = omega arith

    left : (a u x : ℕ) → a * (u * x) ≡ a * u * x
    left a u x = omega arith

-- ---- the parts of an unknown
sum_first : (n : ℕ) (H : ℕ → ℕ) → 0 < n → sum n H ≡ H 0 + sum (n - 1) (λ k. H (1 + k))
unfolding sum
sum_first n H l = let e : 1 + (n - 1) ≡ n = omega arith in ap (λ (k : ℕ). sum k H) (sym e) ∙ sum_parts 1 (n - 1) H ∙ ap (λ (y : ℕ). y + sum (n - 1) (λ k. H (1 + k))) (none (H 0))
  where
    none : (y : ℕ) → 0 + y ≡ y
    none y = omega arith

part_split : (f : Cubic) (n b q : ℕ) → b < n → Cong 3 (part_to f n b q) (visits 3 (b ∷ []) q * f.lin b + (pair_to f n b b q + sum (n - (b + 1)) (λ k. pair_to f n b (b + 1 + k) q)))
unfolding part_to sum
part_split f n b q l =
    let e : b + 1 + (n - (b + 1)) ≡ n = omega arith in
    let H : ℕ → ℕ = λ (c : ℕ). pair_to f n b c q in
    cadd (crefl (visits 3 (b ∷ []) q * f.lin b))
    (cof (ap (λ (k : ℕ). sum k H) (sym e) ∙ sum_parts (b + 1) (n - (b + 1)) H)
    ⨾ cadd (cof (ap (λ (k : ℕ). sum k H) (add-one b)) ⨾ cadd (sum_cong 3 b H (λ c. c * 0) (λ c k. pair_none f n b c q k ⨾ cof (nought c)) ⨾ cof (sum_zero b (λ c. c))) (crefl (H b))) (crefl _)
    ⨾ cof (none (H b) (sum (n - (b + 1)) (λ k. H (b + 1 + k)))))
  where
    nought : (y : ℕ) → 0 ≡ y * 0
    nought y = omega arith

    none : (x y : ℕ) → 0 + x + y ≡ x + y
    none x y = omega arith

-- the last unknown has its own row only
pub part_last : (n m : ℕ) (t : List ℕ) (b q u : ℕ) {v s w r : Vector} → CubicTable n m t → b < n → b + 1 ≡ n → v ≡ entry t (1 + b) → Cong 3 u (q / 3 ^ b + 2 * (q / 3 ^ b / 3)) → Scaled v u s
    → Added s w r → Holds m (λ e. pair_to (cubic_at n t e) n b b q) w → Holds m (λ e. part_to (cubic_at n t e) n b q) r
unfolding sum
part_last n m t b q u {v} tb l e i c s a hw =
    let hv : Holds m (λ e. (cubic_at n t e).lin b) v = rw i (lin_holds n m t tb b l) in
    let z : n - (b + 1) ≡ 0 = omega arith in
    holds_ext (λ k o. (cadd (cof (swap ((cubic_at n t k).lin b) u) ⨾ cmul (c ⨾ csym (once_is b q)) (crefl ((cubic_at n t k).lin b))) (cof (sym (add-zero _)))
    ⨾ cof (ap (λ (j : ℕ). visits 3 (b ∷ []) q * (cubic_at n t k).lin b + (pair_to (cubic_at n t k) n b b q + sum j (λ c. pair_to (cubic_at n t k) n b (b + 1 + c) q))) (sym z))
    ⨾ csym (part_split (cubic_at n t k) n b q l)).same) (holds_add a (holds_times s hv) hw)
  where
    swap : (x y : ℕ) → x * y ≡ y * x
    swap x y = omega arith

pub part_whole : (n m : ℕ) (t : List ℕ) (b q : ℕ) {v w r : Vector} → b < n → Added v w r
    → Holds m (λ e. visits 3 (b ∷ []) q * (cubic_at n t e).lin b + sum (n - (b + 1)) (λ k. pair_to (cubic_at n t e) n b (b + 1 + k) q)) v
    → Holds m (λ e. pair_to (cubic_at n t e) n b b q) w → Holds m (λ e. part_to (cubic_at n t e) n b q) r
part_whole n m t b q l a hv hw =
    holds_ext (λ k o. (cof (order (visits 3 (b ∷ []) q * (cubic_at n t k).lin b) (sum (n - (b + 1)) (λ c. pair_to (cubic_at n t k) n b (b + 1 + c) q)) (pair_to (cubic_at n t k) n b b q)) ⨾ csym (part_split (cubic_at n t k) n b q l)).same) (holds_add a hv hw)
  where
    order : (x y z : ℕ) → x + y + z ≡ x + (z + y)
    order x y z = omega arith

-- the next row, and the later ones as often as b moved
pub others_whole : (n m : ℕ) (t : List ℕ) (b q u : ℕ) {v s w r : Vector} → b + 1 < n → Cong 3 u (q / 3 ^ b + 2 * (q / 3 ^ b / 3)) → Scaled v u s → Added s w r
    → Holds m (λ e. (cubic_at n t e).lin b + sum (n - (b + 2)) (λ k. later_to (cubic_at n t e) n b (b + 2 + k) q)) v → Holds m (λ e. pair_to (cubic_at n t e) n b (suc b) q) w
    → Holds m (λ e. visits 3 (b ∷ []) q * (cubic_at n t e).lin b + sum (n - (b + 1)) (λ k. pair_to (cubic_at n t e) n b (b + 1 + k) q)) r
others_whole n m t b q u l c s a hv hw = holds_ext (λ k o. (go (cubic_at n t k)).same) (holds_add a (holds_times s hv) hw)
  where
    swap : (x y z a : ℕ) → (x + y) * z ≡ z * x + z * y
    swap x y z a = omega arith

    order : (x y z : ℕ) → x + y + z ≡ x + (z + y)
    order x y z = omega arith

    place : (b k : ℕ) → b + 2 + k ≡ b + 1 + (1 + k)
    place b k = omega arith

    go : (f : Cubic) → Cong 3 ((f.lin b + sum (n - (b + 2)) (λ k. later_to f n b (b + 2 + k) q)) * u + pair_to f n b (suc b) q) (visits 3 (b ∷ []) q * f.lin b + sum (n - (b + 1)) (λ k. pair_to f n b (b + 1 + k) q))
    go f =
        let w = visits 3 (b ∷ []) q in
        let j : n - (b + 1) - 1 ≡ n - (b + 2) = omega arith in
        let z : b + 1 + 0 ≡ suc b = omega arith in
        let some : 0 < n - (b + 1) = omega arith in
        let far : Cong 3 (w * sum (n - (b + 2)) (λ k. later_to f n b (b + 2 + k) q)) (sum (n - (b + 1) - 1) (λ k. pair_to f n b (b + 1 + (1 + k)) q))
        = cof (sum_scale (n - (b + 2)) w (λ k. later_to f n b (b + 2 + k) q))
        ⨾ sum_cong 3 (n - (b + 2)) _ (λ k. pair_to f n b (b + 1 + (1 + k)) q) (λ k h. pair_later f n b (b + 2 + k) q (omega arith) ⨾ cof (ap (λ (y : ℕ). pair_to f n b y q) (place b k)))
        ⨾ cof (ap (λ (y : ℕ). sum y (λ k. pair_to f n b (b + 1 + (1 + k)) q)) (sym j)) in
        cadd (cmul (crefl _) (c ⨾ csym (once_is b q)) ⨾ cof (swap (f.lin b) _ w 0) ⨾ cadd (crefl (w * f.lin b)) far) (cof (ap (λ (y : ℕ). pair_to f n b y q) (sym z)))
        ⨾ cof (order (w * f.lin b) _ (pair_to f n b (b + 1 + 0) q) ∙ ap (λ (y : ℕ). w * f.lin b + y) (sym (sum_first (n - (b + 1)) (λ k. pair_to f n b (b + 1 + k) q) some)))

-- ---- later rows, one after the other
pub later_first : (n m : ℕ) (t : List ℕ) (b c q : ℕ) {v : Vector} → CubicTable n m t → b < n → c ≡ b + 2 → v ≡ entry t (1 + b)
    → Holds m (λ e. (cubic_at n t e).lin b + sum (c - (b + 2)) (λ k. later_to (cubic_at n t e) n b (b + 2 + k) q)) v
unfolding sum
later_first n m t b c q tb l e i =
    let z : c - (b + 2) ≡ 0 = omega arith in
    rw i (holds_ext (λ k o. ap (λ (y : ℕ). y % 3) (sym (ap (λ (j : ℕ). (cubic_at n t k).lin b + sum j (λ k'. later_to (cubic_at n t k) n b (b + 2 + k') q)) z ∙ add-zero _))) (lin_holds n m t tb b l))

pub later_more : (n m : ℕ) (t : List ℕ) (b c q : ℕ) {v u r : Vector} → b + 2 ≤ c → Added v u r
    → Holds m (λ e. (cubic_at n t e).lin b + sum (c - (b + 2)) (λ k. later_to (cubic_at n t e) n b (b + 2 + k) q)) v
    → Holds m (λ e. visits 3 (c ∷ []) q * (cubic_at n t e).quad b c + sum n (λ d. gathered 3 (c ∷ []) (visits 3 (c ∷ d ∷ [])) q * (cubic_at n t e).cube b c d)) u
    → Holds m (λ e. (cubic_at n t e).lin b + sum (c + 1 - (b + 2)) (λ k. later_to (cubic_at n t e) n b (b + 2 + k) q)) r
unfolding sum
later_more n m t b c q l a hv hu =
    let j : c + 1 - (b + 2) ≡ suc (c - (b + 2)) = omega arith in
    let i : b + 2 + (c - (b + 2)) ≡ c = omega arith in
    holds_ext (λ k o. ap (λ (y : ℕ). y % 3)
    (ap (λ (y : ℕ). (cubic_at n t k).lin b + sum (c - (b + 2)) (λ d. later_to (cubic_at n t k) n b (b + 2 + d) q) + y) (sym (later_is (cubic_at n t k) n b c q) ∙ ap (λ (y : ℕ). later_to (cubic_at n t k) n b y q) (sym i))
    ∙ right ((cubic_at n t k).lin b) _ _ ∙ ap (λ (y : ℕ). (cubic_at n t k).lin b + sum y (λ d. later_to (cubic_at n t k) n b (b + 2 + d) q)) (sym j))) (holds_add a hv hu)
  where
    right : (a b c : ℕ) → a + b + c ≡ a + (b + c)
    right a b c = omega arith

-- ---- unknowns, one after the other
pub value_first : (n m : ℕ) (t : List ℕ) (q : ℕ) {v : Vector} → CubicTable n m t → v ≡ entry t 0 → Holds m (λ e. value_to (cubic_at n t e) n q 0) v
unfolding value_to sum
value_first n m t q tb i = rw i (holds_ext (λ k o. ap (λ (y : ℕ). y % 3) (sym (add-zero (cubic_at n t k).const))) (const_holds n m t tb))

pub value_more : (n m : ℕ) (t : List ℕ) (q b : ℕ) {v u r : Vector} → Added v u r → Holds m (λ e. value_to (cubic_at n t e) n q b) v → Holds m (λ e. part_to (cubic_at n t e) n b q) u
    → Holds m (λ e. value_to (cubic_at n t e) n q (b + 1)) r
unfolding value_to sum
value_more n m t q b a hv hu =
    holds_ext (λ k o. ap (λ (y : ℕ). y % 3) (right (cubic_at n t k).const _ _ ∙ ap (λ (j : ℕ). (cubic_at n t k).const + sum j (λ c. part_to (cubic_at n t k) n c q)) (sym (add-one b)))) (holds_add a hv hu)
  where
    right : (a b c : ℕ) → a + b + c ≡ a + (b + c)
    right a b c = omega arith

-- ---- all of them
module _ (n q : ℕ) (small : q < 3 ^ n) (f : Cubic) where
  E : List ℕ → ℕ
  E L = held.entry 3 (held.along 3 (cubic_of (back_cubic n f) n)) L

  both : {u : ℕ} (x y : ℕ) → Cong 3 u 0 → Cong 3 (u * x) (u * y)
  both x y z = cmul z (crefl x) ⨾ cof (zero_left x ∙ sym (zero_left y)) ⨾ csym (cmul z (crefl y))

  -- one entry
  triple_like : (b c d : ℕ) → d < n
      → Cong 3 (gathered 3 (b ∷ []) (gathered 3 (b ∷ c ∷ []) (visits 3 (b ∷ c ∷ d ∷ []))) q * E (b ∷ c ∷ d ∷ [])) (gathered 3 (b ∷ []) (gathered 3 (b ∷ c ∷ []) (visits 3 (b ∷ c ∷ d ∷ []))) q * f.cube b c d)
  unfolding E
  triple_like b c d j =
      by_cases (dec_lt d c)
      (λ i. both _ _ (none_triple b c d q i))
      (λ i. by_cases (dec_lt c b)
      (λ h. both _ _ (none_first b c d q h))
      (λ h. by_cases (ℕ_discrete b c)
      (λ (e : b ≡ c). by_cases (ℕ_discrete c d)
      (λ (g : c ≡ d). both _ _ (cof (ap₂ (λ (x y : ℕ). gathered 3 (b ∷ []) (gathered 3 (b ∷ x ∷ []) (visits 3 (b ∷ x ∷ y ∷ []))) q) (sym e) (sym (e ∙ g))) ⨾ none_cube b q))
      (λ g. cmul (crefl _) (rw (← e) (table_two n f b d (omega arith) j))))
      (λ e. cmul (crefl _) (table_all n f b c d (omega arith) (omega arith) j))))

  pair_like : (b c : ℕ) → c < n → Cong 3 (gathered 3 (b ∷ []) (visits 3 (b ∷ c ∷ [])) q * E (b ∷ c ∷ [])) (gathered 3 (b ∷ []) (visits 3 (b ∷ c ∷ [])) q * f.quad b c)
  unfolding E
  pair_like b c m = by_cases (dec_lt c b) (λ i. both _ _ (none_pair b c q i)) (λ i. cmul (crefl _) (table_quad n f b c (omega arith) m))

  value_held : Cong 3 (value_to f n q n) (cubic_of (back_cubic n f) n (point_digit 3 q))
  unfolding value_to part_to pair_to E
  value_held =
      csym (cof (sym (held_value 3 (omega arith) (held.along 3 (cubic_of (back_cubic n f) n)) q))
      ⨾ held_counts_three 3 (omega arith) n (cubic_of (back_cubic n f) n) (ext_cubic 3 (omega arith) (back_cubic n f) n) 3 (flat_cubic 3 (omega arith) (back_cubic n f) n) [] refl q small
      ⨾ cadd (table_const n f) (sum_cong 3 n _ _ (λ b l. cadd (cmul (crefl _) (table_lin n f b l)) (sum_cong 3 n _ _ (λ c m. cadd (pair_like b c m) (sum_cong 3 n _ _ (λ d k. triple_like b c d k)))))))

pub value_whole : (n m : ℕ) (t : List ℕ) (q : ℕ) {v : Vector} → q < 3 ^ n → Holds m (λ e. value_to (cubic_at n t e) n q n) v → v ≡ of_trits m (λ e. cubic_of (back_cubic n (cubic_at n t e)) n (point_digit 3 q))
value_whole n m t q small w = holds_is (holds_ext (λ e k. (value_held n q small (cubic_at n t e)).same) w)

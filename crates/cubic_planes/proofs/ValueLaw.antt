-- The value of a cubic as the code sums it: the products of each pair, the pairs of each unknown, the unknowns.
use mathlib.Core.Path.{◌≡◌, sym, ap, ap₂, ◌∙◌}
use mathlib.Core.List.{List}
use Prim.Native.Nat.{ℕ, suc, ◌+◌, ◌-◌, ◌*◌, ◌%◌, ◌^◌, ◌≤◌, ◌<◌}
use native.Mathlib.Numerals.{add-one}
use native.Mathlib.Omega.{arith}
use lib.ListN.{get_or}
use Rattle.residues.specs.Sums.{sum}
use Rattle.residues.proofs.ModLaw.{cdrop}
use Rattle.residues.proofs.SumLaw.{sum_ext, sum_add, sum_scale}
use Rattle.trits.specs.declared.Vector.{Vector}
use Rattle.trits.specs.Trit.{Holds, of_trits}
use Rattle.trits.proofs.ExtLaw.{of_ext}
use Rattle.trits.proofs.HoldLaw.{holds_is, holds_ext}
use Rattle.gray.specs.Numbers.{digit}
use Rattle.tables.specs.Monomials.{row_start, index_of}
use Rattle.tables.specs.Words.{entry}
use Rattle.tables.proofs.IndexLaw.{row_ge}
use Rattle.evaluation.specs.Parts.{row_of}
use Rattle.evaluation.proofs.EvaluateLaw.{rows_part, rows_whole}
use Rattle.cubics.specs.Cubic.{Cubic, low_of, cubes_of, cubic_of}
use Rattle.cubics.proofs.CubicLaw.{ext_cubic, cubic_below}
use Rattle.listed.specs.Lists.{Lists, Rising}
use Rattle.listed.proofs.ListLaw.{sum_listed, sum_from_none, none_begun, pair_order}
use Rattle.cubic_tables.specs.Order.{cubic_count, triple_index, key_of}
use Rattle.cubic_tables.specs.Words.{CubicTable, cubic_at, cubic_values}
use Rattle.cubic_tables.proofs.OrderLaw.{pair_is, index_base, triple_lt}
use Rattle.cubic_tables.proofs.WordsLaw.{cube_none}
use Rattle.cubic_tables.proofs.HoldsLaw.{cube_holds}
use Rattle.cubic_planes.specs.Parts.{cell_sum, plane_sum}

-- ---- where the products of the pair i, j stand: b is the number that the code works out, from p, the number of j, j among the pairs
pub base_at : (n i j k b p : ℕ) → i ≤ j → j ≤ k → i < k → k < n → p ≡ row_start n j → b ≡ key_of n i + (p - j) → b + k ≡ triple_index n i j k
base_at n i j k b p h l m o e f =
    let r = row_ge n j (omega arith) in
    let s : key_of n i + (p - j) + k ≡ key_of n i + (row_start n j + (k - j)) = omega arith in
    ap (λ (y : ℕ). y + k) f ∙ s ∙ sym (index_base n i j k h l m o)

pub pair_number : (n j r : ℕ) → r ≡ index_of n j j → r - n - 1 ≡ row_start n j
pair_number n j r e = omega (arith, pair_is n j j)

-- ---- nothing is summed before the first unknown of a cell: of i, i, i there is none
pub square_begun : (n : ℕ) (x : ℕ → ℕ) (at turn : List ℕ) (c : ℕ) → Lists n x at turn c → (t : ℕ) → t < c → (f : Cubic) → f.cube (get_or at t 0) (get_or at t 0) (get_or at t 0) ≡ 0
    → sum (get_or at (t + 1) 0 - get_or at t 0) (λ d. f.cube (get_or at t 0) (get_or at t 0) (get_or at t 0 + d) * x (get_or at t 0 + d)) ≡ 0
square_begun n x at turn c g t l f z =
    let i = get_or at t 0 in
    let H : ℕ → ℕ = λ (d : ℕ). f.cube i i (i + d) * x (i + d) in
    let s = sum_listed n x at turn c g t l i (omega arith) H (λ d e. ap (λ (y : ℕ). f.cube i i (i + d) * y) e ∙ nought (f.cube i i (i + d))) in
    let k : i + (i - i) ≡ i = omega arith in
    let o : H (i - i) ≡ 0 = ap (λ (y : ℕ). f.cube i i y * x y) k ∙ ap (λ (y : ℕ). y * x i) z ∙ left (x i) in
    s ∙ ap₂ (λ (a b : ℕ). a + b) (none_begun i H) o
  where
    nought : (y : ℕ) → y * 0 ≡ 0
    nought y = omega arith

    left : (y : ℕ) → 0 * y ≡ 0
    left y = omega arith

-- ---- all of it is the sum over the monomials
module _ (f : Cubic) (n : ℕ) (x : ℕ → ℕ) where
  -- what unknown i is multiplied by in the products of three
  upper : ℕ → ℕ
  upper i = sum (n - i) (λ d. sum (n - (i + d)) (λ e. f.cube i (i + d) (i + d + e) * x (i + d + e)) * x (i + d))

  plane_split : (i : ℕ) → plane_sum f n i x ≡ row_of (low_of f) n i x + upper i
  unfolding plane_sum cell_sum row_of upper
  plane_split i =
      ap (λ (y : ℕ). f.lin i + y)
      (sum_ext (n - i) _ (λ d. f.quad i (i + d) * x (i + d) + sum (n - (i + d)) (λ e. f.cube i (i + d) (i + d + e) * x (i + d + e)) * x (i + d))
      (λ d l. both (f.quad i (i + d)) (sum (n - (i + d)) (λ e. f.cube i (i + d) (i + d + e) * x (i + d + e))) (x (i + d)))
      ∙ sum_add (n - i) (λ d. f.quad i (i + d) * x (i + d)) (λ d. sum (n - (i + d)) (λ e. f.cube i (i + d) (i + d + e) * x (i + d + e)) * x (i + d)))
      ∙ group (f.lin i) (sum (n - i) (λ d. f.quad i (i + d) * x (i + d))) (sum (n - i) (λ d. sum (n - (i + d)) (λ e. f.cube i (i + d) (i + d + e) * x (i + d + e)) * x (i + d)))
    where
      both : (a b c : ℕ) → (a + b) * c ≡ a * c + b * c
      both a b c = omega arith

      group : (a b c : ℕ) → a + (b + c) ≡ a + b + c
      group a b c = omega arith

  upper_is : (i : ℕ) → upper i * x i ≡ sum (n - i) (λ d. sum (n - (i + d)) (λ e. f.cube i (i + d) (i + d + e) * (x i * (x (i + d) * x (i + d + e)))))
  unfolding upper
  upper_is i =
      turn (sum (n - i) (λ d. sum (n - (i + d)) (λ e. f.cube i (i + d) (i + d + e) * x (i + d + e)) * x (i + d))) (x i)
      ∙ sum_scale (n - i) (x i) (λ d. sum (n - (i + d)) (λ e. f.cube i (i + d) (i + d + e) * x (i + d + e)) * x (i + d))
      ∙ sum_ext (n - i) _ _ (λ d l.
      over (x i) (sum (n - (i + d)) (λ e. f.cube i (i + d) (i + d + e) * x (i + d + e))) (x (i + d))
      ∙ sum_scale (n - (i + d)) (x i * x (i + d)) (λ e. f.cube i (i + d) (i + d + e) * x (i + d + e))
      ∙ sum_ext (n - (i + d)) _ _ (λ e k. deep (x i) (x (i + d)) (f.cube i (i + d) (i + d + e)) (x (i + d + e))))
    where
      turn : (a b : ℕ) → a * b ≡ b * a
      turn a b = omega arith

      over : (a b c : ℕ) → a * (b * c) ≡ a * c * b
      over a b c = omega arith

      deep : (a b c d : ℕ) → a * b * (c * d) ≡ c * (a * (b * d))
      deep a b c d = omega arith

  pub value_whole : f.const + sum (n - 0) (λ d. plane_sum f n (0 + d) x * x (0 + d)) ≡ cubic_of f n x
  unfolding cubic_of cubes_of rows_part
  value_whole =
      ap (λ (y : ℕ). f.const + y)
      (sum_from_none n (λ i. plane_sum f n i x * x i)
      ∙ sum_ext n _ (λ i. row_of (low_of f) n i x * x i + upper i * x i) (λ i l. ap (λ (y : ℕ). y * x i) (plane_split i) ∙ both (row_of (low_of f) n i x) (upper i) (x i))
      ∙ sum_add n (λ i. row_of (low_of f) n i x * x i) (λ i. upper i * x i))
      ∙ group f.const (sum n (λ i. row_of (low_of f) n i x * x i)) (sum n (λ i. upper i * x i))
      ∙ ap₂ (λ (a b : ℕ). a + b) (rows_whole (low_of f) n x) (sum_ext n _ _ (λ i l. upper_is i))
    where
      both : (a b c : ℕ) → (a + b) * c ≡ a * c + b * c
      both a b c = omega arith

      group : (a b c : ℕ) → a + (b + c) ≡ a + b + c
      group a b c = omega arith

-- the value at digits is that at their remainders
pub value_mod : (n m : ℕ) (F : ℕ → Cubic) (x : ℕ → ℕ) (v : Vector) → Holds m (λ e. cubic_of (F e) n (λ k. x k % 3)) v → v ≡ of_trits m (λ e. cubic_of (F e) n x)
value_mod n m F x v h = holds_is (holds_ext (λ e l. (ext_cubic 3 (omega arith) (F e) n (λ k. x k % 3) x (λ k. cdrop (x k))).same) h)

-- and at the digits of a point
pub values_are : (n m : ℕ) (t : List ℕ) (x : ℕ) (d : ℕ → ℕ) → ((k : ℕ) → k < n → d k ≡ digit 3 x k) → of_trits m (λ e. cubic_of (cubic_at n t e) n d) ≡ cubic_values n m t x
unfolding cubic_values
values_are n m t x d h =
    of_ext m (λ e. cubic_of (cubic_at n t e) n d) (λ e. cubic_of (cubic_at n t e) n (digit 3 x)) (λ e l. ap (λ (y : ℕ). y % 3) (cubic_below (cubic_at n t e) n d (digit 3 x) h))

-- ---- what the code asks
-- the unknowns after number t of the list come after i, number s: from t on where s is before it, from t + 1 on where they are the same
pub later_same : (n : ℕ) (at : List ℕ) (c s t : ℕ) → Rising n at c → s ≡ t → (u : ℕ) → t + 1 ≤ u → u < c → (get_or at t 0 ≤ get_or at u 0) × (get_or at s 0 < get_or at u 0)
later_same n at c s t r e u l m =
    let k : get_or at s 0 ≡ get_or at t 0 = ap (λ (y : ℕ). get_or at y 0) e in
    let j = r.rise t u (omega arith) m in
    (omega arith, omega arith)

pub later_apart : (n : ℕ) (at : List ℕ) (c s t : ℕ) → Rising n at c → s ≤ t → (s ≡ t → ⊥) → (u : ℕ) → t ≤ u → u < c → (get_or at t 0 ≤ get_or at u 0) × (get_or at s 0 < get_or at u 0)
later_apart n at c s t r l d u o m =
    let j = r.rise s u (omega arith) m in
    let k = pair_order n at c t u r o m in
    (k.0, j)

-- where the products of a cell stand: b from the key of i and the number p of j, j
pub cell_room : (n len b p i j c from : ℕ) (at : List ℕ) → Rising n at c → n ≤ 20 → i ≤ j → p ≡ row_start n j → b ≡ key_of n i + (p - j) → len ≡ 2 * cubic_count n
    → ((u : ℕ) → from ≤ u → u < c → (j ≤ get_or at u 0) × (i < get_or at u 0)) → (u : ℕ) → from ≤ u → u < c → (get_or at u 0 < 2 ^ 32) × (2 * (b + get_or at u 0) + 1 < len)
cell_room n len b p i j c from at r small h e f g later u l m =
    let w = later u l m in
    let k = r.below u m in
    let a = base_at n i j (get_or at u 0) b p h w.0 w.1 k e f in
    let o = triple_lt n i j (get_or at u 0) h w.0 w.1 k in
    (omega arith, omega arith)

pub cell_entry : (n m : ℕ) (tb : List ℕ) → CubicTable n m tb → (i j k b p : ℕ) → i ≤ j → j ≤ k → i < k → k < n → p ≡ row_start n j → b ≡ key_of n i + (p - j)
    → Holds m (λ e. (cubic_at n tb e).cube i j k) (entry tb (b + k))
cell_entry n m tb w i j k b p h l o q e f = rw (base_at n i j k b p h l o q e f) (cube_holds n m tb w i j k h l o q)

pub cell_square : (n : ℕ) (x : ℕ → ℕ) (at turn : List ℕ) (c s t : ℕ) (tb : List ℕ) → Lists n x at turn c → s ≡ t → t < c → (e : ℕ)
    → sum (get_or at (t + 1) 0 - get_or at t 0) (λ d. (cubic_at n tb e).cube (get_or at s 0) (get_or at t 0) (get_or at t 0 + d) * x (get_or at t 0 + d)) ≡ 0
cell_square n x at turn c s t tb g h l e =
    ap (λ (k : ℕ). sum (get_or at (t + 1) 0 - get_or at t 0) (λ d. (cubic_at n tb e).cube (get_or at k 0) (get_or at t 0) (get_or at t 0 + d) * x (get_or at t 0 + d))) h
    ∙ square_begun n x at turn c g t l (cubic_at n tb e) (cube_none n tb e (get_or at t 0))

pub next_le : (n : ℕ) (x : ℕ → ℕ) (at turn : List ℕ) (c t : ℕ) → Lists n x at turn c → t < c → get_or at t 0 ≤ get_or at (t + 1) 0
next_le n x at turn c t g l = let s = g.step t l in let e : get_or at (t + 1) 0 ≡ get_or at (suc t) 0 = ap (λ (y : ℕ). get_or at y 0) (add-one t) in omega arith

pub cell_sum_lem : (m n i j : ℕ) (F : ℕ → Cubic) (x : ℕ → ℕ) (v : Vector) → Holds m (λ e. (F e).quad i j + sum (n - j) (λ d. (F e).cube i j (j + d) * x (j + d))) v
    → Holds m (λ e. cell_sum (F e) n i j x) v
unfolding cell_sum
cell_sum_lem m n i j F x v h = h

pub plane_sum_lem : (m n i : ℕ) (F : ℕ → Cubic) (x : ℕ → ℕ) (v : Vector) → Holds m (λ e. (F e).lin i + sum (n - i) (λ d. cell_sum (F e) n i (i + d) x * x (i + d))) v
    → Holds m (λ e. plane_sum (F e) n i x) v
unfolding plane_sum
plane_sum_lem m n i F x v h = h

pub whole_sum : (m n : ℕ) (F : ℕ → Cubic) (x : ℕ → ℕ) (v : Vector) → Holds m (λ e. (F e).const + sum (n - 0) (λ d. plane_sum (F e) n (0 + d) x * x (0 + d))) v
    → Holds m (λ e. cubic_of (F e) n x) v
whole_sum m n F x v h = holds_ext (λ e l. ap (λ (y : ℕ). y % 3) (value_whole (F e) n x)) h

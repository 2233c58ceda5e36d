-- The value of a system as the code sums it: row by row, each row at the digits of its unknowns, then times its own unknown.
use mathlib.Core.Path.{◌≡◌, sym, ap, ◌∙◌}
use mathlib.Core.List.{List}
use mathlib.Core.Logic.{by_cases}
use Prim.Native.Nat.{ℕ, ◌+◌, ◌-◌, ◌*◌, ◌/◌, ◌%◌, ◌^◌, ◌≤◌, ◌<◌}
use native.Mathlib.Nat.{div-one, div-div-eq-div-mul, mul_comm, pow-succ'}
use native.Mathlib.Numerals.{add-one}
use native.Mathlib.Decide.{ℕ_discrete}
use native.Mathlib.Omega.{arith}
use lib.ListN.{length, get_or, set}
use lib.Seq.{get_or-set_same, get_or-set_other}
use Rattle.residues.specs.Sums.{sum}
use Rattle.residues.proofs.ModLaw.{cdrop}
use Rattle.residues.proofs.SumLaw.{sum_ext, sum_add, sum_scale}
use Rattle.trits.specs.declared.Vector.{Vector}
use Rattle.trits.specs.Trit.{Holds, of_trits}
use Rattle.trits.proofs.ExtLaw.{of_ext}
use Rattle.trits.proofs.HoldLaw.{holds_is, is_holds, holds_ext}
use Rattle.gray.specs.Numbers.{digit}
use Rattle.polynomials.specs.Poly.{Poly, value_of}
use Rattle.polynomials.proofs.TermsLaw.{ext_value}
use Rattle.polynomials.proofs.PolyLaw.{value_ext}
use Rattle.listed.specs.Lists.{Rising}
use Rattle.listed.proofs.ListLaw.{sum_from_none, pair_order}
use Rattle.tables.specs.Monomials.{count_of, index_of}
use Rattle.tables.specs.Words.{entry, Table, poly_at, values_at}
use Rattle.evaluation.specs.Parts.{row_of}
use Rattle.tables.proofs.IndexLaw.{index_lt, count_is}
use Rattle.tables.proofs.VectorLaw.{of_self}
use Rattle.tables.proofs.WriteLaw.{row_entry}

-- ---- the digits, one after the other
pub part_none : (x : ℕ) → x ≡ x / 3 ^ 0
part_none x = sym (div-one x)

pub part_next : (x k : ℕ) → x / 3 ^ k / 3 ≡ x / 3 ^ (k + 1)
part_next x k = div-div-eq-div-mul x (3 ^ k) 3 ∙ ap (λ (y : ℕ). x / y) (mul_comm (3 ^ k) 3 ∙ sym (pow-succ' 3 k) ∙ ap (λ (y : ℕ). 3 ^ y) (sym (add-one k)))

pub digits_next : (x : ℕ) (r : List ℕ) (k rest : ℕ) → k < length r → rest ≡ x / 3 ^ k → ((j : ℕ) → j < k → get_or r j 0 ≡ digit 3 x j)
    → (j : ℕ) → j < k + 1 → get_or (set r k (rest % 3)) j 0 ≡ digit 3 x j
unfolding digit
digits_next x r k rest h e below j l =
    by_cases (ℕ_discrete j k)
    (λ z. ap (λ (y : ℕ). get_or (set r k (rest % 3)) y 0) z ∙ get_or-set_same r k (rest % 3) 0 h ∙ ap (λ (y : ℕ). y % 3) e ∙ ap (λ (y : ℕ). x / 3 ^ y % 3) (sym z))
    (λ d. get_or-set_other r k j (rest % 3) 0 d ∙ below j (omega arith))

-- ---- the entries hold the coefficients
module _ (n m : ℕ) (t : List ℕ) (table : Table n m t) where
  pub const_holds : Holds m (λ e. (poly_at n t e).const) (entry t 0)
  unfolding poly_at
  const_holds = is_holds (of_self m (entry t 0) (table.legal 0 (omega (arith, count_is n))))

  pub lin_holds : (i : ℕ) → i < n → Holds m (λ e. (poly_at n t e).lin i) (entry t (1 + i))
  unfolding poly_at
  lin_holds i h = is_holds (of_self m (entry t (1 + i)) (table.legal (1 + i) (omega (arith, count_is n))))

  pub quad_holds : (i j : ℕ) → i ≤ j → j < n → Holds m (λ e. (poly_at n t e).quad i j) (entry t (index_of n i j))
  unfolding poly_at
  quad_holds i j h l = is_holds (of_self m (entry t (index_of n i j)) (table.legal (index_of n i j) (index_lt n i j h l)))

pub index_ge : (n i : ℕ) → i < n → i ≤ index_of n i i
unfolding index_of
index_ge n i h = omega arith

-- ---- where the products of i stand: b is the number that the code works out
pub base_at : (n i k b r : ℕ) → i < n → i ≤ k → r ≡ index_of n i i → b ≡ r - i → b + k ≡ index_of n i k
base_at n i k b r s h e f = let g = index_ge n i s in let o = row_entry n i k h in omega arith

pub row_room : (n len b r c from : ℕ) (at : List ℕ) → Rising n at c → n ≤ 20 → from < c → r ≡ index_of n (get_or at from 0) (get_or at from 0) → b ≡ r - get_or at from 0 → len ≡ 2 * count_of n
    → (u : ℕ) → from ≤ u → u < c → (get_or at u 0 < 2 ^ 32) × (2 * (b + get_or at u 0) + 1 < len)
row_room n len b r c from at w small h e f g u l m =
    let o = pair_order n at c from u w l m in
    let k = base_at n (get_or at from 0) (get_or at u 0) b r (w.below from h) o.0 e f in
    let i = index_lt n (get_or at from 0) (get_or at u 0) o.0 o.1 in
    (omega arith, omega arith)

pub row_holds : (n m : ℕ) (t : List ℕ) → Table n m t → (i k b r : ℕ) → i ≤ k → k < n → r ≡ index_of n i i → b ≡ r - i → Holds m (λ e. (poly_at n t e).quad i k) (entry t (b + k))
row_holds n m t w i k b r h l e f = rw (base_at n i k b r (omega arith) h e f) (quad_holds n m t w i k h l)

-- ---- the rows, each times its unknown
unfoldable pub rows_part : Poly → ℕ → ℕ → (ℕ → ℕ) → ℕ
rows_part f n i x = f.const + sum i (λ k. row_of f n k x * x k)

pub rows_whole : (f : Poly) (n : ℕ) (x : ℕ → ℕ) → rows_part f n n x ≡ value_of f n x
unfolding rows_part value_of row_of
rows_whole f n x =
    ap (λ (y : ℕ). f.const + y)
    (sum_ext n (λ i. (f.lin i + sum (n - i) (λ d. f.quad i (i + d) * x (i + d))) * x i) (λ i. f.lin i * x i + sum (n - i) (λ d. f.quad i (i + d) * (x i * x (i + d))))
    (λ i h. split (f.lin i) (sum (n - i) (λ d. f.quad i (i + d) * x (i + d))) (x i)
    ∙ ap (λ (y : ℕ). f.lin i * x i + y) (sum_scale (n - i) (x i) (λ d. f.quad i (i + d) * x (i + d))
    ∙ sum_ext (n - i) (λ d. x i * (f.quad i (i + d) * x (i + d))) (λ d. f.quad i (i + d) * (x i * x (i + d))) (λ d l. turn (x i) (f.quad i (i + d)) (x (i + d)))))
    ∙ sum_add n (λ i. f.lin i * x i) (λ i. sum (n - i) (λ d. f.quad i (i + d) * (x i * x (i + d)))))
    ∙ left f.const (sum n (λ i. f.lin i * x i)) (sum n (λ i. sum (n - i) (λ d. f.quad i (i + d) * (x i * x (i + d)))))
  where
    split : (a b c : ℕ) → (a + b) * c ≡ a * c + c * b
    split a b c = omega arith

    turn : (a b c : ℕ) → a * (b * c) ≡ b * (a * c)
    turn a b c = omega arith

    left : (a b c : ℕ) → a + (b + c) ≡ a + b + c
    left a b c = omega arith

pub row_sum : (m n i : ℕ) (F : ℕ → Poly) (x : ℕ → ℕ) (v : Vector) → Holds m (λ e. (F e).lin i + sum (n - i) (λ d. (F e).quad i (i + d) * x (i + d))) v
    → Holds m (λ e. row_of (F e) n i x) v
unfolding row_of
row_sum m n i F x v h = h

pub whole_sum : (m n : ℕ) (F : ℕ → Poly) (x : ℕ → ℕ) (v : Vector) → Holds m (λ e. (F e).const + sum (n - 0) (λ d. row_of (F e) n (0 + d) x * x (0 + d))) v
    → Holds m (λ e. value_of (F e) n x) v
unfolding rows_part
whole_sum m n F x v h =
    holds_ext (λ e l. ap (λ (y : ℕ). y % 3) (ap (λ (y : ℕ). (F e).const + y) (sum_from_none n (λ k. row_of (F e) n k x * x k)) ∙ rows_whole (F e) n x)) h

-- the value at digits is that at their remainders
pub value_mod : (n m : ℕ) (F : ℕ → Poly) (x : ℕ → ℕ) (v : Vector) → Holds m (λ e. value_of (F e) n (λ k. x k % 3)) v → v ≡ of_trits m (λ e. value_of (F e) n x)
value_mod n m F x v h = holds_is (holds_ext (λ e l. (ext_value 3 (omega arith) (F e) n (λ k. x k % 3) x (λ k. cdrop (x k))).same) h)

pub values_are : (n m : ℕ) (t : List ℕ) (x : ℕ) (d : ℕ → ℕ) → ((k : ℕ) → k < n → d k ≡ digit 3 x k) → of_trits m (λ e. value_of (poly_at n t e) n d) ≡ values_at n m t x
unfolding values_at
values_are n m t x d h =
    of_ext m (λ e. value_of (poly_at n t e) n d) (λ e. value_of (poly_at n t e) n (digit 3 x)) (λ e l. ap (λ (y : ℕ). y % 3) (value_ext (poly_at n t e) n d (digit 3 x) h))

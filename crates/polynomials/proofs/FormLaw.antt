-- The same facts in the words of the paper: the value as a sum in monomial order, the difference as a difference, the table at q = 3, the round trips as equations, and the latest move.
use mathlib.Core.Path.{◌≡◌, refl, sym, ap, ap₂, ◌∙◌}
use mathlib.Core.Logic.{by_cases}
use Prim.Native.Nat.{ℕ, zero, suc, ◌+◌, ◌-◌, ◌*◌, ◌%◌, ◌<◌}
use native.Mathlib.Nat.{mod-lt, add-zero}
use native.Mathlib.Decide.{ℕ_discrete}
use native.Mathlib.Omega.{arith}
use Rattle.residues.specs.Sums.{sum, same}
use Rattle.polynomials.specs.Poly.{Poly, value_of, change_by, change_of, eval, diff, prev, table_of, back_of, prev_of, bumped}
use Rattle.residues.proofs.ModLaw.{Cong, crefl, cof, csym, ◌⨾◌, cdrop, cadd, cminus, csmall}
use Rattle.residues.proofs.SumLaw.{sum_scale, sum_ext, sum_add}
use Rattle.polynomials.proofs.PolyLaw.{Next, diff_is}
use Rattle.polynomials.proofs.TableLaw.{same_is, other_is, back_same, back_other, back_table_lin, back_table_same, back_table_other, table_back_lin, table_back_same, table_back_other}

-- the value, summed in the order of the monomials
pub rows : Poly → ℕ → (ℕ → ℕ) → ℕ
rows f n x = sum n (λ i. sum (n - i) (λ d. f.quad i (i + d) * (x i * x (i + d))))

rows_more : (f : Poly) (n : ℕ) (x : ℕ → ℕ) → rows f (suc n) x ≡ rows f n x + x n * sum n (λ i. f.quad i n * x i) + f.quad n n * (x n * x n)
unfolding rows sum
rows_more f n x =
    ap₂ (λ (u v : ℕ). u + v)
    (sum_ext n (λ i. sum (suc n - i) (λ d. f.quad i (i + d) * (x i * x (i + d)))) (λ i. sum (n - i) (λ d. f.quad i (i + d) * (x i * x (i + d))) + x n * (f.quad i n * x i))
    (λ i l. ap (λ (k : ℕ). sum k (λ d. f.quad i (i + d) * (x i * x (i + d)))) (next i n l)
    ∙ ap (λ (y : ℕ). sum (n - i) (λ d. f.quad i (i + d) * (x i * x (i + d))) + y) (ap (λ (y : ℕ). f.quad i y * (x i * x y)) (end i n l) ∙ turn (f.quad i n) (x i) (x n)))
    ∙ sum_add n (λ i. sum (n - i) (λ d. f.quad i (i + d) * (x i * x (i + d)))) (λ i. x n * (f.quad i n * x i))
    ∙ ap (λ (y : ℕ). rows f n x + y) (sym (sum_scale n (x n) (λ i. f.quad i n * x i))))
    (ap (λ (k : ℕ). sum k (λ d. f.quad n (n + d) * (x n * x (n + d)))) (one n) ∙ ap (λ (y : ℕ). 0 + f.quad n y * (x n * x y)) (add-zero n) ∙ none (f.quad n n * (x n * x n)))
  where
    next : (i n : ℕ) → i < n → suc n - i ≡ suc (n - i)
    next i n l = omega arith

    end : (i n : ℕ) → i < n → i + (n - i) ≡ n
    end i n l = omega arith

    one : (n : ℕ) → suc n - n ≡ 1
    one n = omega arith

    none : (y : ℕ) → 0 + y ≡ y
    none y = omega arith

    turn : (a b c : ℕ) → a * (b * c) ≡ c * (a * b)
    turn a b c = omega arith

pub eval_is : (f : Poly) (n : ℕ) (x : ℕ → ℕ) → eval f n x ≡ f.const + sum n (λ i. f.lin i * x i) + rows f n x
unfolding eval sum rows
eval_is f zero x = omega arith
eval_is f (suc n) x =
    ap (λ (y : ℕ). y + x n * (f.lin n + (sum n (λ i. f.quad i n * x i) + f.quad n n * x n))) (eval_is f n x)
    ∙ ring f.const (sum n (λ i. f.lin i * x i)) (rows f n x) (x n) (f.lin n) (sum n (λ i. f.quad i n * x i)) (f.quad n n)
    ∙ ap (λ (y : ℕ). f.const + (sum n (λ i. f.lin i * x i) + f.lin n * x n) + y) (sym (rows_more f n x))
  where
    ring : (c s r x l t k : ℕ) → c + s + r + x * (l + (t + k * x)) ≡ c + (s + l * x) + (r + x * t + k * (x * x))
    ring c s r x l t k = omega arith

-- the table at q = 3, as it is written there
pub three_same : (f : Poly) (i : ℕ) → Cong 3 ((table_of 3 f).quad i i + (f.quad i i + prev f i)) 0
three_same f i = record { same = omega (arith, same_is 3 (omega arith) f i) }

pub three_other : (f : Poly) (i j : ℕ) → (i ≡ j → ⊥) → Cong 3 ((table_of 3 f).quad i j + f.quad i i) (f.quad i j + prev f i)
three_other f i j n = record { same = omega (arith, other_is 3 (omega arith) f i j n) }

pub half_three : Cong 3 (2 * 2) 1
half_three = record { same = refl }

pub half_five : Cong 5 (2 * 3) 1
half_five = record { same = refl }

pub eval_value : (f : Poly) (n : ℕ) (x : ℕ → ℕ) → eval f n x ≡ value_of f n x
unfolding value_of rows
eval_value f n x = eval_is f n x

module _ (q : ℕ) (two : 1 < q) where
  pos : 0 < q
  pos = omega arith

  -- the difference is the value one further less the value
  pub diff_real : (f : Poly) (n b : ℕ) (x : ℕ → ℕ) → b < n → Cong q (diff f n b x) (eval f n (bumped q b x) + (q - 1) * eval f n x)
  unfolding bumped Next
  diff_real f n b x l =
      csym (cadd (diff_is q f n b x (bumped q b x) l (λ k. cdrop (x k + same k b))) (crefl ((q - 1) * eval f n x))
      ⨾ cof (turn (eval f n x) (diff f n b x) ((q - 1) * eval f n x)) ⨾ cadd (crefl (diff f n b x)) (cminus q pos (eval f n x)) ⨾ cof (add-zero _))
    where
      turn : (a b c : ℕ) → a + b + c ≡ b + (a + c)
      turn a b c = omega arith

  -- the same in the words of document 01
  pub diff_change : (f : Poly) (n b : ℕ) (x : ℕ → ℕ) → b < n → diff f n b x % q ≡ change_of q f n b x
  unfolding change_by
  diff_change f n b x l =
      (diff_real f n b x l).same
      ∙ ap₂ (λ (u v : ℕ). (u + (q - 1) * v) % q) (eval_value f n (bumped q b x)) (eval_value f n x)

  module _ (half : ℕ) (halves : Cong q (2 * half) 1) where
    table_small : (f : Poly) (i j : ℕ) → (table_of q f).quad i j < q
    table_small f i j = by_cases (ℕ_discrete i j)
        (λ e. let m = mod-lt (2 * f.quad i i + (q - 1) * prev f i) pos in rw (← e) (rw (same_is q two f i) m))
        (λ n. let m = mod-lt (f.quad i j + 2 * f.quad i i + 2 * ((q - 1) * prev f i)) pos in rw (other_is q two f i j n) m)

    back_small : (t : Poly) (i j : ℕ) → (back_of q half t).quad i j < q
    back_small t i j = by_cases (ℕ_discrete i j)
        (λ e. let m = mod-lt (half * (t.quad i i + prev_of q t i)) pos in rw (← e) (rw (back_same q two half halves t i) m))
        (λ n. let m = mod-lt (t.quad i j + prev_of q t i + (q - 1) * t.quad i i) pos in rw (back_other q two half halves t i j n) m)

    -- coefficients below q come back from their table, and tables from their coefficients
    pub back_table : (f : Poly) (i j : ℕ) → f.quad i j < q → (back_of q half (table_of q f)).quad i j ≡ f.quad i j
    back_table f i j l = csmall (back_small (table_of q f) i j) l (by_cases (ℕ_discrete i j)
        (λ e. rw (← e) (back_table_same q two half halves f i))
        (λ n. back_table_other q two half halves f i j n))

    pub table_back : (t : Poly) (i j : ℕ) → t.quad i j < q → (table_of q (back_of q half t)).quad i j ≡ t.quad i j
    table_back t i j l = csmall (table_small (back_of q half t) i j) l (by_cases (ℕ_discrete i j)
        (λ e. rw (← e) (table_back_same q two half halves t i))
        (λ n. table_back_other q two half halves t i j n))

    pub back_table_first : (f : Poly) (i : ℕ) → f.lin i < q → (back_of q half (table_of q f)).lin i ≡ f.lin i
    unfolding back_of
    back_table_first f i l = csmall (mod-lt _ pos) l (back_table_lin q two half halves f i)

    pub table_back_first : (t : Poly) (i : ℕ) → t.lin i < q → (table_of q (back_of q half t)).lin i ≡ t.lin i
    unfolding table_of
    table_back_first t i l = csmall (mod-lt _ pos) l (table_back_lin q two half halves t i)

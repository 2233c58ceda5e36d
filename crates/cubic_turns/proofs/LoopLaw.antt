-- What the loops keep: the entries written so far.
use mathlib.Core.Path.{◌≡◌, sym, ap, ap₂, ◌∙◌}
use mathlib.Core.List.{List}
use Prim.Native.Nat.{ℕ, suc, ◌+◌, ◌*◌, ◌≤◌, ◌<◌}
use native.Mathlib.Nat.{mod-eq_of_lt}
use native.Mathlib.Omega.{arith}
use lib.ListN.{length}
use Rattle.trits.specs.declared.Vector.{Vector}
use Rattle.trits.specs.Trit.{trit, Legal, Holds, of_trits}
use Rattle.trits.specs.Words.{Added}
use Rattle.trits.proofs.HoldLaw.{holds_is, holds_add}
use Rattle.tables.specs.Monomials.{count_of, index_of}
use Rattle.tables.specs.Words.{entry, put_at, Written}
use Rattle.tables.proofs.IndexLaw.{count_is, index_lt}
use Rattle.trits.proofs.LegalLaw.{trit_lt}
use Rattle.tables.proofs.WriteLaw.{written_put, written_none, row_entry, row_next}
use Rattle.cubic_tables.specs.Order.{cubic_count, triple_index}
use Rattle.cubic_tables.specs.Words.{CubicTable}
use Rattle.brackets.specs.Brackets.{Known}
use Rattle.cubic_tables.proofs.OrderLaw.{index_suc, index_same, triple_lt, triple_ge, cell_next, plane_next, pair_is, row_zero, cube_first, cube_last}

pub known_written : (n m : ℕ) (g old t : List ℕ) (k : ℕ) → CubicTable n m g → Written g (count_of n) k old t → Known n m g k t
known_written n m g old t k l w = record { table = l; same = w.here }

-- one product more
pub cell_put : (n b c d : ℕ) (g old t : List ℕ) (k : ℕ) (v : Vector) → b ≤ c → c ≤ d → b < d → d < n → length t ≡ 2 * cubic_count n → k ≡ triple_index n b c d → v ≡ entry g (triple_index n b c d)
    → Written g (count_of n) (triple_index n b c d) old t → Written g (count_of n) (triple_index n b c (d + 1)) old (put_at t k v)
cell_put n b c d g old t k v h l m o s e z w =
    let i : triple_index n b c (d + 1) ≡ k + 1 = ap (triple_index n b c) (one d) ∙ index_suc n b c d h l m o ∙ ap suc (sym e) ∙ sym (one k) in
    let y : Written g (count_of n) k old t = rw e w in
    rw i (written_put g old t (count_of n) k v (rw e (triple_ge n b c d)) (omega (arith, e, w.size, triple_lt n b c d h l m o)) (z ∙ ap (entry g) (sym e)) y)
  where
    one : (x : ℕ) → x + 1 ≡ suc x
    one x = omega arith

-- none where all three are the same
pub cell_skip : (n b c d : ℕ) (g old t : List ℕ) → b ≤ c → c ≤ d → b ≡ d → Written g (count_of n) (triple_index n b c d) old t → Written g (count_of n) (triple_index n b c (d + 1)) old t
cell_skip n b c d g old t h l e w =
    let x : c ≡ b = omega arith in
    let y : d ≡ b = omega arith in
    let i : triple_index n b c (d + 1) ≡ triple_index n b c d = ap₂ (λ (u z : ℕ). triple_index n b u z) x (ap (λ (u : ℕ). u + 1) y ∙ one b) ∙ index_same n b ∙ sym (ap₂ (λ (u z : ℕ). triple_index n b u z) x y) in
    rw i w
  where
    one : (x : ℕ) → x + 1 ≡ suc x
    one x = omega arith

pub to_end : (n b c d : ℕ) (g old t : List ℕ) → d ≡ n → Written g (count_of n) (triple_index n b c d) old t → Written g (count_of n) (triple_index n b c n) old t
to_end n b c d g old t e w = rw e at w

pub row_over : (n b c : ℕ) (g old t : List ℕ) → b ≤ c → c < n → Written g (count_of n) (triple_index n b c n) old t → Written g (count_of n) (triple_index n b (c + 1) (c + 1)) old t
row_over n b c g old t h l w = let e : c + 1 ≡ suc c = omega arith in rw (e, cell_next n b c h l) w

pub row_end : (n b c : ℕ) (g old t : List ℕ) → c ≡ n → Written g (count_of n) (triple_index n b c c) old t → Written g (count_of n) (triple_index n b n n) old t
row_end n b c g old t e w = rw e at w

pub plane_over : (n b : ℕ) (g old t : List ℕ) → b < n → Written g (count_of n) (triple_index n b n n) old t → Written g (count_of n) (triple_index n (b + 1) (b + 1) (b + 1)) old t
plane_over n b g old t l w = let e : b + 1 ≡ suc b = omega arith in rw (e, plane_next n b l) w

-- ---- entries of degree up to 2
pub legal_holds : (m : ℕ) (v x : Vector) → Legal m v → x ≡ v → Holds m (trit v) x
legal_holds m v x l e = rw e (record { legal = l; each = λ i h. sym (mod-eq_of_lt (trit_lt v i)) })

pub shifted_is : (m : ℕ) (f h : ℕ → ℕ) (x y v w : Vector) → Added x y v → Holds m f x → Holds m h y → w ≡ of_trits m (λ e. f e + h e) → v ≡ w
shifted_is m f h x y v w a hx hy e = holds_is (holds_add a hx hy) ∙ sym e

pub single_put : (n b : ℕ) (g old t : List ℕ) (v : Vector) → b < n → 2 * count_of n ≤ length t → v ≡ entry g (1 + b) → Written g 0 (1 + b) old t → Written g 0 (1 + (b + 1)) old (put_at t (1 + b) v)
single_put n b g old t v h l e w =
    let i : 1 + (b + 1) ≡ 1 + b + 1 = omega arith in
    rw i (written_put g old t 0 (1 + b) v (omega arith) (omega (arith, w.size, count_is n)) e w)

pub single_end : (n b : ℕ) (g old t : List ℕ) → b ≡ n → Written g 0 (1 + b) old t → Written g 0 (1 + n) old t
single_end n b g old t e w = rw e at w

pub pair_put : (n b c k : ℕ) (g old t : List ℕ) (v : Vector) → b ≤ c → c < n → 2 * count_of n ≤ length t → k ≡ index_of n b c → v ≡ entry g (index_of n b c) → Written g 0 (index_of n b c) old t
    → Written g 0 (index_of n b (c + 1)) old (put_at t k v)
pair_put n b c k g old t v h l s e z w =
    let i : index_of n b (c + 1) ≡ k + 1 = omega (arith, pair_is n b (c + 1), pair_is n b c) in
    let y : Written g 0 k old t = rw e w in
    rw i (written_put g old t 0 k v (omega arith) (omega (arith, e, w.size, index_lt n b c h l)) (z ∙ ap (entry g) (sym e)) y)

pub pair_end : (n b c : ℕ) (g old t : List ℕ) → c ≡ n → Written g 0 (index_of n b c) old t → Written g 0 (index_of n b n) old t
pair_end n b c g old t e w = rw e at w

pub pair_over : (n b : ℕ) (g old t : List ℕ) → b < n → Written g 0 (index_of n b n) old t → Written g 0 (index_of n (b + 1) (b + 1)) old t
pair_over n b g old t l w = rw (row_next n b l, sym (row_entry n b n (omega arith))) w

pub pair_first : (n : ℕ) (g old t : List ℕ) → Written g 0 (1 + n) old t → Written g 0 (index_of n 0 0) old t
pair_first n g old t w = rw (zero_is n) w
  where
    zero_is : (n : ℕ) → index_of n 0 0 ≡ 1 + n
    zero_is n = omega (arith, pair_is n 0 0, row_zero n)

pub once : (x : ℕ) → 1 * x ≡ x
once x = omega arith

-- the first entry
pub first_put : (n : ℕ) (g old : List ℕ) (v : Vector) → 2 * count_of n ≤ length old → v ≡ entry g 0 → Written g 0 1 old (put_at old 0 v)
first_put n g old v l e = written_put g old old 0 0 v (omega arith) (omega (arith, count_is n)) e (written_none g old 0)

pub pair_last : (n b : ℕ) (g old t : List ℕ) → b ≡ n → Written g 0 (index_of n b b) old t → Written g 0 (count_of n) old t
pair_last n b g old t e w = let i : index_of n b b ≡ count_of n = ap (λ (x : ℕ). index_of n x x) e ∙ last in rw i at w
  where
    last : index_of n n n ≡ count_of n
    last = omega (arith, pair_is n n n, count_is n)

-- all products of three
pub cubes_last : (n b : ℕ) (g old t : List ℕ) → b ≡ n → Written g (count_of n) (triple_index n b b b) old t → Written g (count_of n) (cubic_count n) old t
cubes_last n b g old t e w = let i : triple_index n b b b ≡ cubic_count n = ap (λ (x : ℕ). triple_index n x x x) e ∙ cube_last n in rw i at w

pub cubes_none : (n : ℕ) (g t : List ℕ) → Written g (count_of n) (triple_index n 0 0 0) t t
cubes_none n g t = rw (cube_first n) (written_none g t (count_of n))

-- Chevalley and Warning over F3: the zeros of few equations of degree d in n unknowns are a multiple of 3.
use mathlib.Core.Path.{◌≡◌, refl, ap, ◌∙◌}
use mathlib.Core.Bool.{Bool, true, false, ◌&&◌}
use mathlib.Core.List.{List}
use Prim.Native.Nat.{ℕ, zero, suc, ◌+◌, ◌*◌, ◌%◌, ◌^◌, ◌<◌, ◌≤◌}
use native.Mathlib.Nat.{zero-add, mod-lt, one-le-pow}
use native.Mathlib.Omega.{arith}
use lib.Dec.{eqb}
use lib.ListN.{length, length-append}
use Rattle.residues.specs.Sums.{sum}
use Rattle.residues.proofs.ModLaw.{Cong, crefl, cof, csym, ◌⨾◌, cdrop, cadd, cmul}
use Rattle.residues.proofs.SumLaw.{sum_ext, sum_cong}
use Rattle.gray.specs.Numbers.{point_digit}
use Rattle.walks.specs.Calls.{Trail, zeros_in, listed}
use Rattle.walks.specs.Runs.{Request, Engine, Serves, SaysEnded, sums_of}
use Rattle.walks.proofs.CallLaw.{zeros_add}
use Rattle.walks.proofs.RunsLaw.{whole_run}
use Rattle.held.specs.Stands.{zeros, trail_of}
use Rattle.held.proofs.FlatLaw.{Fun, Flat, Ext, flat_le, flat_add, flat_times, flat_const}
use Rattle.warning.specs.Few.{Few}
use Rattle.warning.proofs.AroundLaw.{sum_flat}

pos : 0 < 3
pos = omega arith

-- 1 where f is 0 modulo 3, and 0 elsewhere
abbrev pub is_none : ℕ → ℕ
is_none y = 1 + 2 * (y * y)

-- 1 where all m are 0, and 0 elsewhere
unfoldable pub all_none : ℕ → (ℕ → Fun) → Fun
all_none zero F x = 1
all_none (suc m) F x = all_none m F x * is_none (F m x)

abbrev pub tally : Bool → ℕ
tally true = 1
tally false = 0

none_cong : (x y : ℕ) → Cong 3 x y → Cong 3 (is_none x) (is_none y)
none_cong x y e = cadd (crefl 1) (cmul (crefl 2) (cmul e e))

none_is : (y : ℕ) → Cong 3 (is_none y) (tally (eqb (y % 3) 0))
none_is y = none_cong y (y % 3) (csym (cdrop y)) ⨾ cases (y % 3) (mod-lt y pos)
  where
    cases : (d : ℕ) → d < 3 → Cong 3 (is_none d) (tally (eqb d 0))
    cases zero h = crefl 1
    cases (suc zero) h = record { same = refl }
    cases (suc (suc zero)) h = record { same = refl }
    cases (suc (suc (suc d))) h = absurd (omega arith)

tally_and : (a b : Bool) → tally a * tally b ≡ tally (a && b)
tally_and true true = refl
tally_and true false = refl
tally_and false true = refl
tally_and false false = refl

pub all_is : (m : ℕ) (F : ℕ → Fun) (x : ℕ → ℕ) → Cong 3 (all_none m F x) (tally (zeros 3 m (λ e. F e x)))
unfolding all_none zeros
all_is zero F x = crefl 1
all_is (suc m) F x = cmul (all_is m F x) (none_is (F m x)) ⨾ cof (tally_and (zeros 3 m (λ e. F e x)) (eqb (F m x % 3) 0))

pub all_ext : (m : ℕ) (F : ℕ → Fun) → ((e : ℕ) → Ext 3 (F e)) → Ext 3 (all_none m F)
unfolding all_none
all_ext zero F s x y c = crefl 1
all_ext (suc m) F s x y c = cmul (all_ext m F s x y c) (none_cong (F m x) (F m y) (s m x y c))

none_flat : (d : ℕ) (f : Fun) → Ext 3 f → Flat 3 (suc d) f → Flat 3 (suc (2 * d)) (λ x. is_none (f x))
none_flat d f e s =
    flat_add 3 pos (suc (2 * d)) (λ x. 1) (λ x. 2 * (f x * f x)) (flat_le 3 pos 1 (suc (2 * d)) (λ x. 1) (omega arith) (flat_const 3 pos 1))
    (flat_times 3 pos (suc (2 * d)) 1 (2 * d) (λ x. 2) (λ x. f x * f x) (omega arith) (λ x y c. cmul (e x y c) (e x y c)) (flat_const 3 pos 2)
    (flat_times 3 pos (suc (2 * d)) (suc d) d f f (omega arith) e s s))

pub all_flat : (d m : ℕ) (F : ℕ → Fun) → ((e : ℕ) → Ext 3 (F e)) → ((e : ℕ) → Flat 3 (suc d) (F e)) → Flat 3 (suc (2 * d * m)) (all_none m F)
unfolding all_none
all_flat d zero F s f = flat_le 3 pos 1 (suc (2 * d * 0)) (λ x. 1) (omega arith) (flat_const 3 pos 1)
all_flat d (suc m) F s f =
    flat_times 3 pos (suc (2 * d * suc m)) (suc (2 * d * m)) (2 * d) (all_none m F) (λ x. is_none (F m x)) (more d m)
    (λ x y c. none_cong (F m x) (F m y) (s m x y c))
    (all_flat d m F s f) (none_flat d (F m) (s m) (f m))
  where
    more : (d m : ℕ) → suc (2 * d * m) + 2 * d ≤ suc (2 * d * suc m)
    more d m = omega arith

-- the number of zeros is a sum
pub count : (T : Trail) (n : ℕ) → length (zeros_in T 0 n) ≡ sum n (λ p. tally (T.zero_at p))
unfolding zeros_in sum
count T zero = refl
count T (suc n) =
    let s : suc n ≡ n + 1 = omega arith in
    ap (λ (k : ℕ). length (zeros_in T 0 k)) s ∙ near T n ∙ ap (λ (k : ℕ). k + tally (T.zero_at n)) (count T n)
  where
    one : (T : Trail) (p : ℕ) → length (zeros_in T p 1) ≡ tally (T.zero_at p)
    one T p = go (T.zero_at p)
      where
        go : (z : Bool) → length (listed z (T.entry p) (zeros_in T (suc p) 0)) ≡ tally z
        go true = refl
        go false = refl

    near : (T : Trail) (n : ℕ) → length (zeros_in T 0 (n + 1)) ≡ length (zeros_in T 0 n) + tally (T.zero_at n)
    near T n =
        ap length (zeros_add T 0 n 1) ∙ length-append (zeros_in T 0 n) (zeros_in T (0 + n) 1)
        ∙ ap (λ (k : ℕ). length (zeros_in T 0 n) + k) (one T (0 + n) ∙ ap (λ (k : ℕ). tally (T.zero_at k)) (zero-add n))

-- the theorem, over any walk whose zeros are those of m functions of degree d
module _ (d n m : ℕ) (F : ℕ → Fun) (few : Few d m n) (ext : (e : ℕ) → Ext 3 (F e)) (degree : (e : ℕ) → Flat 3 (suc d) (F e)) where
  pub warning : (T : Trail) → ((p : ℕ) → p < 3 ^ n → T.zero_at p ≡ zeros 3 m (λ e. F e (point_digit 3 p))) → length (zeros_in T 0 (3 ^ n)) % 3 ≡ 0
  warning T z =
      (cof (count T (3 ^ n) ∙ sum_ext (3 ^ n) (λ p. tally (T.zero_at p)) (λ p. tally (zeros 3 m (λ e. F e (point_digit 3 p)))) (λ p h. ap tally (z p h)))
      ⨾ sum_cong 3 (3 ^ n) (λ p. tally (zeros 3 m (λ e. F e (point_digit 3 p)))) (λ p. all_none m F (point_digit 3 p)) (λ p h. csym (all_is m F (point_digit 3 p)))
      ⨾ sum_flat n (all_none m F) (all_ext m F ext) (flat_le 3 pos (suc (2 * d * m)) (2 * n) (all_none m F) (less d m n few) (all_flat d m F ext degree))).same
    where
      less : (d m n : ℕ) → Few d m n → suc (2 * d * m) ≤ 2 * n
      less d m n l = omega arith

  -- so the zeros that a whole walk has, and those that a run of calls found whose last answer is "ended"
  pub walk_warning : length (zeros_in (trail_of 3 d F n m (3 ^ n)) 0 (3 ^ n)) % 3 ≡ 0
  walk_warning = warning (trail_of 3 d F n m (3 ^ n)) (λ p h. refl)

  pub run_warning : {S : Type 0} (at : ℕ → S) (E : Engine S) (qs : List Request) → Serves (trail_of 3 d F n m (3 ^ n)) at E
      → SaysEnded (sums_of E (at 0) qs).told → (sums_of E (at 0) qs).found % 3 ≡ 0
  run_warning at E qs serves e =
      ap (λ (x : ℕ). x % 3) (whole_run (trail_of 3 d F n m (3 ^ n)) at E serves qs (one-le-pow n 3 pos) e).found ∙ walk_warning

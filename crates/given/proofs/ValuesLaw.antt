-- The system behind a table as functions of points: what its values depend on, and their degree.
use mathlib.Core.Path.{◌≡◌, refl}
use mathlib.Core.List.{List}
use mathlib.Core.Logic.{by_cases}
use Prim.Native.Nat.{ℕ, suc, ◌+◌, ◌-◌, ◌*◌, ◌≤◌, ◌<◌}
use native.Mathlib.Decide.{ℕ_discrete}
use native.Mathlib.Omega.{arith}
use Rattle.residues.specs.Sums.{sum}
use Rattle.residues.proofs.ModLaw.{Cong, crefl, cof, csym, ◌⨾◌, cadd, cmul}
use Rattle.residues.proofs.SumLaw.{sum_cong}
use Rattle.held.proofs.FlatLaw.{Flat, Ext}
use Rattle.polynomials.specs.Poly.{Poly, value_of}
use Rattle.polynomials.proofs.PolyLaw.{value_ext}
use Rattle.polynomials.proofs.TermsLaw.{flat_value, ext_value}
use Rattle.cubics.specs.Cubic.{Cubic, low_of, cubes_of, cubic_of}
use Rattle.cubics.proofs.CubicLaw.{flat_cubic, ext_cubic, cubic_below}
use Rattle.tables.proofs.AgreeLaw.{Agree}
use Rattle.cubic_tables.proofs.WordsLaw.{Alike}
use Rattle.given.specs.declared.Degree.{Degree}
use Rattle.given.specs.declared.Degree.TheVariants.{Two, Three}
use Rattle.given.specs.Given.{Given, depth_of, quadratic, cubic, behind, cubic_behind, values_in, values_of}

-- each equation looks at the unknowns below n alone
values_in_lem : (d : Degree) (n : ℕ) (t : List ℕ) (e : ℕ) (x y : ℕ → ℕ) → ((k : ℕ) → k < n → x k ≡ y k) → values_in d n t e x ≡ values_in d n t e y
values_in_lem Two n t e x y h = value_ext (behind n t e) n x y h
values_in_lem Three n t e x y h = cubic_below (cubic_behind n t e) n x y h

pub values_at_lem : (g : Given) (e : ℕ) (x y : ℕ → ℕ) → ((k : ℕ) → k < g.n → x k ≡ y k) → values_of g e x ≡ values_of g e y
unfolding values_of
values_at_lem g e x y h = values_in_lem g.degree g.n g.words e x y h

-- they are the values of polynomials
pub values_behind : (n m : ℕ) (t : List ℕ) → values_of (quadratic n m t) ≡ (λ e. value_of (behind n t e) n)
unfolding values_of
values_behind n m t = refl

pub values_cubic : (n m : ℕ) (t : List ℕ) → values_of (cubic n m t) ≡ (λ e. cubic_of (cubic_behind n t e) n)
unfolding values_of
values_cubic n m t = refl

-- of the degree that was told, in any base
module _ (q : ℕ) (pos : 0 < q) where
  flat_in : (d : Degree) (n : ℕ) (t : List ℕ) (e : ℕ) → Flat q (suc (depth_of d)) (values_in d n t e)
  flat_in Two n t e = flat_value q pos (behind n t e) n
  flat_in Three n t e = flat_cubic q pos (cubic_behind n t e) n

  ext_in : (d : Degree) (n : ℕ) (t : List ℕ) (e : ℕ) → Ext q (values_in d n t e)
  ext_in Two n t e = ext_value q pos (behind n t e) n
  ext_in Three n t e = ext_cubic q pos (cubic_behind n t e) n

  pub flat_values : (g : Given) (e : ℕ) → Flat q (suc (depth_of g.degree)) (values_of g e)
  unfolding values_of
  flat_values g e = flat_in g.degree g.n g.words e

  pub ext_values : (g : Given) (e : ℕ) → Ext q (values_of g e)
  unfolding values_of
  ext_values g e = ext_in g.degree g.n g.words e

-- polynomials that agree modulo q have the same values
pub value_agree : (q n : ℕ) (f h : Poly) → Agree q n f h → (x : ℕ → ℕ) → Cong q (value_of f n x) (value_of h n x)
unfolding value_of
value_agree q n f h a x =
    cadd (cadd a.const (sum_cong q n (λ i. f.lin i * x i) (λ i. h.lin i * x i) (λ i l. cmul (a.lin i l) (crefl (x i)))))
    (sum_cong q n (λ i. sum (n - i) (λ d. f.quad i (i + d) * (x i * x (i + d)))) (λ i. sum (n - i) (λ d. h.quad i (i + d) * (x i * x (i + d))))
    (λ i l. sum_cong q (n - i) (λ d. f.quad i (i + d) * (x i * x (i + d))) (λ d. h.quad i (i + d) * (x i * x (i + d)))
    (λ d m. cmul (a.quad i (i + d) (omega arith) (omega arith)) (crefl (x i * x (i + d))))))

-- cubics too, where neither has a term xi·xi·xi
pub cubic_agree : (n : ℕ) (f h : Cubic) → Alike n f h → ((i : ℕ) → f.cube i i i ≡ 0) → ((i : ℕ) → h.cube i i i ≡ 0) → (x : ℕ → ℕ) → Cong 3 (cubic_of f n x) (cubic_of h n x)
unfolding cubic_of cubes_of
cubic_agree n f h a zf zh x =
    cadd (value_agree 3 n (low_of f) (low_of h) (record { const = a.const; lin = a.lin; quad = a.quad }) x)
    (sum_cong 3 n (λ i. sum (n - i) (λ d. sum (n - (i + d)) (λ e. over f i d e))) (λ i. sum (n - i) (λ d. sum (n - (i + d)) (λ e. over h i d e)))
    (λ i l. sum_cong 3 (n - i) (λ d. sum (n - (i + d)) (λ e. over f i d e)) (λ d. sum (n - (i + d)) (λ e. over h i d e))
    (λ d m. sum_cong 3 (n - (i + d)) (λ e. over f i d e) (λ e. over h i d e)
    (λ e k. cmul (cube i (i + d) (i + d + e) (omega arith) (omega arith) (omega arith)) (crefl (x i * (x (i + d) * x (i + d + e))))))))
  where
    over : Cubic → ℕ → ℕ → ℕ → ℕ
    over f i d e = f.cube i (i + d) (i + d + e) * (x i * (x (i + d) * x (i + d + e)))

    cube : (i j k : ℕ) → i ≤ j → j ≤ k → k < n → Cong 3 (f.cube i j k) (h.cube i j k)
    cube i j k l m s = by_cases (ℕ_discrete i k)
        (λ (e : i ≡ k). let r : j ≡ k = omega arith in rw (e, r) (cof (zf k) ⨾ csym (cof (zh k))))
        (λ d. a.cube i j k l m (omega arith) s)

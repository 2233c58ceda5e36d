-- Degree 2: the table is a line of the slopes, so that one definition serves the tables of both degrees.
use mathlib.Core.Path.{◌≡◌, refl, sym, ap₂, ◌∙◌}
use mathlib.Core.Logic.{by_cases}
use Prim.Native.Nat.{ℕ, zero, suc, ◌+◌, ◌-◌, ◌*◌, ◌<◌, ◌≤◌}
use native.Mathlib.Decide.{ℕ_discrete}
use native.Mathlib.Omega.{arith}
use Rattle.residues.proofs.ModLaw.{Cong, cof, ◌⨾◌}
use Rattle.polynomials.specs.Poly.{Poly, slope, prev, table_of}
use Rattle.polynomials.proofs.PolyLaw.{slope_self, slope_above, slope_below}
use Rattle.polynomials.proofs.TableLaw.{table_same, table_other}
use Rattle.cubics.specs.Rows.{under_of, line_of}
use Rattle.held.proofs.ApartLaw.{minus}
use Rattle.cubics.proofs.TripleLaw.{line_self, line_other}

under_prev : (f : Poly) (b : ℕ) → under_of (slope f b) b ≡ prev f b
unfolding under_of prev
under_prev f zero = refl
under_prev f (suc b) = slope_below f (suc b) b (omega arith)

module _ (q : ℕ) (two : 1 < q) where
  pub quad_line : (f : Poly) (b c : ℕ) → b ≤ c → Cong q ((table_of q f).quad b c) (line_of q 1 (slope f b) b c)
  quad_line f b c l =
      by_cases (ℕ_discrete c b)
      (λ (e : c ≡ b). rw e (minus q two 0 ((table_of q f).quad b b) (2 * f.quad b b) (prev f b) (table_same q two f b ⨾ cof (none (2 * f.quad b b)))
      ⨾ cof (none' _ ∙ ap₂ (λ (x y : ℕ). x + (q - 1) * y) (sym (slope_self f b)) (sym (under_prev f b)) ∙ sym (line_self q 1 (slope f b) b))))
      (λ n. minus q two 0 ((table_of q f).quad b c) (f.quad b c + 2 * f.quad b b) (2 * prev f b) (table_other q two f b c (λ e. n (sym e)) ⨾ cof (none _))
      ⨾ cof (none' _ ∙ ap₂ (λ (x y : ℕ). x + (q - 1) * (2 * y)) (ap₂ (λ (x y : ℕ). x + y) (sym (slope_above f b c (omega arith))) (sym (slope_self f b)) ∙ turn _ _) (sym (under_prev f b)) ∙ sym (line_other q 1 (slope f b) b c n)))
    where
      none : (a : ℕ) → a ≡ 0 + a
      none a = omega arith

      none' : (a : ℕ) → 0 + a ≡ a
      none' a = omega arith

      turn : (a b : ℕ) → a + b ≡ 1 * b + a
      turn a b = omega arith

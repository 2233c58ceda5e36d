-- `residues::remainder` meets its contract: each need is a test at the 256 numbers of an i8.
use mathlib.Core.Path.{◌≡◌, refl, sym, subst}
use mathlib.Core.Bool.{Bool, true, ◌||◌}
use lib.Dec.{T, lit<, ltb, eqb}
use lib.IntN.{ℤ, pos, nat_abs, ◌+ℤ◌}
use lib.Signed.{mag, non_neg, lt_z, quot_z, rem_z}
use mir.Syntax.{w8}
use mir.Val.{to_z, of_z}
use borrow.Author.Tests.{ltb-true, eqb-true}
use Rattle.residues.specs.Residue.{floor_mod}
use Rattle.residues.proofs.Every.{imp, at_i8}
use Rattle.residues.proofs.FloorLaw.{reduced}
use Rattle.residues.proofs.remainder.Goals as goal

-- a number as a local holds it
abbrev held : ℤ → ℤ
held z = to_z w8 (of_z w8 z)

abbrev rem : ℤ → ℤ
rem z = held (rem_z (held z) (pos 3))

abbrev below_zero : ℤ → Bool
below_zero z = lt_z (rem z) (pos 0)

abbrev more : ℤ → ℤ
more z = rem z +ℤ pos 3

true_T : (b : Bool) → b ≡ true → T b
true_T b t = subst T (sym t) tt

pub nonzero_rem-r : goal.nonzero_rem-r
nonzero_rem-r c = (lit< tt, record { sfits = ltb-true _ _ (at_i8 (λ z. ltb (mag (quot_z (held z) (pos 3))) 128) refl c.args.c c.ranges.c) })

pub overflow_add-result : goal.overflow_add-result
overflow_add-result c = record { sfits = ltb-true _ _ (simp c.if-r-lt0.true at (at_i8 (λ z. imp (below_zero z) (ltb (mag (more z)) 128)) refl c.args.c c.ranges.c)) }

pub overflow_cast-result : goal.overflow_cast-result
overflow_cast-result c = (
  true_T _ (simp c.if-r-lt0.true at (at_i8 (λ z. imp (below_zero z) (non_neg (held (more z)))) refl c.args.c c.ranges.c)),
  record { fits = ltb-true _ _ (simp c.if-r-lt0.true at (at_i8 (λ z. imp (below_zero z) (ltb (nat_abs (held (more z))) 256)) refl c.args.c c.ranges.c)) },
)

pub overflow_cast-result-else-r-lt0 : goal.overflow_cast-result-else-r-lt0
overflow_cast-result-else-r-lt0 c = (
  true_T _ (simp c.if-r-lt0.false at (at_i8 (λ z. below_zero z || non_neg (rem z)) refl c.args.c c.ranges.c)),
  record { fits = ltb-true _ _ (simp c.if-r-lt0.false at (at_i8 (λ z. below_zero z || ltb (nat_abs (rem z)) 256) refl c.args.c c.ranges.c)) },
)

pub returns-then-r-lt0 : goal.returns-then-r-lt0
returns-then-r-lt0 c = reduced (eqb-true _ _ (simp c.if-r-lt0.true at (at_i8 (λ z. imp (below_zero z) (eqb (nat_abs (held (more z))) (floor_mod 3 z))) refl c.args.c c.ranges.c)))

pub returns-else-r-lt0 : goal.returns-else-r-lt0
returns-else-r-lt0 c = reduced (eqb-true _ _ (simp c.if-r-lt0.false at (at_i8 (λ z. below_zero z || eqb (nat_abs (rem z)) (floor_mod 3 z)) refl c.args.c c.ranges.c)))

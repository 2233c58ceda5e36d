-- `evaluation::digits` meets its contract. The invariant: the digits before the next are written, and `rest` is what is left of x.
use mathlib.Core.Path.{ap, ◌∙◌}
use Prim.Native.Nat.{ℕ, ◌/◌, ◌%◌}
use native.Mathlib.Omega.{arith}
use lib.ListN.{length-set}
use Rattle.evaluation.proofs.EvaluateLaw.{part_next, digits_next}
use Rattle.evaluation.proofs.digits.Goals as goal

pub loop-digit-preserved : goal.loop-digit-preserved
loop-digit-preserved c =
    let l = c.loop-digit in
    let x = c.args.x in
    (length-set l.digit-items l.digit-index (l.rest % 3) ∙ l.invariant.0, ap (λ (y : ℕ). y / 3) l.invariant.1 ∙ part_next x l.digit-index, digits_next x l.digit-items l.digit-index l.rest (omega (arith, l.invariant.0)) l.invariant.1 l.invariant.2)

-- `moves::jot` meets its contract.
use mathlib.Core.Path.{◌≡◌, sym, ◌∙◌}
use mathlib.Core.Bool.{true, false}
use native.Mathlib.Omega.{arith}
use Rattle.trits.specs.Words.{is_zero}
use Rattle.moves.proofs.jot.Goals as goal

pub returns-then-is_zero : goal.returns-then-is_zero
returns-then-is_zero c =
    let e : is_zero c.args.value ≡ true = sym c.is_zero.ensures.word ∙ c.if-is_zero.true in record { count = rw e; list = rw e; bound = (omega arith, omega arith) }

pub returns-else-is_zero : goal.returns-else-is_zero
returns-else-is_zero c =
    let e : is_zero c.args.value ≡ false = sym c.is_zero.ensures.word ∙ c.if-is_zero.false in record { count = rw e; list = rw e; bound = (omega arith, omega arith) }

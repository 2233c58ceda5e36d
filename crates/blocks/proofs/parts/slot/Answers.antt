-- `blocks::parts::slot` meets its contract.
use mathlib.Core.Path.{◌≡◌}
use native.Mathlib.Omega.{arith}
use Rattle.blocks.proofs.parts.slot.Goals as goal

pub returns-in-0 : goal.returns-in-0
returns-in-0 c = λ rest l. rw c.in-0.is

pub returns-in-1 : goal.returns-in-1
returns-in-1 c = λ rest l. rw c.in-1.is

pub returns-in_default : goal.returns-in_default
returns-in_default c =
    let e : c.args.b ≡ 2 = omega (arith, c.requires, c.in_default) in
    λ rest l. rw e

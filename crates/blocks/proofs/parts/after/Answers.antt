-- `blocks::parts::after` meets its contract.
use mathlib.Core.Path.{◌≡◌, refl}
use native.Mathlib.Omega.{arith}
use Rattle.blocks.proofs.parts.after.Goals as goal

pub returns-in-0 : goal.returns-in-0
returns-in-0 c = record { state = (λ rest l. rw c.in-0.is); counts = (refl, refl, refl) }

pub returns-in-1 : goal.returns-in-1
returns-in-1 c = record { state = (λ rest l. rw c.in-1.is); counts = (refl, refl, refl) }

pub returns-in_default : goal.returns-in_default
returns-in_default c =
    let e : c.args.b ≡ 2 = omega (arith, c.requires, c.in_default) in
    record { state = (λ rest l. rw e); counts = (refl, refl, refl) }

-- `wire::no_seconds` meets its contract: no byte so far is other than zero, and what is left decides.
use mathlib.Core.Path.{refl, ◌∙◌}
use native.Mathlib.Omega.{arith}
use Rattle.wire.proofs.ZeroLaw.{any_go, any_end, seconds_zero}
use Rattle.wire.proofs.no_seconds.Goals as goal

pub loop-i-init : goal.loop-i-init
loop-i-init c = refl

pub loop-i-preserved : goal.loop-i-preserved
loop-i-preserved c =
    let l = c.loop-i in
    any_go c.args.b.now l.any l.i _ l.invariant (omega (arith, c.requires))

pub returns : goal.returns
returns c =
    let l = c.loop-i in
    let b = c.args.b.now in
    any_end b l.any l.i _ l.invariant (omega (arith, c.requires, c.loop-i-test)) ∙ seconds_zero b c.requires

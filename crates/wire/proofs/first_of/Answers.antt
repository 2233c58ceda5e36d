-- `wire::first_of` meets its contract: after i turns the first i slots are read.
use mathlib.Core.Path.{refl, ap, ◌∙◌}
use mathlib.Core.List.{List}
use native.Mathlib.Omega.{arith}
use lib.ListN.{get_or, length-set}
use Rattle.trits.specs.declared.Vector.{Vector}
use Rattle.wire.specs.Wire.{first_with}
use Rattle.wire.proofs.WireLaw.{read_turn, read_end}
use Rattle.wire.proofs.first_of.Goals as goal

pub loop-i-preserved : goal.loop-i-preserved
loop-i-preserved c =
    let l = c.loop-i in
    let i = l.invariant in
    (length-set l.slots l.i _ ∙ i.0, read_turn c.args.w.now l.slots l.i _ c.requires i.0 (omega arith) refl ∙ i.1)

pub returns : goal.returns
returns c =
    let l = c.loop-i in
    let w = c.args.w.now in
    ap (λ (u : List Vector). record (first_with w) { slots = u }) (read_end w l.slots l.i c.requires l.invariant.0 (omega arith) l.invariant.1)

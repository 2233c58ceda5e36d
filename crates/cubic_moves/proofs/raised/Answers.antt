-- `cubic_moves::raised` meets its contract.
use mathlib.Core.Path.{ap, ◌∙◌}
use Rattle.trits.specs.declared.Vector.{Vector}
use Rattle.trits.specs.Words.{add_of}
use Rattle.cubic_moves.proofs.raised.Goals as goal

pub returns : goal.returns
returns c =
    let v = c.plus-u.ensures in
    record { sum = (v.0 ∙ ap (λ (x : Vector). add_of x c.args.t) c.vector-old.ensures, v.1); seconds = c.put_entry.ensures }

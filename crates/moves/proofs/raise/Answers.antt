-- `moves::raise` meets its contract: two additions.
use mathlib.Core.Path.{ap, ◌∙◌}
use native.Mathlib.Omega.{arith}
use Rattle.trits.specs.Words.{add_of}
use Rattle.moves.proofs.raise.Goals as goal

pub returns : goal.returns
returns c =
    let p = c.plus-s.ensures in
    let q = c.plus-v.ensures in
    (p.0, q.0 ∙ ap (add_of _) p.0, omega (arith, p.1, q.1))

-- `search::parts::first_for` meets its contract: n by the second slots, the rest as it is.
use mathlib.Core.Path.{ap, ◌∙◌}
use Rattle.outcomes.specs.First.{n_for}
use Rattle.search.proofs.parts.first_for.Goals as goal

pub returns : goal.returns
returns c =
    let r = c.args.r in
    let e = c.n_for-n.ensures ∙ ap (n_for c.args.degree r.n) c.no_seconds.ensures in
    rw (c.first.ensures, e)

-- `search_calls::first_in` meets its contract: n by the second slots, the rest as it is read.
use mathlib.Core.Path.{ap, ap₂, ◌∙◌}
use mathlib.Core.Bool.{Bool}
use Prim.Native.Nat.{ℕ}
use Rattle.opening.specs.declared.First.{First}
use Rattle.outcomes.specs.First.{n_for}
use Rattle.search_calls.proofs.first_in.Goals as goal

pub returns : goal.returns
returns c =
    let f = c.read_first-f.result in
    ap (λ (n : ℕ). record { n = n; m = f.m; place = f.place; value = f.value; slots = f.slots }) c.n_for-n.ensures
    ∙ ap₂ (λ (x : First) (z : Bool). record { n = n_for c.args.degree x.n z; m = x.m; place = x.place; value = x.value; slots = x.slots }) c.read_first-f.ensures c.no_seconds.ensures

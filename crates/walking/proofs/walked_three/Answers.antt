-- `walking::walked_three` meets its contract: the walk from the opened record.
use mathlib.Core.Path.{ap, ◌∙◌}
use mathlib.Core.List.{List}
use Prim.Native.Nat.{ℕ}
use Rattle.cubic_walk.specs.Run.{fresh, search_of}
use Rattle.given.specs.declared.Degree.TheVariants.{Three}
use Rattle.opening.specs.First.{whole_of}
use Rattle.walking.proofs.ThreeLaw.{three_leaves}
use Rattle.walking.proofs.walked_three.Goals as goal

pub returns : goal.returns
returns c =
    let a = c.args in
    let x = c.run-t in
    three_leaves a.table.n a.table.m a.table.words.now c.requires.0 (whole_of Three a.s a.seconds.now) c.requires.1 a.budget a.end a.list.now _ x.result c.requires.2
    x.type_inv.1.1.0.1.1.1.1.0.1.0.1
    (x.ensures.state ∙ ap (λ (y : List ℕ). search_of a.table.words.now a.table.n a.end a.budget (fresh (record { place = a.s.place.0; value = a.s.value; slots = a.s.slots; seconds = y }) a.list.now)) c.copy_from_slice.ensures.after)
    _ c.copy_from_slice-2.ensures.after

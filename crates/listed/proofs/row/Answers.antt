-- `listed::row` meets its contract: the terms are the entries of the listed unknowns.
use Rattle.std.proofs.Common.{rules, ◌≡◌, ◌+◌, get_or}
use Rattle.tables.specs.Words.{entry}
use Rattle.listed.proofs.row.Goals as goal

pub returns : goal.returns
returns c =
    let a = c.args in
    λ m n i x s h j o y z w.
    c.summed.ensures m n i x s h j o y z (λ t v p q r. let e : v ≡ entry a.table.now (a.base + get_or a.list.now.at t 0) = search rules in rw e (w t p q))

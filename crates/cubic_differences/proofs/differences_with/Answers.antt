-- `cubic_differences::differences_with` meets its contract.
use mathlib.Core.Path.{sym, ap, ◌∙◌}
use Prim.Native.Nat.{ℕ, ◌*◌}
use native.Mathlib.Omega.{arith}
use lib.ListN.{length, take}
use lib.Seq.{length-take-le}
use Rattle.tables.specs.Monomials.{count_of}
use Rattle.tables.specs.Words.{Table, differences_of}
use Rattle.tables.proofs.RoundLaw.{differences_table}
use Rattle.cubic_tables.specs.Order.{cubic_count}
use Rattle.cubic_tables.specs.Words.{cubic_differences}
use Rattle.cubic_tables.proofs.OrderLaw.{cubic_count_low}
use Rattle.brackets.proofs.BracketLaw.{known_self}
use Rattle.cubic_differences.proofs.FormLaw.{take_table, cubic_differences_table, differences_made, differences_shifted, whole_is}
use Rattle.cubic_differences.proofs.differences_with.Goals as goal

pub slice_bounds-differences_into-end : goal.slice_bounds-differences_into-end
slice_bounds-differences_into-end c =
    let a = c.args in
    let q = c.requires in
    let n = a.n in
    sym (length-take-le (length a.low.now) a.from.now (omega (arith, q.1, q.3, cubic_count_low n)))

pub differences_into-requires : goal.differences_into-requires
differences_into-requires c =
    let a = c.args in
    let q = c.requires in
    let n = a.n in
    (q.0, length-take-le (length a.low.now) a.from.now (omega (arith, q.1, q.3, cubic_count_low n)) ∙ q.3, q.3)

pub shift-requires : goal.shift-requires
shift-requires c =
    let a = c.args in
    let q = c.requires in
    let n = a.n in
    (q.0, q.1, omega (arith, q.3, c.differences_into.auto.to), omega (arith, q.2, cubic_count_low n))

pub returns : goal.returns
returns c =
    let a = c.args in
    let q = c.requires in
    let n = a.n in
    let f = a.from.now in
    λ m w.
    let g = cubic_differences n m f in
    let t : Table n m (take (length a.low.now) f) = rw q.3 (take_table n m f w) in
    let e = c.differences_into.ensures m t ∙ ap (λ (k : ℕ). differences_of n m (take k f)) q.3 in
    whole_is n m g a.to.now _ _ (cubic_differences_table n m f) q.2
    (c.shift.ensures m f g (known_self n m f (cubic_count n) w) (λ k h. rw e ((differences_table n m (take (2 * count_of n) f)).legal k h)) (rw e (differences_shifted n m f w)))
    (c.turn_triples.ensures m g w (cubic_differences_table n m f) (differences_made n m f w))

-- `cubic_coefficients::coefficients_with` meets its contract.
use mathlib.Core.Path.{◌≡◌, sym, ap, ◌∙◌}
use mathlib.Core.List.{List, ◌++◌}
use Prim.Native.Nat.{ℕ}
use native.Mathlib.Omega.{arith}
use lib.ListN.{length, drop}
use lib.Seq.{length-take-le}
use Rattle.tables.specs.Monomials.{count_of}
use Rattle.tables.specs.Words.{entry, coefficients_of}
use Rattle.tables.proofs.RoundLaw.{coefficients_table}
use Rattle.cubic_tables.specs.Order.{cubic_count}
use Rattle.cubic_tables.specs.Words.{cubic_coefficients}
use Rattle.cubic_tables.proofs.OrderLaw.{cubic_count_low}
use Rattle.cubic_turns.proofs.LoopLaw.{known_written}
use Rattle.cubic_differences.proofs.FormLaw.{cubic_coefficients_table}
use Rattle.tables.proofs.WriteLaw.{written_all}
use Rattle.cubic_coefficients.proofs.ReturnLaw.{coefficients_made, coefficients_shifted, low_words, low_table_lem, low_back_is, back_whole}
use Rattle.cubic_coefficients.proofs.coefficients_with.Goals as goal

pub shift-requires : goal.shift-requires
shift-requires c =
    let a = c.args in
    let q = c.requires in
    let n = a.n in
    (q.0, c.turn_triples.auto.to ∙ q.2, omega (arith, q.1, cubic_count_low n), omega (arith, q.3))

pub slice_bounds-coefficients_into-end : goal.slice_bounds-coefficients_into-end
slice_bounds-coefficients_into-end c =
    let a = c.args in
    let q = c.requires in
    let n = a.n in
    omega (arith, q.2, q.3, cubic_count_low n, c.turn_triples.auto.to)

pub slice_bounds-coefficients_into-end-2 : goal.slice_bounds-coefficients_into-end-2
slice_bounds-coefficients_into-end-2 c =
    let a = c.args in
    let q = c.requires in
    let n = a.n in
    sym (length-take-le (length a.low.now) _ (omega (arith, q.2, q.3, cubic_count_low n, c.turn_triples.auto.to)))

pub coefficients_into-requires : goal.coefficients_into-requires
coefficients_into-requires c =
    let a = c.args in
    let q = c.requires in
    let n = a.n in
    (q.0, c.shift.auto.to ∙ q.3, length-take-le (length a.low.now) _ (omega (arith, q.2, q.3, cubic_count_low n, c.turn_triples.auto.to)) ∙ q.3)

pub returns : goal.returns
returns c =
    let a = c.args in
    let q = c.requires in
    let n = a.n in
    let f = a.from.now in
    let t = c.turn_triples.new.to in
    let x = c.coefficients_into.new.to in
    λ m w.
    let g = cubic_coefficients n m f in
    let k = cubic_coefficients_table n m f in
    let y = c.turn_triples.ensures m g w k (coefficients_made n m f) in
    let s = c.shift.ensures m g (low_words n m f) (known_written n m g a.to.now t (cubic_count n) k y) (λ j h. w.legal j (omega (arith, cubic_count_low n))) (coefficients_shifted n m f w) in
    let e = written_all (count_of n) (low_words n m f) a.low.now _ (low_table_lem n m f).size q.3 s in
    let u : x ≡ coefficients_of n m (low_words n m f) = c.coefficients_into.ensures m (rw e (low_table_lem n m f)) ∙ ap (coefficients_of n m) e in
    ap (λ (j : ℕ). x ++ drop j t) q.3
    ∙ back_whole n m g a.to.now t x k q.2 (ap length u ∙ (coefficients_table n m (low_words n m f)).size) (λ j h. ap (λ (l : List ℕ). entry l j) u ∙ low_back_is n m f j h) y

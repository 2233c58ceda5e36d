-- `lists::part` meets its contract: the search's list is the front of the words, and its first entries are encoded.
use mathlib.Core.Path.{sym, ap, ◌∙◌}
use mathlib.Core.List.{List, ◌++◌}
use Prim.Native.Nat.{ℕ, ◌*◌, ◌≤◌}
use native.Mathlib.Omega.{arith}
use lib.ListN.{length, take, drop}
use lib.Seq.{length-take-le}
use Rattle.given.specs.Told.{told}
use Rattle.walks.specs.declared.Report.{Report}
use Rattle.codec.specs.Codec.{bytes_from, pasted}
use Rattle.outcomes.specs.Search.{ran_of}
use Rattle.outcomes.specs.First.{outcome_with}
use Rattle.lists.specs.Listed.{found_in}
use Rattle.lists.proofs.PieceLaw.{piece_outcome, piece_fits, piece_long, piece_listed, piece_size}
use Rattle.lists.proofs.part.Goals as goal

pub slice_bounds-ran-end-2 : goal.slice_bounds-ran-end-2
slice_bounds-ran-end-2 c =
    let a = c.args in
    sym (length-take-le c.min-c.result a.words.now (omega (arith, c.min-c.ensures)))

pub slice_bounds-encode-end : goal.slice_bounds-encode-end
slice_bounds-encode-end c =
    let a = c.args in
    let n = c.min-c.result in
    let h : n ≤ length a.words.now = omega (arith, c.min-c.ensures) in
    let e = ap (λ (w : Report). w.found) c.did-k.ensures in
    omega (arith, e, piece_fits (told a.table) a.f.place.0 a.left n a.words.now c.ran-o.new.list (outcome_with a.table.degree c.ran-o.result c.ran-o.new.seconds) h c.ran-o.ensures.0 c.ran-o.ensures.1, piece_long (told a.table) a.f.place.0 a.left n a.words.now c.ran-o.new.list (outcome_with a.table.degree c.ran-o.result c.ran-o.new.seconds) h c.ran-o.ensures.0 c.ran-o.ensures.1, h)

pub slice_bounds-encode-end-2 : goal.slice_bounds-encode-end-2
slice_bounds-encode-end-2 c =
    let a = c.args in
    let n = c.min-c.result in
    let h : n ≤ length a.words.now = omega (arith, c.min-c.ensures) in
    let e = ap (λ (w : Report). w.found) c.did-k.ensures in
    e ∙ sym (piece_size (told a.table) a.f.place.0 a.left n a.words.now c.ran-o.new.list (outcome_with a.table.degree c.ran-o.result c.ran-o.new.seconds) h c.ran-o.ensures.0 c.ran-o.ensures.1) ∙ ap (λ (i : ℕ). length (take i (c.ran-o.new.list ++ drop n a.words.now))) (sym e)

pub encode-requires : goal.encode-requires
encode-requires c =
    let a = c.args in
    let n = c.min-c.result in
    let h : n ≤ length a.words.now = omega (arith, c.min-c.ensures) in
    let e = ap (λ (w : Report). w.found) c.did-k.ensures in
    let i = ap (λ (i : ℕ). length (take i (c.ran-o.new.list ++ drop n a.words.now))) e ∙ piece_size (told a.table) a.f.place.0 a.left n a.words.now c.ran-o.new.list (outcome_with a.table.degree c.ran-o.result c.ran-o.new.seconds) h c.ran-o.ensures.0 c.ran-o.ensures.1 in
    omega (arith, i, piece_fits (told a.table) a.f.place.0 a.left n a.words.now c.ran-o.new.list (outcome_with a.table.degree c.ran-o.result c.ran-o.new.seconds) h c.ran-o.ensures.0 c.ran-o.ensures.1, c.min-c.ensures, c.requires.2)

pub returns : goal.returns
returns c =
    let a = c.args in
    let n = c.min-c.result in
    let h : n ≤ length a.words.now = omega (arith, c.min-c.ensures) in
    let e = ap (λ (w : Report). w.found) c.did-k.ensures in
    let i = c.min-c.ensures in (
      piece_outcome (told a.table) a.f.place.0 a.left n a.words.now c.ran-o.new.list (outcome_with a.table.degree c.ran-o.result c.ran-o.new.seconds) h c.ran-o.ensures.0 c.ran-o.ensures.1 ∙ ap (ran_of (told a.table) a.f.place.0 a.left) i,
      c.encode.ensures
          ∙ ap (λ (f : List ℕ). pasted a.list.now (8 * a.at) (bytes_from f)) (
          ap (λ (j : ℕ). take j (c.ran-o.new.list ++ drop n a.words.now)) e ∙ piece_listed (told a.table) a.f.place.0 a.left n a.words.now c.ran-o.new.list (outcome_with a.table.degree c.ran-o.result c.ran-o.new.seconds) h c.ran-o.ensures.0 c.ran-o.ensures.1
          ∙ ap (found_in (told a.table) a.f.place.0 a.left) i),
    )

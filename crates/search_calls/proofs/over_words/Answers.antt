-- `search_calls::over_words` meets its contract: the words of the table and of the record, and then the search over them.
use mathlib.Core.Path.{◌≡◌, sym, ap, ap₂, ◌∙◌}
use mathlib.Core.List.{List}
use Prim.Native.Nat.{ℕ, ◌+◌, ◌/◌}
use native.Mathlib.Omega.{arith}
use lib.ListN.{length, drop, length-drop, length-append}
use lib.Seq.{length-take-le}
use Rattle.codec.proofs.CodecLaw.{length_words, decoded}
use Rattle.given.specs.Given.{table_with}
use Rattle.opening.specs.declared.First.{First}
use Rattle.opening.specs.First.{whole_of}
use Rattle.opening.proofs.ShapeLaw.{slots_long}
use Rattle.outcomes.specs.declared.Outcome.{Outcome}
use Rattle.outcomes.proofs.FirstLaw.{lent_most}
use Rattle.lists.specs.Listed.{outcome_in, list_in}
use Rattle.search_calls.proofs.WritesLaw.{seconds_lent, writes}
use Rattle.search_calls.proofs.over_words.Goals as goal

pub slice_bounds-decode-end-2 : goal.slice_bounds-decode-end-2
slice_bounds-decode-end-2 c =
    let a = c.args in
    sym (length-take-le (length a.table.now / 8) a.words.now c.requires.0)

pub decode-requires : goal.decode-requires
decode-requires c =
    let a = c.args in
    omega (arith, length-take-le (length a.table.now / 8) a.words.now c.requires.0)

pub read_seconds-requires : goal.read_seconds-requires
read_seconds-requires c = (c.requires.2, omega (arith, c.requires.1, lent_most c.args.degree))

pub search_parts-o-requires : goal.search_parts-o-requires
search_parts-o-requires c = c.read_seconds.auto.s ∙ c.requires.1

pub finish_parts-requires : goal.finish_parts-requires
finish_parts-requires c =
    let k = c.search_parts-o.auto.seconds in
    let j = c.read_seconds.auto.s in
    (c.requires.2, c.requires.3, omega (arith, k, j, c.requires.1, lent_most c.args.degree))

pub shape_of-words : goal.shape_of-words
shape_of-words c =
    let a = c.args in
    let k = length a.table.now / 8 in
    let d = c.decode in
    let x = d.new.out in
    let e : length x + length (drop k a.words.now) ≡ length a.words.now = omega (arith, length-drop k a.words.now, d.auto.out, length-take-le k a.words.now c.requires.0, c.requires.0) in
    length-append x (drop k a.words.now) ∙ e

pub returns : goal.returns
returns c =
    let a = c.args in
    let d = c.decode in
    let f = c.first_in-f in
    let r = c.read_seconds in
    let x = c.search_parts-o in
    let y = c.finish_parts in
    let s = r.new.s in
    let t = decoded (length a.table.now / 8) a.words.now a.table.now d.new.out c.requires.0 d.ensures in
    let w : List ℕ → First → Outcome = λ q g. outcome_in (table_with a.degree a.n a.m q) (whole_of a.degree g s) a.budget a.list.now in
    let v : List ℕ → First → List ℕ = λ q g. list_in (table_with a.degree a.n a.m q) (whole_of a.degree g s) a.budget a.list.now in
    writes a.degree a.n a.m _ a.«record».now s (seconds_lent a.degree a.«record».now s (length a.seconds.now) c.requires.1 r.ensures) a.budget a.list.now a.answer.now
    x.result x.new.seconds _ _ _ _ _ (x.ensures.0 ∙ ap₂ w t f.ensures) (x.ensures.1 ∙ ap₂ v t f.ensures)
    (c.power-end.ensures.0 (omega (arith, c.requires.4))) y.ensures.0 y.ensures.1 y.ensures.2
    c.requires.2 (slots_long x.result.first _ x.type_inv.1.1.1.0) (x.auto.seconds ∙ r.auto.s ∙ c.requires.1)

-- `planner::begin` meets its contract.
use mathlib.Core.Path.{sym, ap, ◌∙◌}
use mathlib.Core.List.{◌++◌}
use Prim.Native.Nat.{ℕ, ◌*◌}
use native.Mathlib.Omega.{arith}
use lib.ListN.{take, drop}
use lib.Seq.{length-take-le}
use Rattle.tables.specs.Monomials.{count_of}
use Rattle.graphs.specs.Reading.{outcome_of}
use Rattle.reader.specs.Answers.{answer_of, words_after}
use Rattle.planner.proofs.BeginLaw.{begun_refused, begun_ok, least, most, startable, begun_graph}
use Rattle.planner.proofs.begin.Goals as goal

pub words-size-requires : goal.words-size-requires
words-size-requires c =
    let e = sym c.in-Ok.is ∙ c.read.ensures.0 ∙ ap (λ (w : ℕ). answer_of (outcome_of c.args.input.now w)) c.requires.0 in
    (least c.args.input.now _ _ e, most c.args.input.now _ _ e)

pub slice_bounds-start-end-in-Ok : goal.slice_bounds-start-end-in-Ok
slice_bounds-start-end-in-Ok c = sym (length-take-le c.words-size.result c.read.new.words (omega (arith, c.words-size.ensures.1, c.read.auto.words, c.requires.0)))

pub slice_bounds-start-end-in-Ok-3 : goal.slice_bounds-start-end-in-Ok-3
slice_bounds-start-end-in-Ok-3 c = sym (length-take-le c.words-size.result c.args.table.now (omega (arith, c.words-size.ensures.1, c.requires.1)))

pub start-requires : goal.start-requires
start-requires c =
    let r = c.read in
    let x = c.args.input.now in
    let k = c.words-size in
    let e = sym c.in-Ok.is ∙ r.ensures.0 ∙ ap (λ (w : ℕ). answer_of (outcome_of x w)) c.requires.0 in
    let q = r.ensures.1 ∙ ap (λ (w : ℕ). words_after (outcome_of x w) c.args.words.now) c.requires.0 in
    let l = length-take-le k.result c.args.table.now (omega (arith, k.ensures.1, c.requires.1)) in (
      rw k.ensures.0 (startable x _ _ e c.args.words.now r.new.words (take (2 * count_of c.in-Ok.field-0.n) c.args.table.now) q (rw k.ensures.0 at (l ∙ k.ensures.0))),
      omega (arith, c.requires.2),
    )

pub returns-in-Err : goal.returns-in-Err
returns-in-Err c =
    let x = c.args.input.now in
    let p = c.put_refusal in
    begun_refused x p.new.text _ _ _ p.result
    (sym c.in-Err.is ∙ c.read.ensures.0 ∙ ap (λ (w : ℕ). answer_of (outcome_of x w)) c.requires.0)
    c.number-number.ensures.0 (omega (arith, p.ensures.0.size, p.ensures.1, c.requires.2)) p.ensures.0.front

pub returns-in-Ok : goal.returns-in-Ok
returns-in-Ok c =
    let r = c.read in
    let x = c.args.input.now in
    let k = c.words-size in
    let e = sym c.in-Ok.is ∙ r.ensures.0 ∙ ap (λ (w : ℕ). answer_of (outcome_of x w)) c.requires.0 in
    let q = r.ensures.1 ∙ ap (λ (w : ℕ). words_after (outcome_of x w) c.args.words.now) c.requires.0 in
    let t = c.start in
    let l = length-take-le k.result c.args.table.now (omega (arith, k.ensures.1, c.requires.1)) in
    begun_ok x (t.new.table ++ drop k.result c.args.table.now) t.new.text _ _ t.result c.map_err.result (rw k.ensures.0 at t.ensures) c.map_err.ensures.cases
    (λ s h. begun_graph x _ _ e c.args.words.now r.new.words t.new.table (drop k.result c.args.table.now) t.new.text s q h (t.auto.table ∙ l ∙ k.ensures.0))

-- `read_calls::read_told` meets its contract: refused before the reader is asked, or as the reader answers.
use mathlib.Core.Path.{sym, ap, ◌∙◌}
use native.Mathlib.Omega.{arith}
use lib.ListN.{length}
use Rattle.refusals.specs.declared.Refusal.TheVariants as why
use Rattle.graphs.specs.Reading.{Outcome, outcome_of}
use Rattle.graphs.proofs.SoundLaw.{text_line}
use Rattle.reader.specs.Answers.{words_after, call_of}
use Rattle.reader.proofs.AnswerLaw.{graph_is, refused_is, call_long, call_told, call_reads, told_refused, told_graph}
use Rattle.read_calls.proofs.read_told.Goals as goal

pub returns-then-text-gt-TEXT_MOST : goal.returns-then-text-gt-TEXT_MOST
returns-then-text-gt-TEXT_MOST c =
    let a = c.args in
    let t = a.text.now in
    let w = length a.words.now in
    let d = length a.told.now in
    told_refused (call_of t w d) why.Long 0 c.numbered.result a.words.now a.told.now (call_long t w d c.if-text-gt-TEXT_MOST.true) c.numbered.ensures

pub returns-then-told-ne-TOLD_WORDS : goal.returns-then-told-ne-TOLD_WORDS
returns-then-told-ne-TOLD_WORDS c =
    let a = c.args in
    let t = a.text.now in
    let w = length a.words.now in
    let d = length a.told.now in
    told_refused (call_of t w d) why.Length 0 c.numbered-then-told-ne-TOLD_WORDS.result a.words.now a.told.now (call_told t w d c.if-text-gt-TEXT_MOST.false (omega arith)) c.numbered-then-told-ne-TOLD_WORDS.ensures

pub numbered-requires-in-Err : goal.numbered-requires-in-Err
numbered-requires-in-Err c =
    let a = c.args in
    let t = a.text.now in
    let w = length a.words.now in
    text_line t w c.in-Err.f.why c.in-Err.f.line c.if-text-gt-TEXT_MOST.false (refused_is (outcome_of t w) c.in-Err.f.why c.in-Err.f.line (sym c.read.ensures.0 ∙ c.in-Err.is))

pub returns-in-Err : goal.returns-in-Err
returns-in-Err c =
    let a = c.args in
    let t = a.text.now in
    let w = length a.words.now in
    let d = length a.told.now in
    let s = call_reads t w d c.if-text-gt-TEXT_MOST.false (omega arith) in
    let r = c.read.ensures in
    let f = c.in-Err.f in
    let g = refused_is (outcome_of t w) f.why f.line (sym r.0 ∙ c.in-Err.is) in
    let q = told_refused (call_of t w d) f.why f.line c.numbered-in-Err.result a.words.now a.told.now (s ∙ g) c.numbered-in-Err.ensures in
    (q.0, r.1 ∙ ap (λ (o : Outcome). words_after o a.words.now) (sym s), q.2)

pub returns-in-Ok : goal.returns-in-Ok
returns-in-Ok c =
    let a = c.args in
    let t = a.text.now in
    let w = length a.words.now in
    let d = length a.told.now in
    let s = call_reads t w d c.if-text-gt-TEXT_MOST.false (omega arith) in
    let r = c.read.ensures in
    let x = c.in-Ok.s in
    let g = graph_is (outcome_of t w) x.n x.m (sym r.0 ∙ c.in-Ok.is) in
    let q = told_graph (call_of t w d) x.n x.m g.0 a.told.now (s ∙ g.1) g.2 in
    (q.0, r.1 ∙ ap (λ (o : Outcome). words_after o a.words.now) (sym s), c.copy_from_slice.ensures.after ∙ q.1)

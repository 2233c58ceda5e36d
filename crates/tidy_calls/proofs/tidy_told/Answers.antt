-- `tidy_calls::tidy_told` meets its contract.
use mathlib.Core.Path.{sym, ap, ◌∙◌}
use lib.ListN.{length}
use Rattle.refusals.specs.declared.Refusal.TheVariants as why
use Rattle.graphs.specs.Reading.{Outcome}
use Rattle.exchange.specs.Answers.{answer_of, out_after, call_of}
use Rattle.exchange.proofs.AnswerLaw.{call_long, call_told, call_tidies, told_refused, told_tidied, call_leaves, answer_line}
use Rattle.tidy_calls.proofs.tidy_told.Goals as goal

pub returns-then-text-gt-TEXT_MOST : goal.returns-then-text-gt-TEXT_MOST
returns-then-text-gt-TEXT_MOST c =
    let a = c.args in
    let t = a.text.now in
    let room = length a.out.now in
    let d = length a.told.now in
    let e = call_long t room d c.if-text-gt-TEXT_MOST.true in
    let q = told_refused (answer_of t (call_of t room d)) why.Long 0 c.numbered.result a.told.now (sym (ap (answer_of t) e)) c.numbered.ensures in
    (q.0, call_leaves (call_of t room d) why.Long 0 a.out.now e, q.1)

pub returns-then-told-ne-TOLD_WORDS : goal.returns-then-told-ne-TOLD_WORDS
returns-then-told-ne-TOLD_WORDS c =
    let a = c.args in
    let t = a.text.now in
    let room = length a.out.now in
    let d = length a.told.now in
    let e = call_told t room d c.if-text-gt-TEXT_MOST.false c.if-told-ne-TOLD_WORDS.true in
    let q = told_refused (answer_of t (call_of t room d)) why.Length 0 c.numbered-then-told-ne-TOLD_WORDS.result a.told.now (sym (ap (answer_of t) e)) c.numbered-then-told-ne-TOLD_WORDS.ensures in
    (q.0, call_leaves (call_of t room d) why.Length 0 a.out.now e, q.1)

pub numbered-requires-in-Err : goal.numbered-requires-in-Err
numbered-requires-in-Err c =
    let a = c.args in
    answer_line a.text.now (length a.out.now) c.in-Err.f.why c.in-Err.f.line c.if-text-gt-TEXT_MOST.false (sym c.tidy.ensures.0 ∙ c.in-Err.is)

pub returns-in-Err : goal.returns-in-Err
returns-in-Err c =
    let a = c.args in
    let t = a.text.now in
    let room = length a.out.now in
    let d = length a.told.now in
    let s = call_tidies t room d c.if-text-gt-TEXT_MOST.false c.if-told-ne-TOLD_WORDS.false in
    let r = c.tidy.ensures in
    let f = c.in-Err.f in
    let q = told_refused (answer_of t (call_of t room d)) f.why f.line c.numbered-in-Err.result a.told.now (sym c.in-Err.is ∙ r.0 ∙ ap (answer_of t) (sym s)) c.numbered-in-Err.ensures in
    (q.0, r.1 ∙ ap (λ (o : Outcome). out_after o a.out.now) (sym s), q.1)

pub returns-in-Ok : goal.returns-in-Ok
returns-in-Ok c =
    let a = c.args in
    let t = a.text.now in
    let room = length a.out.now in
    let d = length a.told.now in
    let s = call_tidies t room d c.if-text-gt-TEXT_MOST.false c.if-told-ne-TOLD_WORDS.false in
    let r = c.tidy.ensures in
    let x = c.in-Ok.t in
    let q = told_tidied (answer_of t (call_of t room d)) x.bytes x.comments x.repeated x.turned a.told.now (sym c.in-Ok.is ∙ r.0 ∙ ap (answer_of t) (sym s)) in
    (q.0, r.1 ∙ ap (λ (o : Outcome). out_after o a.out.now) (sym s), c.copy_from_slice.ensures.after ∙ q.1)

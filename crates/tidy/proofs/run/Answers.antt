-- `tidy::run` meets its contract: the line is told exactly if the whole output was taken.
use mathlib.Core.Path.{sym, ap, ◌∙◌}
use Prim.Native.Nat.{ℕ}
use native.Mathlib.Omega.{arith}
use lib.ListN.{length}
use lib.Seq.{length-take-le}
use Rattle.graphs.specs.Reading.{words_least, Outcome, outcome_of}
use Rattle.texts.specs.Text.{refusal_line}
use Rattle.exchange.specs.Answers.{answer_of, out_after}
use Rattle.tidy.proofs.RunLaw.{never_short, wrote, refused_line, run_ends}
use Rattle.tidy.proofs.run.Goals as goal

pub slice_bounds-deliver-end : goal.slice_bounds-deliver-end
slice_bounds-deliver-end c =
    let a = c.args in
    let t = a.input.now in
    let y = c.tidy-answer in
    let s = never_short t (length a.out.now) (omega (arith, c.requires.0)) in
    let e = sym c.in-Ok.is ∙ y.ensures.0 ∙ ap (answer_of t) s in
    let w = wrote t (outcome_of t words_least) c.in-Ok.t.bytes c.in-Ok.t.comments c.in-Ok.t.repeated c.in-Ok.t.turned a.out.now y.new.out e (y.ensures.1 ∙ ap (λ (o : Outcome). out_after o a.out.now) s) in
    w.fits

pub slice_bounds-deliver-end-in-Ok : goal.slice_bounds-deliver-end-in-Ok
slice_bounds-deliver-end-in-Ok c =
    let a = c.args in
    let t = a.input.now in
    let y = c.tidy-answer in
    let s = never_short t (length a.out.now) (omega (arith, c.requires.0)) in
    let e = sym c.in-Ok.is ∙ y.ensures.0 ∙ ap (answer_of t) s in
    let w = wrote t (outcome_of t words_least) c.in-Ok.t.bytes c.in-Ok.t.comments c.in-Ok.t.repeated c.in-Ok.t.turned a.out.now y.new.out e (y.ensures.1 ∙ ap (λ (o : Outcome). out_after o a.out.now) s) in
    sym (length-take-le _ y.new.out w.fits)

pub slice_bounds-deliver-end-in-Err-2 : goal.slice_bounds-deliver-end-in-Err-2
slice_bounds-deliver-end-in-Err-2 c =
    let p = c.put_refusal-told in
    sym (length-take-le p.result p.new.text (omega (arith, p.ensures.0.size, p.ensures.1, c.requires.1)))

pub returns-in-Ok : goal.returns-in-Ok
returns-in-Ok c =
    let a = c.args in
    let t = a.input.now in
    let y = c.tidy-answer in
    let s = never_short t (length a.out.now) (omega (arith, c.requires.0)) in
    let e = sym c.in-Ok.is ∙ y.ensures.0 ∙ ap (answer_of t) s in
    let w = wrote t (outcome_of t words_least) c.in-Ok.t.bytes c.in-Ok.t.comments c.in-Ok.t.repeated c.in-Ok.t.turned a.out.now y.new.out e (y.ensures.1 ∙ ap (λ (o : Outcome). out_after o a.out.now) s) in
    let p = c.put-told in
    record {
      answer = e;
      ends = run_ends t _ p.result _ a.text.now p.new.text c.deliver-ending.result w.front w.told p.ensures (omega (arith, p.ensures.next, c.requires.1)) c.deliver-ending.ensures;
    }

pub returns-in-Err : goal.returns-in-Err
returns-in-Err c =
    let a = c.args in
    let t = a.input.now in
    let y = c.tidy-answer in
    let s = never_short t (length a.out.now) (omega (arith, c.requires.0)) in
    let e = sym c.in-Err.is ∙ y.ensures.0 ∙ ap (answer_of t) s in
    let p = c.put_refusal-told in
    let n = c.number-number in
    let q = refused_line t (outcome_of t words_least) c.in-Err.f.why c.in-Err.f.line e in
    let same = ap (λ (k : ℕ). refusal_line k c.in-Err.f.line) n.ensures.0 in
    record {
      answer = e;
      ends = run_ends t _ p.result _ a.text.now p.new.text c.deliver-ending-in-Err.result (p.ensures.0.front ∙ same ∙ q.0) (same ∙ q.1) p.ensures.0 (omega (arith, p.ensures.1, c.requires.1)) c.deliver-ending-in-Err.ensures;
    }

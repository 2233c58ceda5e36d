-- `exchange::tidy` meets its contract.
use mathlib.Core.Path.{sym, ap, ◌∙◌}
use native.Mathlib.Omega.{arith}
use lib.ListN.{length}
use Rattle.std.proofs.Common.{◌≡◌, Ok, Err, rules}
use Rattle.refusals.specs.declared.Refusal.TheVariants as why
use Rattle.graphs.specs.Reading.{words_least}
use Rattle.graphs.specs.Scans.{edges_of, scan_of, Seen}
use Rattle.graphs.proofs.ReadLaw.{length_ends, outcome_lines}
use Rattle.exchange.specs.Answers.{tidied}
use Rattle.exchange.proofs.AnswerLaw.{tidied_long, tidied_refused, answers_refused}
use Rattle.exchange.proofs.tidy.Goals as goal

pub returns-then-text-gt-TEXT_MOST : goal.returns-then-text-gt-TEXT_MOST
returns-then-text-gt-TEXT_MOST c =
    let a = c.args in
    let t = a.text.now in
    let old = a.out.now in
    answers_refused t (tidied t (length old)) old why.Long 0 (tidied_long t (length old) c.if-text-gt-TEXT_MOST.true)

pub write_back-requires : goal.write_back-requires
write_back-requires c =
    let t = c.args.text.now in
    let l = c.if-text-gt-TEXT_MOST.false in
    let s = c.in_ok-s.s in
    let g = s.graph in
    let r : c.read_lines.result ≡ Ok s = search rules in
    let seen : Seen (edges_of g) s.seen = rw r at c.read_lines.ensures.1 in (
      l,
      record {
        edges = edges_of g;
        is = outcome_lines t words_least l (omega arith) ∙ sym c.read_lines.ensures.0 ∙ ap scan_of r;
        count = length_ends g.count g.one g.other;
        seen = seen;
      },
    )

pub returns-in_err-s : goal.returns-in_err-s
returns-in_err-s c =
    let a = c.args in
    let t = a.text.now in
    let old = a.out.now in
    let f = c.in_err-s.field-0.0 in
    let r : c.read_lines.result ≡ Err f = search rules in
    let e : c.from_residual.result ≡ Err f = search rules in
    let q = answers_refused t (tidied t (length old)) old f.why f.line
    (tidied_refused t (length old) f.why f.line
    (outcome_lines t words_least c.if-text-gt-TEXT_MOST.false (omega arith) ∙ sym c.read_lines.ensures.0 ∙ ap scan_of r)) in
    (e ∙ q.0, q.1)

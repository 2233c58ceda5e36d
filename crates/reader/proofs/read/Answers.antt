-- `reader::read` meets its contract.
use mathlib.Core.Path.{sym, ap, ◌∙◌}
use native.Mathlib.Omega.{arith}
use lib.ListN.{length}
use lib.Seq.{length-take-le}
use Rattle.refusals.specs.declared.Refusal.TheVariants as why
use Rattle.std.proofs.Common.{◌≡◌, Ok, Err, rules}
use Rattle.graphs.specs.Reading.{outcome_of}
use Rattle.graphs.specs.Scans.{edges_of, scan_of}
use Rattle.graphs.proofs.ReadLaw.{length_ends, outcome_long, outcome_words, outcome_lines}
use Rattle.graphs.proofs.SoundLaw.{lines_drawn}
use Rattle.reader.specs.Answers.{read_told}
use Rattle.reader.proofs.AnswerLaw.{answer_refused, answer_graph}
use Rattle.reader.proofs.read.Goals as goal

pub returns-then-text-gt-TEXT_MOST : goal.returns-then-text-gt-TEXT_MOST
returns-then-text-gt-TEXT_MOST c =
    let a = c.args in
    let t = a.text.now in
    let w = a.words.now in
    answer_refused (outcome_of t (length w)) why.Long 0 w (outcome_long t (length w) c.if-text-gt-TEXT_MOST.true)

pub returns-then-words-lt-WORDS_LEAST : goal.returns-then-words-lt-WORDS_LEAST
returns-then-words-lt-WORDS_LEAST c =
    let a = c.args in
    let t = a.text.now in
    let w = a.words.now in
    answer_refused (outcome_of t (length w)) why.Length 0 w (outcome_words t (length w) c.if-text-gt-TEXT_MOST.false c.if-words-lt-WORDS_LEAST.true)

pub words-used-requires : goal.words-used-requires
words-used-requires c =
    let s = c.in_ok-s.s in
    let r : c.read_lines.result ≡ Ok s = search rules in
    let d = lines_drawn c.args.text.now s.graph.vertices (edges_of s.graph) (sym c.read_lines.ensures.0 ∙ ap scan_of r) in
    (d.least, d.most)

pub write-requires : goal.write-requires
write-requires c =
    let s = c.in_ok-s.s in
    let r : c.read_lines.result ≡ Ok s = search rules in
    let d = lines_drawn c.args.text.now s.graph.vertices (edges_of s.graph) (sym c.read_lines.ensures.0 ∙ ap scan_of r) in
    (length-take-le c.words-used.result c.args.words.now (omega (arith, c.words-used.ensures.1, c.if-words-lt-WORDS_LEAST.false)) ∙ c.words-used.ensures.0, d)

pub returns-in_err-s : goal.returns-in_err-s
returns-in_err-s c =
    let t = c.args.text.now in
    let w = c.args.words.now in
    let f = c.in_err-s.field-0.0 in
    let r : c.read_lines.result ≡ Err f = search rules in
    let e : c.from_residual.result ≡ Err f = search rules in
    let q = answer_refused (outcome_of t (length w)) f.why f.line w (outcome_lines t (length w) c.if-text-gt-TEXT_MOST.false c.if-words-lt-WORDS_LEAST.false ∙ sym c.read_lines.ensures.0 ∙ ap scan_of r) in
    (e ∙ q.0, q.1, ap read_told e ∙ q.2)

pub returns : goal.returns
returns c =
    let t = c.args.text.now in
    let w = c.args.words.now in
    let s = c.in_ok-s.s in
    let g = s.graph in
    let r : c.read_lines.result ≡ Ok s = search rules in
    answer_graph (outcome_of t (length w)) g.vertices g.count c.words-used.result (edges_of g) c.write.new.table w (outcome_lines t (length w) c.if-text-gt-TEXT_MOST.false c.if-words-lt-WORDS_LEAST.false ∙ sym c.read_lines.ensures.0 ∙ ap scan_of r) (length_ends g.count g.one g.other) c.write.ensures c.words-used.ensures.0

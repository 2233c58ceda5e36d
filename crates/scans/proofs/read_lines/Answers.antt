-- `scans::read_lines` meets its contract: the lines that are left, from the state so far, give the whole outcome.
use mathlib.Core.Path.{◌≡◌, sym, ap, refl, subst, ◌∙◌}
use Prim.Native.Nat.{◌+◌, ◌-◌}
use native.Mathlib.Omega.{arith}
use Rattle.std.proofs.Common.{Ok, Err, Some, rules}
use Rattle.refusals.specs.Refusal.{Verdict, done}
use lib.ListN.{length, take, drop, length-drop, drop_of_length-le}
use lib.Seq.{length-take-le}
use Rattle.lines.specs.Lines.{first_of, lines_of}
use Rattle.graphs.specs.Scans.{state_of, scan_of, ended, Held}
use Rattle.graphs.specs.Reading.{carry, read_lines, refused}
use Rattle.graphs.proofs.EdgeLaw.{seen_none}
use Rattle.graphs.proofs.ReadLaw.{read_none, read_go, read_stop}
use Rattle.lines.proofs.LineLaw.{rest_is}
use Rattle.lines.proofs.SplitLaw.{lines_at, lines_none}
use Rattle.scans.proofs.read_lines.Goals as goal

pub loop-at-init : goal.loop-at-init
loop-at-init c = (omega arith, omega arith, seen_none, refl)

pub returns-in_err-map_err : goal.returns-in_err-map_err
returns-in_err-map_err c =
    let l = c.loop-at in
    let t = c.args.text.now in
    let f = c.find in
    let k = c.take_line in
    let p = l.at + f.result in
    let w = lines_at t l.at f.result (omega arith) (f.ensures.0 ∙ ap (first_of 10) (rest_is t l.at)) in
    let fault = c.in_err-map_err.field-0.0 in
    let e : c.from_residual.result ≡ Err fault = search rules in
    let r : k.result ≡ Err fault.why = search rules in
    let n : fault.line ≡ l.line = search rules in (
      ap scan_of e ∙ ap (refused fault.why) n
          ∙ sym (read_stop l.line (state_of l.g) fault.why (take (p - l.at) (drop l.at t)) (lines_of (drop (p + 1) t)) (sym k.ensures.0 ∙ ap (λ (v : Verdict). carry v (state_of k.new.g)) r))
          ∙ ap (read_lines l.line (state_of l.g)) (sym w) ∙ l.invariant.3,
      rw e tt,
    )

pub loop-at-preserved : goal.loop-at-preserved
loop-at-preserved c =
    let l = c.loop-at in
    let t = c.args.text.now in
    let f = c.find in
    let k = c.take_line in
    let p = l.at + f.result in
    let w = lines_at t l.at f.result (omega arith) (f.ensures.0 ∙ ap (first_of 10) (rest_is t l.at)) in
    let r : k.result ≡ done = search rules in (
      omega (arith, f.ensures.1, length-take-le (length t - l.at) (drop l.at t) (omega (arith, length-drop l.at t))),
      omega arith,
      rw r at k.ensures.1,
      sym (read_go l.line (state_of l.g) (state_of k.new.g) (take (p - l.at) (drop l.at t)) (lines_of (drop (p + 1) t)) (sym k.ensures.0 ∙ ap (λ (v : Verdict). carry v (state_of k.new.g)) r))
          ∙ ap (read_lines l.line (state_of l.g)) (sym w) ∙ l.invariant.3,
    )

pub returns-in_err-graph : goal.returns-in_err-graph
returns-in_err-graph c =
    let l = c.loop-at in
    let t = c.args.text.now in
    let fault = c.in_err-graph.field-0.0 in
    let e : c.from_residual-in_err-graph.result ≡ Err fault = search rules in
    let r : c.end_fault.result ≡ Err fault.why = search rules in
    let n : fault.line ≡ 0 = search rules in (
      ap scan_of e ∙ ap (refused fault.why) n ∙ sym (ap ended r) ∙ c.end_fault.ensures.0 ∙ sym (read_none l.line (state_of l.g))
          ∙ ap (read_lines l.line (state_of l.g)) (sym (ap lines_of (drop_of_length-le t {i = l.at} (omega arith)) ∙ lines_none)) ∙ l.invariant.3,
      rw e tt,
    )

pub returns : goal.returns
returns c =
    let l = c.loop-at in
    let t = c.args.text.now in
    let g = c.in_ok-graph.graph in
    let r : c.end_fault.result ≡ Ok g = search rules in
    let m : l.g ≡ Some g = rw r at c.end_fault.ensures.1 in
    let h : Held (Some g) l.seen = subst (λ x. Held x l.seen) m l.invariant.2 in (
      sym (ap ended r) ∙ c.end_fault.ensures.0 ∙ sym (read_none l.line (state_of l.g))
          ∙ ap (read_lines l.line (state_of l.g)) (sym (ap lines_of (drop_of_length-le t {i = l.at} (omega arith)) ∙ lines_none)) ∙ l.invariant.3,
      h.seen,
    )

-- `graphs::end_fault` meets its contract.
use mathlib.Core.Path.{◌≡◌, ap, sym, ◌∙◌}
use Rattle.std.proofs.Common.{Err, Some, None, rules}
use Rattle.refusals.specs.declared.Refusal.TheVariants as why
use Rattle.graphs.specs.Scans.{state_of, edges_of, ended}
use Rattle.graphs.specs.Reading.{end_of}
use Rattle.graphs.proofs.ReadLaw.{end_early, end_other, end_same}
use Rattle.graphs.proofs.end_fault.Goals as goal

pub returns-in_err-g : goal.returns-in_err-g
returns-in_err-g c =
    let n : c.args.g ≡ None = search rules in
    let e : c.from_residual.result ≡ Err why.Order = search rules in
    (ap ended e ∙ end_early ∙ ap (λ x. end_of (state_of x)) (sym n), rw e tt)

pub returns-then-g : goal.returns-then-g
returns-then-g c =
    let g = c.in_ok-g.g in
    let n : c.args.g ≡ Some g = search rules in
    (end_other g.vertices g.edges g.lines (edges_of g) c.if-g.true ∙ ap (λ x. end_of (state_of x)) (sym n), tt)

pub returns : goal.returns
returns c =
    let g = c.in_ok-g.g in
    let n : c.args.g ≡ Some g = search rules in
    (end_same g.vertices g.edges g.lines (edges_of g) c.if-g.false ∙ ap (λ x. end_of (state_of x)) (sym n), n)

-- `scans::take_edge` meets its contract.
use mathlib.Core.Path.{◌≡◌, sym, ap, refl, ◌∙◌}
use Rattle.std.proofs.Common.{Err, Some, None, rules}
use Rattle.refusals.specs.declared.Refusal.TheVariants as why
use Rattle.shapes.specs.declared.Shape.TheVariants.{Edge}
use Rattle.graphs.specs.Reading.{take_line}
use Rattle.graphs.specs.Scans.{edges_of, state_of, taken}
use Rattle.graphs.proofs.ReadLaw.{edge_early, later_edge}
use Rattle.scans.proofs.take_edge.Goals as goal

pub returns-in_err-g : goal.returns-in_err-g
returns-in_err-g c =
    let a = c.args in
    let n : a.g ≡ None = search rules in
    let e : c.from_residual.result ≡ Err why.Order = search rules in
    (ap taken e ∙ sym (edge_early a.a a.b) ∙ ap (λ x. take_line (state_of x) (Edge a.a a.b)) (sym n), rw e refl)

pub returns-in_err-edge_fault : goal.returns-in_err-edge_fault
returns-in_err-edge_fault c =
    let a = c.args in
    let g = c.in_ok-g.g in
    let n : a.g ≡ Some g = search rules in
    let e : c.from_residual-in_err-edge_fault.result ≡ Err c.in_err-edge_fault.field-0.0 = search rules in
    let w = sym c.edge_fault.ensures ∙ c.in_err-edge_fault.was in
    (ap taken e ∙ later_edge g.vertices g.edges g.lines (edges_of g) a.a a.b w ∙ ap (λ x. take_line (state_of x) (Edge a.a a.b)) (sym n), rw e refl)

pub returns : goal.returns
returns c =
    let a = c.args in
    let g = c.in_ok-g.g in
    let n : a.g ≡ Some g = search rules in
    let w = sym c.edge_fault.ensures ∙ c.in_ok-edge_fault.was in
    (c.take_pair.ensures.0 ∙ later_edge g.vertices g.edges g.lines (edges_of g) a.a a.b w ∙ ap (λ x. take_line (state_of x) (Edge a.a a.b)) (sym n), c.take_pair.ensures.1)

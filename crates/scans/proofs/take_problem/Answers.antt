-- `scans::take_problem` meets its contract.
use mathlib.Core.Path.{◌≡◌, sym, ap, refl, ◌∙◌}
use Prim.Native.Nat.{ℕ}
use mathlib.Core.Bool.{true, false}
use native.Mathlib.Omega.{arith}
use Rattle.std.proofs.Common.{Err, Option, Some, None, is_some, rules}
use Rattle.refusals.specs.declared.Refusal.TheVariants as why
use Rattle.shapes.specs.declared.Shape.TheVariants.{Problem}
use Rattle.graphs.specs.declared.Graph.{Graph}
use Rattle.graphs.specs.Reading.{take_line, on, stop}
use Rattle.graphs.specs.Scans.{edges_of, state_of, taken}
use Rattle.graphs.proofs.ReadLaw.{problem_again, first_problem, state_is, ends_none, problem_fine}
use Rattle.edges.proofs.KeptLaw.{kept_fresh}
use Rattle.scans.proofs.take_problem.Goals as goal

again : (g : Option Graph) (v e : ℕ) → is_some g ≡ true → stop why.Order ≡ take_line (state_of g) (Problem v e)
again (Some g) v e h = sym (problem_again g.vertices g.edges g.lines (edges_of g) v e)
again None v e h = absurd (let z : ◌≡◌ {A = ℕ} 0 1 = cc in omega arith)

none : (g : Option Graph) → is_some g ≡ false → g ≡ None
none (Some g) h = absurd (let z : ◌≡◌ {A = ℕ} 0 1 = cc in omega arith)
none None h = refl

pub returns-then-is_some : goal.returns-then-is_some
returns-then-is_some c = (again c.args.g c.args.v c.args.e (sym c.is_some.ensures ∙ c.if-is_some.true), λ s h. tt)

pub returns-in_err-problem_fault : goal.returns-in_err-problem_fault
returns-in_err-problem_fault c =
    let a = c.args in
    let n = none a.g (sym c.is_some.ensures ∙ c.if-is_some.false) in
    let e : c.from_residual.result ≡ Err c.in_err-problem_fault.field-0.0 = search rules in
    let w = sym c.problem_fault.ensures ∙ c.in_err-problem_fault.was in
    (ap taken e ∙ first_problem a.v a.e w ∙ ap (λ x. take_line (state_of x) (Problem a.v a.e)) (sym n), λ s h. rw e tt)

pub returns : goal.returns
returns c =
    let a = c.args in
    let n = none a.g (sym c.is_some.ensures ∙ c.if-is_some.false) in
    let w = sym c.problem_fault.ensures ∙ c.in_ok-problem_fault.was in
    let r = c.fresh.result in
    let e = c.fresh.ensures in
    let f = problem_fine a.v a.e w in
    (ap on (state_is e.0 e.1 e.2 (ends_none r.count r.one r.other e.3)) ∙ first_problem a.v a.e w ∙ ap (λ x. take_line (state_of x) (Problem a.v a.e)) (sym n), λ s h. kept_fresh r s (rw n at h) (omega (arith, f.v_most, e.0)) (omega (arith, f.e_most, e.1)) e.3)

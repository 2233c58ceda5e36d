-- `positions::position` meets its contract: a later position of p is one of p less 3 to the first.
use Rattle.std.proofs.Common.{ℕ, ap, sym, ◌∙◌, ◌<◌, ◌-◌, arith, Some}
use native.Mathlib.Nat.{one-le-pow}
use Rattle.positions.specs.Positions.{lowest_of, positions}
use Rattle.positions.specs.Parts.{position_at}
use Rattle.positions.proofs.LowestLaw.{of_le}
use Rattle.positions.proofs.PartLaw.{moved, at_none, at_first, at_later}
use Rattle.positions.proofs.+position.Goals as goal

pub returns-then-p-eq0 : goal.returns-then-p-eq0
returns-then-p-eq0 t c = sym (ap (λ (p : ℕ). position_at (positions 3 p) c.args.k) c.if-p-eq0.true ∙ at_none c.args.k)

pub returns-then-k-eq0 : goal.returns-then-k-eq0
returns-then-k-eq0 t c =
    let h : 0 < c.args.p = omega arith in
    ap Some c.first_position-first.ensures ∙ sym (ap (position_at (positions 3 c.args.p)) c.if-k-eq0.true ∙ at_first c.args.p h)

pub overflow_sub-p : goal.overflow_sub-p
overflow_sub-p t c =
    let h : 0 < c.args.p = omega arith in
    let w = moved c.args.p _ _ h (omega arith) c.first_position-first.ensures c.power-moved.ensures.0 in
    omega (arith, of_le 3 (omega arith) c.args.p h)

pub position-requires : goal.position-requires
position-requires t c =
    let h : 0 < c.args.p = omega arith in
    let w = moved c.args.p _ _ h (omega arith) c.first_position-first.ensures c.power-moved.ensures.0 in
    omega (arith, one-le-pow (lowest_of 3 c.args.p) 3 (omega arith))

pub returns : goal.returns
returns t c =
    let h : 0 < c.args.p = omega arith in
    let k : 0 < c.args.k = omega arith in
    let w = moved c.args.p _ _ h (omega arith) c.first_position-first.ensures c.power-moved.ensures.0 in
    c.position.ensures ∙ ap (λ (x : ℕ). position_at (positions 3 (c.args.p - x)) (c.args.k - 1)) w ∙ sym (at_later c.args.p c.args.k h k)

-- `opening::parts::before_move` meets its contract: the move numbered y of b is at 3 to the b times y + 1.
use mathlib.Core.Path.{ap, ◌∙◌}
use Prim.Native.Nat.{ℕ, ◌+◌, ◌-◌, ◌*◌, ◌/◌, ◌≤◌}
use native.Mathlib.Nat.{div-le_self}
use native.Mathlib.Omega.{arith}
use Rattle.positions.specs.Positions.{last_of}
use Rattle.opening.proofs.PlaceLaw.{before_place, before_small, last_le}
use Rattle.opening.proofs.parts.before_move.Goals as goal

pub overflow_add-result : goal.overflow_add-result
overflow_add-result c =
    let q = c.args.q in
    let w = c.args.power in
    let e = c.last_move-y.ensures in
    omega (arith, last_le (q / w), div-le_self q w, c.requires)

pub overflow_mul-result : goal.overflow_mul-result
overflow_mul-result c =
    let q = c.args.q in
    let w = c.args.power in
    let s : w * (c.last_move-y.result + 1) ≤ q + w = rw c.last_move-y.ensures (before_small w q c.requires.0) in
    omega (arith, c.requires)

pub returns : goal.returns
returns c = λ b e.
    let q = c.args.q in
    let w = c.args.power in
    ap (λ (x : ℕ). w * (x + 1) - 1) c.last_move-y.ensures ∙ ap (λ (x : ℕ). x * (last_of 3 (q / x) + 1) - 1) e ∙ before_place b q

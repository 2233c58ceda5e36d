-- `lines::pair_in` meets its contract.
use mathlib.Core.Path.{sym, ap, ap₂, ◌∙◌}
use native.Mathlib.Omega.{arith}
use Prim.Native.Nat.{◌+◌, ◌-◌}
use lib.ListN.{length, take, drop}
use Rattle.lines.specs.Lines.{both, number_in}
use Rattle.lines.proofs.LineLaw.{pair_none, pair_is, both_wrong}
use Rattle.lines.proofs.pair_in.Goals as goal

pub returns-then-k-bytes : goal.returns-then-k-bytes
returns-then-k-bytes c = sym (pair_none c.args.bytes.now (omega (arith, c.find-k.ensures.0)))

pub returns-in_err-one : goal.returns-in_err-one
returns-in_err-one c =
    let s = c.args.bytes.now in
    let k = c.find-k.result in
    c.from_residual.ensures ∙ ap (λ x. both x (number_in (take (length s - (k + 1)) (drop (k + 1) s)))) (sym c.in_err-one.was ∙ c.number_in.ensures) ∙ pair_is s k c.find-k.ensures.0

pub returns-in_err-other : goal.returns-in_err-other
returns-in_err-other c =
    let s = c.args.bytes.now in
    let k = c.find-k.result in
    c.from_residual-in_err-other.ensures ∙ sym (both_wrong (number_in (take k s)))
    ∙ ap (both (number_in (take k s))) (sym c.in_err-other.was ∙ c.number_in-2.ensures) ∙ pair_is s k c.find-k.ensures.0

pub returns : goal.returns
returns c =
    ap₂ both (sym c.in_ok-one.was ∙ c.number_in.ensures) (sym c.in_ok-other.was ∙ c.number_in-2.ensures) ∙ pair_is c.args.bytes.now c.find-k.result c.find-k.ensures.0

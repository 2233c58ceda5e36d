-- `lines::decimal` meets its contract: the value so far and the digits that are left give the whole number.
use mathlib.Core.Path.{refl, sym, ap, ◌∙◌}
use Prim.Native.Nat.{ℕ, ◌+◌, ◌*◌, ◌≤◌}
use mathlib.Core.Logic.{◌≢◌}
use native.Mathlib.Omega.{arith}
use lib.ListN.{drop, get_or}
use borrow.Author.Tests.{tests}
use Rattle.lines.specs.Lines.{decimal_from}
use Rattle.lines.proofs.LineLaw.{decimal_next, decimal_none, decimal_end, small_next, small_five}
use Rattle.lines.proofs.decimal.Goals as goal

pub loop-x-init : goal.loop-x-init
loop-x-init c = (omega arith, refl)

pub returns-then-not-is_ascii_digit : goal.returns-then-not-is_ascii_digit
returns-then-not-is_ascii_digit c =
    let l = c.loop-x in
    sym (decimal_none c.args.bytes.now l.x-index l.value (omega arith) (sym c.is_ascii_digit.ensures.value ∙ c.if-not-is_ascii_digit.true)) ∙ l.invariant.1

pub overflow_mul-value : goal.overflow_mul-value
overflow_mul-value c =
    let l = c.loop-x in
    omega (arith, small_five l.x-index l.value (omega arith) l.invariant.0)

pub overflow_add-value : goal.overflow_add-value
overflow_add-value c =
    let l = c.loop-x in
    omega (arith, small_five l.x-index l.value (omega arith) l.invariant.0)

pub loop-x-preserved : goal.loop-x-preserved
loop-x-preserved c =
    let l = c.loop-x in
    let s = c.args.bytes.now in
    let x = get_or s l.x-index 0 in
    let low : 48 ≤ x = search (tests, arith) in
    let high : x ≤ 57 = search (tests, arith) in (
      small_next l.x-index l.value c.from.result l.invariant.0 (omega arith),
      ap (λ (y : ℕ). decimal_from (10 * l.value + y) (drop (l.x-index + 1) s)) c.from.ensures ∙ sym (decimal_next s l.x-index l.value (omega arith) low high) ∙ l.invariant.1,
    )

pub returns : goal.returns
returns c =
    let l = c.loop-x in
    sym (decimal_end c.args.bytes.now l.x-index l.value (omega arith)) ∙ l.invariant.1

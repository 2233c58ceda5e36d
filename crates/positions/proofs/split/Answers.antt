-- `positions::split` meets its contract: each turn takes one 3 out of what is left.
use mathlib.Core.Path.{◌≡◌, sym, ap, ◌∙◌}
use Prim.Native.Nat.{ℕ, ◌+◌, ◌*◌, ◌/◌, ◌%◌, ◌^◌}
use native.Mathlib.Nat.{pow-suc, one-mul}
use native.Mathlib.Numerals.{add-one}
use native.Mathlib.Omega.{arith}
use Rattle.positions.specs.Positions.{lowest_of}
use Rattle.positions.proofs.LowestLaw.{of_zero, of_other}
use Rattle.positions.proofs.PartLaw.{lowest_none, lowest_word}
use Rattle.positions.proofs.split.Goals as goal

regroup : (w x : ℕ) → w * 3 * x ≡ w * (3 * x)
regroup w x = omega arith

pub returns-then-p-eq0 : goal.returns-then-p-eq0
returns-then-p-eq0 c =
    let z : c.args.p ≡ 0 = omega arith in
    record { position = sym (lowest_none 3) ∙ ap (lowest_of 3) (sym z); whole = sym (one-mul _); above = λ h. h }

pub overflow_add-position : goal.overflow_add-position
overflow_add-position c =
    let p = c.args.p in
    omega (arith, lowest_word p c.loop-rest.invariant.0 (omega arith))

pub loop-rest-preserved : goal.loop-rest-preserved
loop-rest-preserved c =
    let l = c.loop-rest in
    let z : l.rest % 3 ≡ 0 = omega arith in
    let w : 3 ^ (l.position + 1) ≡ 3 ^ l.position * 3 = ap (λ (n : ℕ). 3 ^ n) (add-one l.position) ∙ pow-suc 3 l.position in
    let r : 3 * (l.rest / 3) ≡ l.rest = omega arith in
    let m : 3 ^ (l.position + 1) * (l.rest / 3) ≡ 3 ^ l.position * l.rest =
    ap (λ (n : ℕ). n * (l.rest / 3)) w ∙ (regroup (3 ^ l.position) (l.rest / 3) ∙ ap (λ (n : ℕ). 3 ^ l.position * n) r) in
    (l.invariant.0, omega arith, omega (arith, of_zero 3 (omega arith) l.rest l.invariant.1 z), l.invariant.3 ∙ sym m)

pub returns : goal.returns
returns c =
    let l = c.loop-rest in
    let o = of_other 3 (omega arith) l.rest (λ z. omega arith) in
    record { position = omega arith; whole = l.invariant.3; above = λ h. l.invariant.1 }

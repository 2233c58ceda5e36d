-- `texts::put` meets its contract.
use mathlib.Core.Path.{refl, ap, ◌∙◌}
use mathlib.Core.List.{List, ◌++◌}
use Prim.Native.Nat.{ℕ, ◌+◌, ◌-◌}
use native.Mathlib.Omega.{arith}
use borrow.Author.Rules.{rules}
use lib.ListN.{length, take}
use Rattle.std.proofs.lemmas.Slice.{take-put_mid, drop-put_mid, overwrites}
use Rattle.texts.proofs.put.Goals as goal

pub returns : goal.returns
returns c =
    let a = c.args in
    let t = a.text.now in
    let k = a.at + length a.s.now - a.at in
    let r = c.copy_from_slice.new.self in
    let e = c.copy_from_slice.ensures.after in
    record {
      size = search (rules, overwrites);
      next = refl;
      front = take-put_mid a.at k t r (a.at + length a.s.now) (omega (arith, ap length e)) (omega arith) ∙ ap (λ (x : List ℕ). take a.at t ++ x) e;
      rest = drop-put_mid a.at k t r (a.at + length a.s.now) (omega arith) (omega arith) (omega (arith, ap length e));
    }

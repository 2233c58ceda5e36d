-- `cubic_blocks::all_keys` meets its contract: the keys of the unknowns before b stand.
use mathlib.Core.Path.{refl, sym, ap, ◌∙◌}
use mathlib.Core.Logic.{by_cases}
use Prim.Native.Nat.{ℕ}
use native.Mathlib.Decide.{ℕ_discrete}
use native.Mathlib.Omega.{arith}
use lib.ListN.{get_or, set, length-set}
use lib.Seq.{get_or-set_same, get_or-set_other}
use Rattle.cubic_tables.specs.Order.{key_of}
use Rattle.cubic_blocks.proofs.all_keys.Goals as goal

pub loop-b-preserved : goal.loop-b-preserved
loop-b-preserved c =
    let l = c.loop-b in
    let n = c.args.n in
    let k = c.key in (
      length-set l.r l.b k.result ∙ l.invariant.0,
      (λ i h.
          by_cases (ℕ_discrete i l.b)
          (λ e. ap (λ (j : ℕ). get_or (set l.r l.b k.result) j 0) e ∙ get_or-set_same l.r l.b k.result 0 (omega (arith, l.invariant.0, c.loop-b-test, c.requires)) ∙ k.ensures.0 ∙ ap (key_of n) (sym e))
          (λ e. get_or-set_other l.r l.b i k.result 0 e ∙ l.invariant.1 i (omega arith))),
    )

pub returns : goal.returns
returns c = λ b h. c.loop-b.invariant.1 b (omega (arith, c.loop-b-test))

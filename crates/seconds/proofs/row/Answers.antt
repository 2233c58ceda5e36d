-- `seconds::row` meets its contract. The loop's invariant: the second slots of b and the unknowns below c are filled, and power is 3 to the c.
--
use mathlib.Core.Path.{◌≡◌, ap, ap₂, ◌∙◌}
use mathlib.Core.List.{List}
use Prim.Native.Nat.{ℕ, ◌+◌, ◌-◌, ◌*◌, ◌^◌}
use native.Mathlib.Omega.{arith}
use lib.ListN.{set}
use Rattle.trits.specs.declared.Vector.{Vector}
use Rattle.tables.specs.Words.{put_at}
use Rattle.cubic_tables.specs.Order.{seat_of}
use Rattle.seconds.specs.Parts.{Filled}
use Rattle.seconds.proofs.CountedLaw.{pair_low, power_next, power_small}
use Rattle.seconds.proofs.FilledLaw.{filled_next}
use Rattle.seconds.proofs.row.Goals as goal

pub overflow_sub-base : goal.overflow_sub-base
overflow_sub-base c = omega (arith, pair_low c.args.n c.loop-c.c)

pub second-v-requires : goal.second-v-requires
second-v-requires c =
    let a = c.args in
    let p = c.requires in
    let l = c.loop-c in
    let s = power_small a.n (omega arith) in
    (p.0, l.auto.c, omega arith, ap₂ (λ (x y : ℕ). x + (y - l.c)) c.key-kb.ensures.0 c.pair.ensures.0, p.3, omega arith, l.invariant.0)

pub overflow_mul-power : goal.overflow_mul-power
overflow_mul-power c =
    let l = c.loop-c in
    let s = power_small l.c (omega arith) in
    omega arith

pub loop-c-preserved : goal.loop-c-preserved
loop-c-preserved c =
    let a = c.args in
    let p = c.requires in
    let l = c.loop-c in
    let left : c.less.result ≡ a.q - (3 ^ a.b + 3 ^ l.c) = omega arith in (
      ap (λ (x : ℕ). x * 3) l.invariant.0 ∙ power_next l.c,
      λ f. rw (c.put_entry.ensures, c.pair-k.ensures.0) (filled_next a.n a.table.now a.q a.b l.c l.out c.second-v.result l.auto.c (omega arith) p.0 (λ m w. c.second-v.ensures m a.q w p.2 left) (l.invariant.1 f)),
    )

pub returns : goal.returns
returns c =
    let e : c.loop-c.c ≡ c.args.n = omega arith in
    λ f. rw e at (c.loop-c.invariant.1 f)

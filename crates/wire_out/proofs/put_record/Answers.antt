-- `wire_out::put_record` meets its contract: the first words, and then the second slots.
use mathlib.Core.Path.{◌≡◌, sym, ap, ap₂, ◌∙◌}
use mathlib.Core.List.{List, ◌++◌}
use Prim.Native.Nat.{ℕ, ◌-◌}
use native.Mathlib.Omega.{arith}
use lib.ListN.{length, drop, length-append}
use lib.Seq.{length-take-le}
use Rattle.wire.specs.Wire.{part_words}
use Rattle.wire.proofs.WireLaw.{put_parts}
use Rattle.wire_out.proofs.put_record.Goals as goal

pub slice_bounds-put_first-end-2 : goal.slice_bounds-put_first-end-2
slice_bounds-put_first-end-2 c = sym (length-take-le 45 c.args.w.now (omega (arith, c.requires)))

pub put_first-requires : goal.put_first-requires
put_first-requires c = length-take-le 45 c.args.w.now (omega (arith, c.requires))

pub returns : goal.returns
returns c =
    let w = c.args.w.now in
    let p = c.put_first in
    let x = p.new.w in
    let n : length x ≡ 45 = p.auto.w ∙ length-take-le 45 w (omega (arith, c.requires)) in
    put_parts w x _ (length (x ++ drop 45 w) - 45) n (omega (arith, length-append x (drop 45 w), n))
    ∙ ap₂ (λ (u v : List ℕ). u ++ v) (p.ensures ∙ ap part_words c.first.ensures) c.copy_from_slice.ensures.after

-- `codec::word_at` meets its contract: eight bytes are the number that they stand for.
use Rattle.std.specs.Int.{w64, from_le_bytes}
use mathlib.Core.Path.{◌≡◌, ap, ◌∙◌}
use mathlib.Core.List.{List}
use Prim.Native.Nat.{ℕ, ◌+◌, ◌-◌, ◌*◌}
use native.Mathlib.Omega.{arith}
use lib.ListN.{take, drop, length-drop}
use lib.Seq.{length-take-le}
use Rattle.codec.proofs.CodecLaw.{value_eight}
use Rattle.codec.proofs.word_at.Goals as goal

pub returns : goal.returns
returns c =
    let b = c.args.b.now in
    let at = 8 * c.args.i in
    let h = rw c.unwrap.ensures at c.try_into.ensures in
    let n : at + 8 - at ≡ 8 = omega arith in
    let e = h.1.same ∙ ap (λ (k : ℕ). take k (drop at b)) n in
    c.from_le_bytes.ensures ∙ ap (λ (l : List ℕ). from_le_bytes w64 l) e
    ∙ value_eight (take 8 (drop at b)) (length-take-le 8 (drop at b) (omega (arith, length-drop at b)))

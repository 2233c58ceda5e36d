-- `codec::put_word` meets its contract: eight bytes written in their place.
use mathlib.Core.Path.{ap, ◌∙◌}
use Prim.Native.Nat.{◌*◌}
use native.Mathlib.Omega.{arith}
use Rattle.std.specs.Int.{w64, to_le_bytes}
use Rattle.codec.proofs.CodecLaw.{put_eight, bytes_eight}
use Rattle.codec.proofs.put_word.Goals as goal

pub returns : goal.returns
returns c =
    let a = c.args in
    put_eight a.b.now (8 * a.i) a.w _ (c.copy_from_slice.ensures.after ∙ c.to_le_bytes.ensures ∙ ap (to_le_bytes w64) (omega arith) ∙ bytes_eight a.w)

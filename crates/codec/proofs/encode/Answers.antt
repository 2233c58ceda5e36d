-- `codec::encode` meets its contract: after i turns the bytes of the first i words stand in their place.
use mathlib.Core.Path.{refl, sym, ap, ◌∙◌}
use Prim.Native.Nat.{ℕ, ◌+◌, ◌*◌}
use mathlib.Core.List.{List}
use native.Mathlib.Omega.{arith}
use lib.ListN.{get_or}
use lib.Seq.{take_all}
use Rattle.codec.specs.Codec.{bytes_of, bytes_from, pasted}
use Rattle.codec.proofs.CodecLaw.{paste_none, from_nil, pasted_length, encode_turn}
use Rattle.codec.proofs.encode.Goals as goal

pub loop-i-init : goal.loop-i-init
loop-i-init c =
    let a = c.args in
    (refl, paste_none a.b.now (8 * a.at) ∙ ap (pasted a.b.now (8 * a.at)) (sym from_nil))

pub loop-i-preserved : goal.loop-i-preserved
loop-i-preserved c =
    let l = c.loop-i in
    let a = c.args in
    let n = pasted_length l.b c.put_word.new.b (8 * (a.at + l.i)) 8 (get_or a.w.now l.i 0) c.put_word.ensures (omega arith) in (
      n ∙ l.invariant.0,
      c.put_word.ensures
          ∙ ap (λ (m : List ℕ). pasted m (8 * (a.at + l.i)) (bytes_of 8 (get_or a.w.now l.i 0))) l.invariant.1
          ∙ encode_turn a.b.now a.at l.i a.w.now (omega arith) c.requires,
    )

pub returns : goal.returns
returns c =
    let l = c.loop-i in
    let a = c.args in
    l.invariant.1 ∙ ap (λ (m : List ℕ). pasted a.b.now (8 * a.at) (bytes_from m)) (take_all l.i a.w.now (omega arith))

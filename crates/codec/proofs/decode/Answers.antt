-- `codec::decode` meets its contract: after i turns the first i words are read.
use mathlib.Core.Path.{◌≡◌, refl, sym, ap, ◌∙◌}
use Prim.Native.Nat.{ℕ}
use mathlib.Core.List.{List, ◌++◌, ◌∷◌, []}
use native.Mathlib.Numerals.{add-one}
use native.Mathlib.Omega.{arith}
use lib.ListN.{length, take, set, length-set}
use lib.Seq.{take_all, take-suc-set}
use Rattle.codec.specs.Codec.{words_of}
use Rattle.codec.proofs.CodecLaw.{words_zero, words_more}
use Rattle.codec.proofs.decode.Goals as goal

pub loop-i-init : goal.loop-i-init
loop-i-init c = (refl, sym (words_zero _))

pub loop-i-preserved : goal.loop-i-preserved
loop-i-preserved c =
    let l = c.loop-i in
    let b = c.args.b.now in
    let w = c.word_at.result in (
      length-set l.out l.i w ∙ l.invariant.0,
      ap (λ (k : ℕ). take k (set l.out l.i w)) (add-one l.i)
          ∙ take-suc-set l.out l.i w (omega arith)
          ∙ ap (λ (m : List ℕ). m ++ (w ∷ [])) l.invariant.1
          ∙ ap (λ (v : ℕ). words_of l.i b ++ (v ∷ [])) c.word_at.ensures
          ∙ sym (words_more l.i b) ∙ ap (λ (k : ℕ). words_of k b) (sym (add-one l.i)),
    )

pub returns : goal.returns
returns c =
    let l = c.loop-i in
    let b = c.args.b.now in
    let e : l.i ≡ length c.args.out.now = omega arith in
    sym (take_all l.i l.out (omega arith)) ∙ l.invariant.1 ∙ ap (λ (k : ℕ). words_of k b) e

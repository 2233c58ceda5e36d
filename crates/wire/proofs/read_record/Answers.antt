-- `wire::read_record` meets its contract: its two parts, put together.
use mathlib.Core.Path.{ap₂, ◌∙◌}
use native.Mathlib.Omega.{arith}
use lib.ListN.{length-drop}
use lib.Seq.{take_all}
use Rattle.codec.specs.Codec.{words_of}
use Rattle.codec.proofs.CodecLaw.{length_words}
use Rattle.opening.specs.First.{with_seconds}
use Rattle.wire.specs.Wire.{record_in}
use Rattle.wire.proofs.read_record.Goals as goal

pub returns : goal.returns
returns c =
    let b = c.args.b.now in
    let w = words_of 465 b in
    c.with.ensures
    ∙ ap₂ with_seconds c.read_first-f.ensures (
    c.read_seconds.ensures ∙ take_all 420 (record_in b).seconds (omega (arith, length-drop 45 w, length_words 465 b)))

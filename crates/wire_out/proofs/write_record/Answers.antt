-- `wire_out::write_record` meets its contract: its two parts, which are the whole.
use mathlib.Core.Path.{◌≡◌, ap, ◌∙◌}
use lib.ListN.{length}
use denote.Struct.Laws as LL
use Rattle.opening.specs.First.{first_of}
use Rattle.opening.specs.contracts.Record as T
use Rattle.opening.proofs.Record.TheLaws as T'
use Rattle.opening.proofs.ShapeLaw.{seconds_long}
use Rattle.opening.specs.declared.First.{First}
use Rattle.wire.specs.Wire.{part_words, parts_in}
use Rattle.wire.proofs.WireLaw.{first_length}
use Rattle.wire.proofs.WireLaw as law
use Rattle.wire_out.proofs.write_record.Goals as goal

pub returns : goal.returns
returns c =
    let r = c.args.r in
    let slots : length r.slots ≡ 20 = (LL.owed T.the_type T'.the_laws r _ c.well_formed.0).1.1.1.1.0.1.0.1 in
    c.write_parts.ensures ∙ ap (λ (f : First). parts_in c.args.b.now f r.seconds) c.first.ensures ∙ law.write_parts c.args.b.now (part_words (first_of r)) r.seconds c.requires (first_length (first_of r) slots) (seconds_long r _ c.well_formed.0)

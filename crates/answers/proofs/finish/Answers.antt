-- `answers::finish` meets its contract: the two parts of a record, told whole, are the record.
use Rattle.std.specs.Prelude.{Ok, Err}
use mathlib.Core.Path.{◌≡◌, refl, ap, ◌∙◌}
use mathlib.Core.List.{List}
use Prim.Native.Nat.{ℕ}
use lib.ListN.{length}
use denote.Struct.Laws as LL
use Rattle.opening.specs.declared.First.{First}
use Rattle.opening.specs.declared.Record.{Record}
use Rattle.opening.specs.First.{first_of}
use Rattle.opening.specs.contracts.Record as T
use Rattle.opening.proofs.Record.TheLaws as T'
use Rattle.opening.proofs.ShapeLaw.{seconds_long}
use Rattle.outcomes.specs.Search.{Answer}
use Rattle.wire.specs.Wire.{part_words}
use Rattle.wire.proofs.WireLaw.{first_length, write_parts}
use Rattle.answers.specs.Written.{record_bytes, parts_bytes}
use Rattle.answers.proofs.finish.Goals as goal

pub returns : goal.returns
returns c =
    let r = c.args.r in
    let slots : length r.slots ≡ 20 = (LL.owed T.the_type T'.the_laws r _ c.well_formed.1.1.0).1.1.1.1.0.1.0.1 in
    let e = c.finish_parts.ensures in
    (e.0, e.1 ∙ ap (λ (f : First). parts_bytes c.args.a f r.seconds c.args.«record».now) c.first.ensures ∙ whole c.args.a r _ c.requires.0 slots (seconds_long r _ c.well_formed.1.1.0), e.2)
  where
    whole : (a : Answer) (r : Record) (b : List ℕ) → length b ≡ 3720 → length r.slots ≡ 20 → length r.seconds ≡ 420
        → parts_bytes a (first_of r) r.seconds b ≡ record_bytes a r b
    whole (Ok x) r b e n l = write_parts b (part_words (first_of r)) r.seconds e (first_length (first_of r) n) l
    whole (Err x) r b e n l = refl

-- `answers::write_answer` meets its contract: five words, encoded.
use Rattle.std.specs.Prelude.{Ok}
use mathlib.Core.Path.{ap₂, ◌∙◌}
use mathlib.Core.List.{[], ◌∷◌}
use Prim.Native.Nat.{ℕ}
use Rattle.codec.specs.Codec.{bytes_from, pasted}
use Rattle.codec.proofs.CodecLaw.{paste_whole}
use Rattle.outcomes.specs.Search.{answer_values}
use Rattle.answers.proofs.write_answer.Goals as goal

pub returns : goal.returns
returns c =
    let a = c.args.a in
    c.encode.ensures
    ∙ ap₂ (λ (x y : ℕ). pasted c.args.b.now 0 (bytes_from (x ∷ y ∷ a.points ∷ a.additions ∷ a.found ∷ []))) c.stop_number-stop.ensures c.stop_place-place.ensures
    ∙ paste_whole c.args.b.now (answer_values c.args.end (Ok a)) c.requires

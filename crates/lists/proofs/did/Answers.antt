-- `lists::did` meets its contract: by the answer.
use mathlib.Core.Path.{◌≡◌, refl, ◌∙◌}
use Rattle.std.specs.Prelude.{Ok, Err}
use Rattle.std.specs.Result.{result_unwrap_or}
use Rattle.walks.specs.declared.Stop.TheVariants.{Ended}
use Rattle.outcomes.specs.Search.{Answer}
use Rattle.lists.specs.Pieces.{did_of}
use Rattle.lists.proofs.did.Goals as goal

told : (a : Answer) → result_unwrap_or a (record { stop = Ended; points = 0; additions = 0; found = 0 }) ≡ did_of a
told (Ok r) = refl
told (Err f) = refl

pub returns : goal.returns
returns c = c.unwrap_or.ensures ∙ told c.args.a

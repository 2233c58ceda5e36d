-- `trits::negate` meets its contract.
use mathlib.Core.Path.{refl}
use Rattle.trits.specs.Words.{negate_of}
use Rattle.trits.proofs.SumLaw.{negated}
use Rattle.trits.proofs.negate.Goals as goal

pub returns : goal.returns
unfolding negate_of
returns c = record { words = refl; trits = λ m l. negated _ m l }

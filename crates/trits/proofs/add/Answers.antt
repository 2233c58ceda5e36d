-- `trits::add` meets its contract.
use mathlib.Core.Path.{refl}
use Rattle.trits.specs.Words.{add_of}
use Rattle.trits.proofs.SumLaw.{meets}
use Rattle.trits.proofs.add.Goals as goal

pub returns : goal.returns
unfolding add_of
returns c = record { words = refl; trits = λ m la lb. meets _ _ m la lb }

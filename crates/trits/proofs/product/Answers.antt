-- `trits::product` meets its contract.
use mathlib.Core.Path.{refl}
use Rattle.trits.specs.Words.{product_of}
use Rattle.trits.proofs.SumLaw.{multiplied}
use Rattle.trits.proofs.product.Goals as goal

pub returns : goal.returns
unfolding product_of
returns c = record { words = refl; trits = λ m la lb. multiplied _ _ m la lb }

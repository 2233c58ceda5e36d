-- `trits::is_zero` meets its contract.
use mathlib.Core.Path.{refl}
use Rattle.trits.proofs.LegalLaw.{tested}
use Rattle.trits.proofs.is_zero.Goals as goal

pub returns : goal.returns
returns c = tested c.args.v _ refl

-- `tables::monomials::put_entry` meets its contract.
use mathlib.Core.Path.{refl}
use Rattle.tables.specs.Words.{put_at}
use Rattle.tables.proofs.monomials.put_entry.Goals as goal

pub returns : goal.returns
unfolding put_at
returns c = refl

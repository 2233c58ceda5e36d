-- What a record that is a value of its type has: twenty slots, and the words of 210 second slots.
use mathlib.Core.Path.{◌≡◌}
use mathlib.Core.List.{List}
use mir.Val.{Val}
use lib.ListN.{length}
use denote.Laws.{Is}
use denote.Struct.Laws as LL
use Rattle.opening.specs.declared.First.{First}
use Rattle.opening.specs.declared.Record.{Record}
use Rattle.opening.specs.contracts.First as F
use Rattle.opening.proofs.First.TheLaws as F'
use Rattle.opening.specs.contracts.Record as T
use Rattle.opening.proofs.Record.TheLaws as T'

pub slots_long : (r : First) (vs : List Val) → Is F.the_row r vs → length r.slots ≡ 20
slots_long r vs is = (LL.owed F.the_type F'.the_laws r vs is).1.1.1.1.0.1.0.1

pub seconds_long : (r : Record) (vs : List Val) → Is T.the_row r vs → length r.seconds ≡ 420
seconds_long r vs is = (LL.owed T.the_type T'.the_laws r vs is).1.1.1.1.1.0.1.0.1

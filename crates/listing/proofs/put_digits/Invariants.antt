use mathlib.Core.Path.{◌≡◌}
use mathlib.Core.List.{◌++◌}
use Prim.Native.Nat.{◌-◌}
use lib.ListN.{length, take, drop}
use Rattle.listing.specs.Listing.{digits_of}
use Rattle.listing.proofs.put_digits.Given as goal

abbrev pub invariant-loop-next : goal.invariant-loop-next
invariant-loop-next l = (length l.text ≡ length l.initial.text) × (take l.next l.text ++ digits_of (l.end - l.next) l.rest ≡ take l.at l.initial.text ++ digits_of l.n l.x) × (drop l.next l.text ≡ drop l.next l.initial.text)

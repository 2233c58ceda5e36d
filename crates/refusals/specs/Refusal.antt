-- Document 01's refusal numbers, one for each case, an illegal pair's with 256 times the number of its entry; and what a refusal leaves of what was lent.
use Rattle.std.specs.Prelude.{Bool, ℕ, ◌+◌, ◌*◌, ltb, Ok, Err, Result}
use Rattle.refusals.specs.declared.Refusal.{Refusal}
use Rattle.refusals.specs.declared.Refusal.TheVariants.{Size, Length, Pair, Range, Record, Budget, List, Shape, Order, Limits, Vertex, Count, Long, Edges, Room}
use Rattle.refusals.specs.Choice.{pick}
use Rattle.refusals.specs.Limits.{most_unknowns, most_equations}

-- what an operation says that writes its result into what it was lent: nothing, or why it refuses
abbrev pub Verdict : Type 0
Verdict = Result Unit Refusal

abbrev pub done : Verdict
done = Ok tt

abbrev pub number_of : Refusal → ℕ
number_of Size = 1
number_of Length = 2
number_of (Pair k) = 3 + 256 * k
number_of Range = 4
number_of Record = 5
number_of Budget = 6
number_of List = 7
number_of Shape = 10
number_of Order = 11
number_of Limits = 12
number_of Vertex = 13
number_of Count = 14
number_of Long = 15
number_of Edges = 16
number_of Room = 18

-- the number that a caller gets: 0 where nothing was refused
abbrev pub code_of : Verdict → ℕ
code_of (Ok _) = 0
code_of (Err r) = number_of r

-- r where the test holds, else what is asked next
abbrev pub refuse : Bool → Refusal → Verdict → Verdict
refuse b r v = pick b (Err r) v

-- refusal 1: n not 1 to 20, or m not 1 to 64
abbrev pub sized_unknowns : ℕ → Verdict → Verdict
sized_unknowns n v = refuse (ltb n 1) Size (refuse (ltb most_unknowns n) Size v)

abbrev pub sized : ℕ → ℕ → Verdict → Verdict
sized n m v = sized_unknowns n (refuse (ltb m 1) Size (refuse (ltb most_equations m) Size v))

-- what was lent, after: the new contents, or on a refusal the old ones
abbrev pub after : {A : Type 0} → Verdict → A → A → A
after (Ok _) old new = new
after (Err r) old new = old

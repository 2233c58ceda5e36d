-- C-12's counts, and the numbers of triples, computed.
use mathlib.Core.Path.{◌≡◌, refl}
use Rattle.tables.specs.Monomials.{count_of, row_start}
use Rattle.cubic_tables.specs.Order.{triple_start, cubic_count, triple_index, key_of}

pub count_twenty : cubic_count 20 ≡ 1751
unfolding cubic_count triple_start count_of row_start
count_twenty = refl

pub count_two : cubic_count 2 ≡ 8
unfolding cubic_count triple_start count_of row_start
count_two = refl

pub count_one : cubic_count 1 ≡ 3
unfolding cubic_count triple_start count_of row_start
count_one = refl

-- after the six of degree up to 2: x0 x0 x1, then x0 x1 x1
pub first_triple : triple_index 2 0 0 1 ≡ 6
unfolding triple_index triple_start count_of row_start
first_triple = refl

pub second_triple : triple_index 2 0 1 1 ≡ 7
unfolding triple_index triple_start count_of row_start
second_triple = refl

pub last_triple : triple_index 20 18 19 19 ≡ 1750
unfolding triple_index triple_start count_of row_start
last_triple = refl

pub first_base : key_of 20 0 ≡ 230
unfolding key_of triple_start count_of row_start
first_base = refl

pub second_base : key_of 20 1 ≡ 419
unfolding key_of triple_start count_of row_start
second_base = refl

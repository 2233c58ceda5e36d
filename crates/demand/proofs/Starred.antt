-- The starred cases of document 01 and those of degree 3: each table is one statement, computed from the definitions.
use mathlib.Core.Path.{◌≡◌, refl, ap, ◌∙◌}
use mathlib.Core.List.{List, [], ◌∷◌, map}
use Prim.Native.Nat.{ℕ, suc, ◌+◌, ◌^◌, ◌≤◌}
use native.Mathlib.Omega.{arith}
use lib.IntN.{ℤ}
use lib.ListN.{length, get_or}
use Rattle.refusals.specs.Limits.{Within}
use Rattle.residues.specs.Sums.{sum, same}
use Rattle.trits.specs.Trit.{bit, trit, from_bits, of_trits}
use Rattle.trits.specs.Words.{product_of}
use Rattle.positions.specs.Positions.{lowest_in, lowest_of, positions_in, positions, latest}
use Rattle.gray.specs.Numbers.{digit, number, point_digit, point_of}
use Rattle.balanced.specs.Balanced.{signed_digit, balanced_of}
use Rattle.polynomials.specs.Poly.{value_of, bumped, change_by, prev, table_of, prev_of, back_of}
use Rattle.cubics.specs.Cubic.{cubes_of, cubic_of}
use Rattle.tables.specs.Monomials.{count_of, row_start, index_of, product_nth, nth}
use Rattle.tables.specs.Words.{entry, tabled, legal_front, poly_at, words_of, packed, differences_of}
use Rattle.cubic_tables.specs.Order.{triple_start, cubic_count, triple_index, plane_of, triple_nth, cubic_nth, monomials_of}
use Rattle.cubic_tables.specs.Words.{cubic_at, cubic_words, cubic_packed, table_cubic, cubic_differences}
use Rattle.walks.specs.Calls.{Trail, zeros_in, cost_in, points_in, report_of, list_after}
use Rattle.walks.specs.Runs.{Request, Asks, ran_by}
use Rattle.held.specs.Held as held
use Rattle.held.specs.Stands.{zeros}
use Rattle.given.specs.declared.Degree.TheVariants.{Three}
use Rattle.given.specs.Given.{Given, values_of}
use Rattle.given.specs.Slots.{value_at, slot_at, slots_at, second_at, seconds_at}
use Rattle.opening.specs.declared.Record.{Record}
use Rattle.opening.specs.Opened.{opened_at}
use Rattle.outcomes.specs.Search.{trail_behind, same_list, same_record}
use Rattle.demand.specs.Session.{call_of}
use Rattle.demand.specs.Rows.{total, coefficient, row_at, rows_table, rows_trail}
use Rattle.demand.specs.Cases.{numbers, ask, call, call_after, starred_rows, dense, empty, product, single, cubic_rows}
use Rattle.demand.proofs.SessionLaw.{willing}
use Rattle.demand.proofs.RowsLaw.{walk_rows, made_checked}

pub starred : map (λ r. r.gives) starred_rows ≡ map (λ r. r.says) starred_rows
unfolding sum same bit trit from_bits of_trits product_of lowest_in lowest_of positions_in positions latest digit number point_digit point_of signed_digit balanced_of value_of bumped change_by prev table_of prev_of back_of count_of row_start index_of product_nth nth entry tabled legal_front poly_at words_of packed differences_of zeros_in cost_in points_in report_of list_after values_of value_at slot_at slots_at second_at seconds_at opened_at zeros trail_behind same_list same_record call_of
starred = refl

-- ---- degree 3: a call on the differences of a row is the call on the walk of the row's own values
module _ (n : ℕ) (c : List ℤ) (w : Within n 1) where
  abbrev g : Given
  g = rows_table Three n 1 c

  abbrev T : Trail
  T = rows_trail Three n 1 c

  runs : (p : ℕ) (q : Request) → p ≤ 3 ^ n → Asks q → call_of g (opened_at g p) q ≡ ran_by T (opened_at g) p q
  unfolding trail_behind
  runs p q h a = willing g (made_checked Three n 1 c w) p q h a ∙ ap (λ (T : Trail). ran_by T (opened_at g) p q) (walk_rows Three n 1 c)

  first : (b k : ℕ) → Asks (ask b k) → (l : List ℤ) → numbers (ran_by T (opened_at g) 0 (ask b k)) ≡ l → call Three n c b k ≡ l
  first b k a l e = ap numbers (runs 0 (ask b k) (omega arith) a) ∙ e

  -- one more, after a call that came to place p
  second : (p a b k : ℕ) → p ≤ 3 ^ n → Asks (ask a k) → Asks (ask b k) → 0 + points_in T a (length (ask a k).list) 0 ≡ p
      → (l : List ℤ) → numbers (ran_by T (opened_at g) p (ask b k)) ≡ l → call_after Three n c a b k ≡ l
  second p a b k h x y f l e =
      ap (λ (s : Record). numbers (call_of g s (ask b k))) (ap (λ r. r.state) (runs 0 (ask a k) (omega arith) x) ∙ ap (opened_at g) f)
      ∙ ap numbers (runs p (ask b k) h y) ∙ e

sizes : (n : ℕ) → 1 ≤ n → n ≤ 20 → Within n 1
sizes n h l = record { least = h; most = l; one = omega arith; wide = omega arith }

asks : (b k : ℕ) → Asks (ask (suc b) (suc k))
asks b k = record { budget = omega arith; room = omega arith }

-- case k
abbrev Right : ℕ → Type 0
Right k = (get_or cubic_rows k (record { gives = []; says = [] })).gives ≡ (get_or cubic_rows k (record { gives = []; says = [] })).says

-- coefficients and differences
words_right : Right 0 × Right 1 × Right 2 × Right 8
unfolding sum same bit trit from_bits of_trits lowest_in lowest_of positions_in positions digit number point_digit point_of value_of cubes_of cubic_of count_of row_start index_of product_nth nth triple_start cubic_count triple_index plane_of triple_nth cubic_nth entry tabled cubic_at cubic_words cubic_packed table_cubic cubic_differences held.begins held.first_of held.latest_of held.change held.entry
words_right = (refl, refl, refl, refl)

-- calls
dense_list : Right 3
unfolding same bit trit from_bits of_trits lowest_in lowest_of positions_in positions digit number point_digit point_of count_of row_start product_nth nth triple_start cubic_count plane_of triple_nth cubic_nth monomials_of total coefficient row_at rows_trail zeros zeros_in cost_in points_in report_of list_after opened_at
dense_list = first 2 dense (sizes 2 (omega arith) (omega arith)) 9 9 (asks 8 8) _ refl

dense_full : Right 4
unfolding same bit trit from_bits of_trits lowest_in lowest_of positions_in positions digit number point_digit point_of count_of row_start product_nth nth triple_start cubic_count plane_of triple_nth cubic_nth monomials_of total coefficient row_at rows_trail zeros zeros_in cost_in points_in report_of list_after opened_at
dense_full = first 2 dense (sizes 2 (omega arith) (omega arith)) 9 2 (asks 8 1) _ refl

dense_spent : Right 5
unfolding same bit trit from_bits of_trits lowest_in lowest_of positions_in positions digit number point_digit point_of count_of row_start product_nth nth triple_start cubic_count plane_of triple_nth cubic_nth monomials_of total coefficient row_at rows_trail zeros zeros_in cost_in points_in report_of list_after opened_at
dense_spent = first 2 dense (sizes 2 (omega arith) (omega arith)) 4 9 (asks 3 8) _ refl

dense_on : Right 6
unfolding same bit trit from_bits of_trits lowest_in lowest_of positions_in positions digit number point_digit point_of count_of row_start product_nth nth triple_start cubic_count plane_of triple_nth cubic_nth monomials_of total coefficient row_at rows_trail zeros zeros_in cost_in points_in report_of list_after opened_at
dense_on = second 2 dense (sizes 2 (omega arith) (omega arith)) 4 4 9 9 (omega arith) (asks 3 8) (asks 8 8) refl _ refl

empty_list : Right 7
unfolding same bit trit from_bits of_trits lowest_in lowest_of positions_in positions digit number point_digit point_of count_of row_start product_nth nth triple_start cubic_count plane_of triple_nth cubic_nth monomials_of total coefficient row_at rows_trail zeros zeros_in cost_in points_in report_of list_after opened_at
empty_list = first 2 empty (sizes 2 (omega arith) (omega arith)) 9 9 (asks 8 8) _ refl

product_list : Right 9
unfolding same bit trit from_bits of_trits lowest_in lowest_of positions_in positions digit number point_digit point_of count_of row_start product_nth nth triple_start cubic_count plane_of triple_nth cubic_nth monomials_of total coefficient row_at rows_trail zeros zeros_in cost_in points_in report_of list_after opened_at
product_list = first 3 product (sizes 3 (omega arith) (omega arith)) 27 9 (asks 26 8) _ refl

product_spent : Right 10
unfolding same bit trit from_bits of_trits lowest_in lowest_of positions_in positions digit number point_digit point_of count_of row_start product_nth nth triple_start cubic_count plane_of triple_nth cubic_nth monomials_of total coefficient row_at rows_trail zeros zeros_in cost_in points_in report_of list_after opened_at
product_spent = first 3 product (sizes 3 (omega arith) (omega arith)) 20 9 (asks 19 8) _ refl

product_on : Right 11
unfolding same bit trit from_bits of_trits lowest_in lowest_of positions_in positions digit number point_digit point_of count_of row_start product_nth nth triple_start cubic_count plane_of triple_nth cubic_nth monomials_of total coefficient row_at rows_trail zeros zeros_in cost_in points_in report_of list_after opened_at
product_on = second 3 product (sizes 3 (omega arith) (omega arith)) 20 20 27 9 (omega arith) (asks 19 8) (asks 26 8) refl _ refl

single_list : Right 12
unfolding same bit trit from_bits of_trits lowest_in lowest_of positions_in positions digit number point_digit point_of count_of row_start product_nth nth triple_start cubic_count plane_of triple_nth cubic_nth monomials_of total coefficient row_at rows_trail zeros zeros_in cost_in points_in report_of list_after opened_at
single_list = first 1 single (sizes 1 (omega arith) (omega arith)) 3 3 (asks 2 2) _ refl

pub starred_cubic : map (λ r. r.gives) cubic_rows ≡ map (λ r. r.says) cubic_rows
starred_cubic = λ i.
    words_right.0 i ∷ words_right.1 i ∷ words_right.2 i ∷ dense_list i ∷ dense_full i ∷ dense_spent i ∷ dense_on i ∷ empty_list i
    ∷ words_right.3 i ∷ product_list i ∷ product_spent i ∷ product_on i ∷ single_list i ∷ []

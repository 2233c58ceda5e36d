-- From rows to zeros: what a user has who packs signed rows of either degree, takes the differences, opens at place 0 and searches until "ended".
use Rattle.std.specs.Prelude.{◌≡◌, ◌↔◌, List, map, ℕ, zero, suc, ◌+◌, ◌*◌, ◌^◌, ◌<◌, ℤ, pos, ◌+ℤ◌, ◌*ℤ◌, get_or}
use Rattle.refusals.specs.Refusal.{done}
use Rattle.residues.specs.Residue.{floor_mod}
use Rattle.gray.specs.Numbers.{digit, place_of}
use Rattle.tables.specs.Words.{packed, differences_of}
use Rattle.cubic_tables.specs.Order.{cubic_nth, monomials_of}
use Rattle.cubic_tables.specs.Words.{cubic_packed, cubic_differences}
use Rattle.walks.specs.Calls.{Trail}
use Rattle.walks.specs.Runs.{Request, Sums, SaysEnded}
use Rattle.walks.specs.Zeros.{Holds, Rising, Once}
use Rattle.given.specs.declared.Degree.{Degree}
use Rattle.given.specs.declared.Degree.TheVariants.{Two, Three}
use Rattle.held.specs.Stands.{trail_of}
use Rattle.given.specs.Given.{Given, depth_of, count_in, table_with}
use Rattle.operations.specs.Operations.{packed_into, copying, differences_into}
use Rattle.opening.specs.declared.Record.{Record}
use Rattle.opening.specs.Opened.{open_verdict, open_of, record_of}
use Rattle.demand.specs.Session.{session_of}

-- h 0 + .. + h (n - 1), over the integers
unfoldable pub total : ℕ → (ℕ → ℤ) → ℤ
total zero h = pos 0
total (suc n) h = total n h +ℤ h n

-- coefficient k of row e
unfoldable pub coefficient : Degree → ℕ → List ℤ → ℕ → ℕ → ℤ
coefficient d n rows e k = get_or rows (e * count_in d n + k) (pos 0)

-- row e at x, an ordinary polynomial with signed coefficients: the sum over the monomials of its degree, of which those up to degree 2 come first
unfoldable pub row_at : Degree → ℕ → List ℤ → ℕ → (ℕ → ℕ) → ℤ
row_at d n rows e x = total (count_in d n) (λ k. coefficient d n rows e k *ℤ pos (cubic_nth n (monomials_of x) k))

-- a point at which every row is 0 modulo 3
pub record RowsZero (d : Degree) (n m : ℕ) (rows : List ℤ) (x : ℕ) : Type 0 where
  pub point : x < 3 ^ n
  pub zero : (e : ℕ) → e < m → floor_mod 3 (row_at d n rows e (digit 3 x)) ≡ 0

-- l has exactly these points, each once, and their places rise
pub record ListsZeros (d : Degree) (n m : ℕ) (rows : List ℤ) (l : List ℕ) : Type 0 where
  pub all : (x : ℕ) → Holds x l ↔ RowsZero d n m rows x
  pub once : Once l
  pub order : Rising (map (place_of 3 n) l)

-- the table of differences of rows
abbrev pub rows_words : Degree → ℕ → ℕ → List ℤ → List ℕ
rows_words Two n m rows = differences_of n m (packed n m rows)
rows_words Three n m rows = cubic_differences n m (cubic_packed n m rows)

abbrev pub rows_table : Degree → ℕ → ℕ → List ℤ → Given
rows_table d n m rows = table_with d n m (rows_words d n m rows)

-- the walk of the rows by their own values
unfoldable pub rows_trail : Degree → ℕ → ℕ → List ℤ → Trail
rows_trail d n m rows = trail_of 3 (depth_of d) (λ e x. floor_mod 3 (row_at d n rows e x)) n m (3 ^ n)

-- the table as it is left, where c and t were lent to packing and to taking the differences
abbrev pub table_from : Degree → ℕ → ℕ → List ℤ → List ℕ → List ℕ → Given
table_from d n m rows c t = table_with d n m (differences_into d n m (packed_into d n m rows c) t)

-- the run of calls on the record that opening at place 0 gives
abbrev pub run_from : Given → List Request → Sums Record
run_from g qs = session_of g (record_of (open_of g 0)) qs

-- nothing on the way is refused, and every run whose last accepted answer is "ended" lists the zeros of the rows
pub record FromRows (d : Degree) (n m : ℕ) (rows : List ℤ) (c t : List ℕ) : Type 0 where
  pub differences : copying d n m (packed_into d n m rows c) t ≡ done
  pub table : table_from d n m rows c t ≡ rows_table d n m rows
  pub opened : open_verdict (table_from d n m rows c t) 0 ≡ done
  pub lists : (qs : List Request) → SaysEnded (run_from (table_from d n m rows c t) qs).told
      → ListsZeros d n m rows (run_from (table_from d n m rows c t) qs).listed

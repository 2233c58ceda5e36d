-- From rows to zeros, in either degree: the packed rows are the rows modulo 3, the differences have them as their system, and the search
-- lists its zeros.
use mathlib.Core.Path.{◌≡◌, refl, sym, ap, ap₂, subst, ◌∙◌}
use mathlib.Core.Logic.{◌↔◌}
use mathlib.Core.List.{List, [], ◌∷◌, map}
use Prim.Native.Nat.{ℕ, zero, suc, ◌+◌, ◌*◌, ◌%◌, ◌^◌, ◌≤◌, ◌<◌}
use native.Mathlib.Nat.{zero-add, add-zero, mod-eq_of_lt}
use native.Mathlib.Omega.{arith}
use lib.IntN.{ℤ, pos, ◌*ℤ◌}
use lib.ListN.{length, get_or}
use Rattle.refusals.specs.Refusal.{Verdict, sized, after, done}
use Rattle.refusals.proofs.RefusalLaw.{sized_within, sized_next}
use Rattle.refusals.specs.Limits.{Within}
use Rattle.residues.specs.Residue.{floor_mod}
use Rattle.residues.specs.Sums.{sum}
use Rattle.residues.proofs.SumLaw.{sum_ext}
use Rattle.residues.proofs.ModLaw.{Cong, cof, ◌⨾◌}
use Rattle.trits.specs.declared.Vector.{Vector}
use Rattle.trits.specs.Trit.{trit, of_trits}
use Rattle.trits.proofs.ExtLaw.{trit_of, legal_of}
use Rattle.gray.specs.Numbers.{digit, point_digit, point_of, place_of}
use Rattle.gray.proofs.MapLaw.{place_of_point}
use Rattle.polynomials.specs.Poly.{Poly, value_of, table_of}
use Rattle.polynomials.proofs.FormLaw.{half_three}
use Rattle.cubics.specs.Cubic.{Cubic, cubes_of, cubic_of}
use Rattle.tables.specs.Monomials.{count_of, nth}
use Rattle.tables.specs.Words.{entry, Entries, poly_at, packed_rows, packed, differences_of}
use Rattle.tables.specs.Answers.{rows_verdict, entries_verdict}
use Rattle.tables.proofs.WordLaw.{length_tabled, entry_tabled, front_whole, nth_poly}
use Rattle.tables.proofs.AgreeLaw.{agree_trans, back_agree, back_of_table}
use Rattle.tables.proofs.AnswerLaw.{copy_done}
use Rattle.tables.proofs.RoundLaw.{differences_table, differences_hold}
use Rattle.cubic_tables.specs.Order.{triple_start, cubic_count, cubic_nth, monomials_of}
use Rattle.cubic_tables.specs.Words.{cubic_at, cubic_packed, cubic_differences}
use Rattle.cubic_tables.proofs.OrderLaw.{cubic_count_is}
use Rattle.cubic_tables.proofs.NthLaw.{cubic_nth_low, cubic_nth_cube, cell}
use Rattle.cubic_tables.proofs.SumLaw.{in_order}
use Rattle.cubic_tables.proofs.WordsLaw.{cube_none, cubic_nth_at}
use Rattle.cubic_differences.proofs.FormLaw.{cubic_differences_table}
use Rattle.cubic_coefficients.proofs.ReturnLaw.{back_none}
use Rattle.cubic_coefficients.proofs.RoundLaw as round
use Rattle.held.specs.Stands.{zeros}
use Rattle.walks.specs.Runs.{Request, SaysEnded}
use Rattle.walks.specs.Zeros.{Rising, places_in}
use Rattle.walks.proofs.ZeroLaw.{places_in_lem, places_rise}
use Rattle.given.specs.declared.Degree.{Degree}
use Rattle.given.specs.declared.Degree.TheVariants.{Two, Three}
use Rattle.given.specs.Given.{Given, count_in, behind, cubic_behind, values_in, values_of, Checked}
use Rattle.given.proofs.TableLaw.{checked_if}
use Rattle.given.proofs.ValuesLaw.{value_agree, cubic_agree}
use Rattle.operations.specs.Operations.{packing, packed_into, copying, differences_into}
use Rattle.opening.specs.declared.Record.{Record}
use Rattle.opening.specs.Opened.{opened_at, open_verdict, open_of, record_of}
use Rattle.opening.proofs.PlaceLaw.{two}
use Rattle.opening.proofs.VerdictLaw.{verdict_done, opened_record}
use Rattle.outcomes.specs.Search.{trail_behind}
use Rattle.demand.specs.Session.{session_of}
use Rattle.demand.specs.Demand.{CommonZero, from_start}
use Rattle.demand.specs.Rows.{coefficient, row_at, RowsZero, ListsZeros, rows_words, rows_table, rows_trail, table_from, run_from, FromRows}
use Rattle.demand.proofs.SignedLaw.{Like, like_mul, like_sum, like_floor, floor_lt, floor_is}
use Rattle.demand.proofs.DemandLaw.{whole_walk, trans_iff}

some : 0 < 3
some = omega arith

-- ---- the value of a polynomial is the sum over its monomials, number by number: in degree 2 those of degree 3 are passed over
sum_front : (a b : ℕ) (h : ℕ → ℕ) → ((i : ℕ) → a ≤ i → i < a + b → h i ≡ 0) → sum (a + b) h ≡ sum a h
unfolding sum
sum_front a zero h z = ap (λ (x : ℕ). sum x h) (add-zero a)
sum_front a (suc b) h z =
    let s : a + suc b ≡ suc (a + b) = omega arith in
    ap (λ (x : ℕ). sum x h) s
    ∙ ap₂ (λ (x y : ℕ). x + y) (sum_front a b h (λ i k l. z i k (omega arith))) (z (a + b) (omega arith) (omega arith)) ∙ add-zero (sum a h)

sum_nil : (n : ℕ) (h : ℕ → ℕ) → ((i : ℕ) → i < n → h i ≡ 0) → sum n h ≡ 0
unfolding sum
sum_nil n h z = ap (λ (x : ℕ). sum x h) (sym (zero-add n)) ∙ sum_front 0 n h (λ i k l. z i (omega arith))

nothing : (y : ℕ) → 0 * y ≡ 0
nothing y = omega arith

module _ (n : ℕ) (f : Poly) (x : ℕ → ℕ) where
  abbrev F : Cubic
  F = record { const = f.const; lin = f.lin; quad = f.quad; cube = λ i j k. 0 }

  value_is : cubic_of F n x ≡ value_of f n x
  unfolding cubic_of cubes_of value_of
  value_is =
      ap (λ (y : ℕ). value_of f n x + y)
      (sum_nil n _ (λ i l. sum_nil _ _ (λ d k. sum_nil _ _ (λ e o. nothing _)))) ∙ add-zero (value_of f n x)

  past : (k : ℕ) → count_of n ≤ k → k < count_of n + triple_start n n → cubic_nth n F k * cubic_nth n (monomials_of x) k ≡ 0
  past k h l =
      let c = cell n k h (omega (arith, cubic_count_is n)) in
      ap (λ (y : ℕ). y * cubic_nth n (monomials_of x) k)
      (ap (cubic_nth n F) (sym c.number) ∙ cubic_nth_cube n F c.b c.c c.d c.low c.high c.apart c.end)
      ∙ nothing (cubic_nth n (monomials_of x) k)

  low_order : value_of f n x ≡ sum (count_of n) (λ k. nth n f k * cubic_nth n (monomials_of x) k)
  low_order =
      sym value_is ∙ in_order n F (λ i. refl) x
      ∙ ap (λ (y : ℕ). sum y (λ k. cubic_nth n F k * cubic_nth n (monomials_of x) k)) (cubic_count_is n)
      ∙ sum_front (count_of n) (triple_start n n) (λ k. cubic_nth n F k * cubic_nth n (monomials_of x) k) past
      ∙ sum_ext (count_of n) (λ k. cubic_nth n F k * cubic_nth n (monomials_of x) k) (λ k. nth n f k * cubic_nth n (monomials_of x) k)
      (λ k l. ap (λ (y : ℕ). y * cubic_nth n (monomials_of x) k) (cubic_nth_low n F k l))

-- ---- the system behind the differences of a coefficient table is the one that the table holds
module _ (n m : ℕ) (c : List ℕ) (e : ℕ) (l : e < m) (x : ℕ → ℕ) where
  sum_two : Cong 3 (value_of (behind n (differences_of n m c) e) n x) (sum (count_of n) (λ k. trit (entry c k) e * cubic_nth n (monomials_of x) k))
  sum_two =
      value_agree 3 n (behind n (differences_of n m c) e) (poly_at n c e)
      (agree_trans
      (back_agree 3 two n (poly_at n (differences_of n m c) e) (table_of 3 (poly_at n c e)) (differences_hold n m c e l) 2 half_three)
      (back_of_table 3 two 2 half_three n (poly_at n c e))) x
      ⨾ cof (low_order n (poly_at n c e) x
      ∙ sum_ext (count_of n) (λ k. nth n (poly_at n c e) k * cubic_nth n (monomials_of x) k) (λ k. trit (entry c k) e * cubic_nth n (monomials_of x) k)
      (λ k h. ap (λ (y : ℕ). y * cubic_nth n (monomials_of x) k) (nth_poly n c e k h)))

  sum_three : Cong 3 (cubic_of (cubic_behind n (cubic_differences n m c) e) n x) (sum (cubic_count n) (λ k. trit (entry c k) e * cubic_nth n (monomials_of x) k))
  sum_three =
      cubic_agree n (cubic_behind n (cubic_differences n m c) e) (cubic_at n c e)
      (round.back_of_table n (cubic_at n (cubic_differences n m c) e) (cubic_at n c e) (cube_none n c e) (round.differences_hold n m c e l))
      (back_none n (cubic_at n (cubic_differences n m c) e)) (cube_none n c e) x
      ⨾ cof (in_order n (cubic_at n c e) (cube_none n c e) x
      ∙ sum_ext (cubic_count n) (λ k. cubic_nth n (cubic_at n c e) k * cubic_nth n (monomials_of x) k) (λ k. trit (entry c k) e * cubic_nth n (monomials_of x) k)
      (λ k h. ap (λ (y : ℕ). y * cubic_nth n (monomials_of x) k) (cubic_nth_at n c e k h)))

-- ---- packed rows of N numbers
module _ (N m : ℕ) (rows : List ℤ) where
  rows_table_lem : Entries N m (packed_rows N m rows)
  rows_table_lem =
      record {
        size = length_tabled _ _;
        legal = λ k h. rw (entry_tabled N (λ k. of_trits m (λ e. floor_mod 3 (get_or rows (e * N + k) (pos 0)))) k h) (legal_of m (λ e. floor_mod 3 (get_or rows (e * N + k) (pos 0))));
      }

  trit_row : (e k : ℕ) → e < m → k < N → trit (entry (packed_rows N m rows) k) e ≡ floor_mod 3 (get_or rows (e * N + k) (pos 0))
  trit_row e k l h =
      ap (λ (v : Vector). trit v e) (entry_tabled N (λ k. of_trits m (λ e. floor_mod 3 (get_or rows (e * N + k) (pos 0)))) k h)
      ∙ trit_of m (λ e. floor_mod 3 (get_or rows (e * N + k) (pos 0))) e l ∙ mod-eq_of_lt (floor_lt 3 some (get_or rows (e * N + k) (pos 0)))

-- ---- what the operations answer and leave, for both degrees
packing_is : (d : Degree) (n m : ℕ) (rows : List ℤ) (c : List ℕ) → packing d n m rows c ≡ sized n m (rows_verdict (count_in d n) m rows c)
packing_is Two n m rows c = refl
packing_is Three n m rows c = refl

packed_is : (d : Degree) (n m : ℕ) (rows : List ℤ) (c : List ℕ) → packing d n m rows c ≡ done → packed_into d n m rows c ≡ packed_rows (count_in d n) m rows
unfolding packed cubic_packed
packed_is Two n m rows c ok = ap (λ (v : Verdict). after v c (packed n m rows)) ok
packed_is Three n m rows c ok = ap (λ (v : Verdict). after v c (cubic_packed n m rows)) ok

copying_is : (d : Degree) (n m : ℕ) (from to : List ℕ) → copying d n m from to ≡ sized n m (entries_verdict (count_in d n) m from to)
copying_is Two n m from to = refl
copying_is Three n m from to = refl

differences_are : (d : Degree) (n m : ℕ) (rows : List ℤ) (c t : List ℕ) → c ≡ packed_rows (count_in d n) m rows → copying d n m c t ≡ done
    → differences_into d n m c t ≡ rows_words d n m rows
unfolding packed cubic_packed
differences_are Two n m rows c t e ok = ap (λ (v : Verdict). after v t (differences_of n m c)) ok ∙ ap (differences_of n m) e
differences_are Three n m rows c t e ok = ap (λ (v : Verdict). after v t (cubic_differences n m c)) ok ∙ ap (cubic_differences n m) e

words_legal : (d : Degree) (n m : ℕ) (rows : List ℤ) → Entries (count_in d n) m (rows_words d n m rows)
words_legal Two n m rows = differences_table n m (packed n m rows)
words_legal Three n m rows = cubic_differences_table n m (cubic_packed n m rows)

values_sum : (d : Degree) (n m : ℕ) (rows : List ℤ) (e : ℕ) → e < m → (x : ℕ → ℕ)
    → Cong 3 (values_in d n (rows_words d n m rows) e x) (sum (count_in d n) (λ k. trit (entry (packed_rows (count_in d n) m rows) k) e * cubic_nth n (monomials_of x) k))
unfolding packed cubic_packed
values_sum Two n m rows e l x = sum_two n m (packed n m rows) e l x
values_sum Three n m rows e l x = sum_three n m (cubic_packed n m rows) e l x

-- whether values are zeros depends on their remainders alone
zeros_ext : (m : ℕ) (f h : ℕ → ℕ) → ((e : ℕ) → e < m → f e % 3 ≡ h e % 3) → zeros 3 m f ≡ zeros 3 m h
unfolding zeros
zeros_ext zero f h s = refl
zeros_ext (suc m) f h s = rw (zeros_ext m f h (λ e l. s e (omega arith)), s m (omega arith))

module _ (d : Degree) (n m : ℕ) (rows : List ℤ) where
  abbrev made : Given
  made = rows_table d n m rows

  like_row : (e k : ℕ) → e < m → k < count_in d n → Like 3 some (coefficient d n rows e k) (trit (entry (packed_rows (count_in d n) m rows) k) e)
  unfolding coefficient
  like_row e k l h = rw (trit_row (count_in d n) m rows e k l h) (like_floor 3 some (coefficient d n rows e k))

  like_value : (e : ℕ) → e < m → (x : ℕ → ℕ) → Like 3 some (row_at d n rows e x) (sum (count_in d n) (λ k. trit (entry (packed_rows (count_in d n) m rows) k) e * cubic_nth n (monomials_of x) k))
  unfolding row_at
  like_value e l x =
      like_sum 3 some (count_in d n) (λ k. coefficient d n rows e k *ℤ pos (cubic_nth n (monomials_of x) k))
      (λ k. trit (entry (packed_rows (count_in d n) m rows) k) e * cubic_nth n (monomials_of x) k)
      (λ k h. like_mul 3 some (cubic_nth n (monomials_of x) k) (like_row e k l h))

  -- its values are those of the rows
  pub value_rows : (e : ℕ) → e < m → (x : ℕ → ℕ) → values_of made e x % 3 ≡ floor_mod 3 (row_at d n rows e x)
  unfolding values_of
  value_rows e l x = (values_sum d n m rows e l x).same ∙ sym (floor_is 3 some (row_at d n rows e x) _ (like_value e l x))

  -- its walk is that of the rows
  zero_same : (p : ℕ) → zeros 3 m (λ e. values_of made e (point_digit 3 p)) ≡ zeros 3 m (λ e. floor_mod 3 (row_at d n rows e (point_digit 3 p)))
  zero_same p =
      zeros_ext m (λ e. values_of made e (point_digit 3 p)) (λ e. floor_mod 3 (row_at d n rows e (point_digit 3 p)))
      (λ e l. value_rows e l (point_digit 3 p) ∙ sym (mod-eq_of_lt (floor_lt 3 some (row_at d n rows e (point_digit 3 p)))))

  pub walk_rows : trail_behind made ≡ rows_trail d n m rows
  unfolding trail_behind rows_trail
  walk_rows = λ i. record { end = 3 ^ n; zero_at = λ p. zero_same p i; entry = point_of 3 n; cost = (trail_behind made).cost }

  -- its common zeros are the zeros of the rows
  pub zero_rows : (x : ℕ) → CommonZero made x ↔ RowsZero d n m rows x
  zero_rows x = (
    λ z. record { point = z.point; zero = λ e l. sym (value_rows e l (digit 3 x)) ∙ z.zero e l },
    λ z. record { point = z.point; zero = λ e l. value_rows e l (digit 3 x) ∙ z.zero e l },
  )

  pub made_checked : Within n m → Checked made
  made_checked w = checked_if made w (words_legal d n m rows)

-- ---- places of points in Gray order
places_back : (n : ℕ) (l : List ℕ) → ((i : ℕ) → i < length l → get_or l i 0 < 3 ^ n) → map (place_of 3 n) (map (point_of 3 n) l) ≡ l
places_back n [] h = refl
places_back n (x ∷ l) h =
    ap₂ (λ (y : ℕ) (k : List ℕ). y ∷ k) (place_of_point 3 two n x (h 0 (omega arith))) (places_back n l (λ i k. h (suc i) (omega arith)))

-- ---- the whole way, where nothing is refused
module _ (d : Degree) (n m : ℕ) (rows : List ℤ) (c t : List ℕ) (ok : packing d n m rows c ≡ done) (room : length t ≡ 2 * count_in d n) where
  abbrev g : Given
  g = rows_table d n m rows

  abbrev words : List ℕ
  words = packed_rows (count_in d n) m rows

  inside : Within n m
  inside = sized_within n m (rows_verdict (count_in d n) m rows c) (sym (packing_is d n m rows c) ∙ ok)

  left : packed_into d n m rows c ≡ words
  left = packed_is d n m rows c ok

  copies : copying d n m (packed_into d n m rows c) t ≡ done
  copies =
      let a = rows_table_lem (count_in d n) m rows in
      ap (λ (w : List ℕ). copying d n m w t) left ∙ copying_is d n m words t ∙ sized_next n m (entries_verdict (count_in d n) m words t) inside
      ∙ copy_done (count_in d n) m words t a.size room (count_in d n) (sym ((front_whole m (count_in d n) words a.size).1 a.legal)) (omega arith)

  table_is : table_from d n m rows c t ≡ g
  table_is = ap (λ (w : List ℕ). record { n = n; m = m; degree = d; words = w }) (differences_are d n m rows (packed_into d n m rows c) t left copies)

  checked : Checked g
  checked = made_checked d n m rows inside

  opens : open_verdict g 0 ≡ done
  opens = verdict_done g 0 checked (omega arith)

  opened_is : record_of (open_of g 0) ≡ opened_at g 0
  opened_is = opened_record g 0 checked (omega arith)

  whole : (qs : List Request) → SaysEnded (from_start g qs).told → ListsZeros d n m rows (from_start g qs).listed
  whole qs e =
      let w = whole_walk g checked qs e in
      let T = trail_behind g in
      let b : map (place_of 3 n) (from_start g qs).listed ≡ places_in T 0 (3 ^ n)
      = ap (map (place_of 3 n)) w.order ∙ places_back n (places_in T 0 (3 ^ n)) (λ i l. omega (arith, (places_in_lem T 0 (3 ^ n) i l).below)) in
      record {
        all = λ x. trans_iff (w.all x) (zero_rows d n m rows x);
        once = w.once;
        order = subst Rising (sym b) (places_rise T 0 (3 ^ n));
      }

  -- pack the rows, take the differences, open at 0, search until the last accepted answer is "ended":
  -- the listed points are exactly those at which every row is 0 modulo 3, each once, in Gray order
  pub from_rows : FromRows d n m rows c t
  from_rows =
      record {
        differences = copies;
        table = table_is;
        opened = ap (λ (g : Given). open_verdict g 0) table_is ∙ opens;
        lists = λ qs. subst (λ (g : Given). SaysEnded (run_from g qs).told → ListsZeros d n m rows (run_from g qs).listed) (sym table_is)
            (subst (λ (r : Record). SaysEnded (session_of g r qs).told → ListsZeros d n m rows (session_of g r qs).listed) (sym opened_is) (whole qs));
      }

-- The slots and second slots of a table at a place, one by one.
use mathlib.Core.Path.{◌≡◌, refl, sym, ap, ap₂, ◌∙◌}
use mathlib.Core.Bool.{Bool}
use mathlib.Core.List.{List, [], ◌∷◌, ◌++◌}
use Prim.Native.Nat.{ℕ, zero, suc, ◌+◌, ◌-◌, ◌*◌, ◌≤◌, ◌<◌}
use native.Mathlib.Omega.{arith}
use lib.ListN.{length, get_or, replicate, length-append, get_or-append}
use lib.Seq.{ext_get_or, get_or-append-add}
use borrow.Author.Tests.{lt-ltb, le-ltb}
use Rattle.refusals.specs.Choice.{pick}
use Rattle.trits.specs.declared.Vector.{Vector}
use Rattle.trits.specs.Trit.{of_trits, none}
use Rattle.positions.specs.Positions.{latest}
use Rattle.gray.specs.Numbers.{point_digit}
use Rattle.held.specs.Held.{along, held}
use Rattle.polynomials.specs.Poly.{change_by}
use Rattle.tables.specs.Monomials.{row_start}
use Rattle.tables.specs.Words.{entry, tabled}
use Rattle.tables.proofs.MonomialLaw.{row_peel}
use Rattle.tables.proofs.WordLaw.{length_tabled, entry_tabled}
use Rattle.tables.proofs.WriteLaw.{entries_ext}
use Rattle.cubic_tables.specs.Order.{seat_of}
use Rattle.cubic_tables.proofs.PairLaw.{pair_row, seat_of_lem}
use Rattle.given.specs.Given.{Given, quadratic, cubic, values_of}
use Rattle.given.specs.Slots.{slot_at, slots_at, second_at, seconds_at}

-- ---- slots
module _ (g : Given) where
  pub slot_used : (q b : ℕ) → b < g.n → slot_at g q b ≡ of_trits g.m (λ e. change_by 3 (values_of g e) b (point_digit 3 (latest 3 b q - 1)))
  unfolding slot_at
  slot_used q b h = ap (λ (z : Bool). pick z (of_trits g.m (λ e. change_by 3 (values_of g e) b (point_digit 3 (latest 3 b q - 1)))) none) (lt-ltb b g.n h)

  pub slot_none : (q b : ℕ) → g.n ≤ b → slot_at g q b ≡ none
  unfolding slot_at
  slot_none q b h = ap (λ (z : Bool). pick z (of_trits g.m (λ e. change_by 3 (values_of g e) b (point_digit 3 (latest 3 b q - 1)))) none) (le-ltb b g.n h)

  pub slots_length : (q b k : ℕ) → length (slots_at g q b k) ≡ k
  unfolding slots_at
  slots_length q b zero = refl
  slots_length q b (suc k) = ap suc (slots_length q (suc b) k)

  slots_from : (q b k i : ℕ) → i < k → get_or (slots_at g q b k) i none ≡ slot_at g q (b + i)
  unfolding slots_at
  slots_from q b zero i h = absurd (omega arith)
  slots_from q b (suc k) zero h = ap (slot_at g q) (plain b)
    where
      plain : (b : ℕ) → b ≡ b + 0
      plain b = omega arith
  slots_from q b (suc k) (suc i) h = slots_from q (suc b) k i (omega arith) ∙ ap (slot_at g q) (shift b i)
    where
      shift : (b i : ℕ) → suc b + i ≡ b + suc i
      shift b i = omega arith

  pub slots_at_lem : (q k i : ℕ) → i < k → get_or (slots_at g q 0 k) i none ≡ slot_at g q i
  slots_at_lem q k i h = slots_from q 0 k i h ∙ ap (slot_at g q) (plain i)
    where
      plain : (i : ℕ) → 0 + i ≡ i
      plain i = omega arith

  -- twenty slots that are right one by one
  pub slots_are : (q : ℕ) (s : List Vector) → length s ≡ 20 → ((b : ℕ) → b < 20 → get_or s b none ≡ slot_at g q b) → s ≡ slots_at g q 0 20
  slots_are q s long h =
      ext_get_or none s (slots_at g q 0 20) (long ∙ sym (slots_length q 0 20))
      (λ i l. let j : i < 20 = omega arith in h i j ∙ sym (slots_at_lem q 20 i j))

-- ---- second slots
pub second_used : (n m : ℕ) (t : List ℕ) (q b c : ℕ) → c < n → second_at (cubic n m t) q b c ≡ of_trits m (λ e. held 3 (along 3 (values_of (cubic n m t) e)) (b ∷ c ∷ []) q)
unfolding second_at
second_used n m t q b c h = ap (λ (z : Bool). pick z (of_trits m (λ e. held 3 (along 3 (values_of (cubic n m t) e)) (b ∷ c ∷ []) q)) none) (lt-ltb c n h)

pub second_none : (n m : ℕ) (t : List ℕ) (q b c : ℕ) → n ≤ c → second_at (cubic n m t) q b c ≡ none
unfolding second_at
second_none n m t q b c h = ap (λ (z : Bool). pick z (of_trits m (λ e. held 3 (along 3 (values_of (cubic n m t) e)) (b ∷ c ∷ []) q)) none) (le-ltb c n h)

-- in degree 2 they are zero
pub second_two : (n m : ℕ) (t : List ℕ) (q b c : ℕ) → second_at (quadratic n m t) q b c ≡ none
unfolding second_at
second_two n m t q b c = refl

-- an entry of two tables joined
entry_left : (x y : List ℕ) (j k : ℕ) → length x ≡ 2 * j → k < j → entry (x ++ y) k ≡ entry x k
unfolding entry
entry_left x y j k e h = λ i. record { high = get_or-append x y 0 (2 * k) (omega arith) i; low = get_or-append x y 0 (2 * k + 1) (omega arith) i }

entry_right : (x y : List ℕ) (j k : ℕ) → length x ≡ 2 * j → entry (x ++ y) (j + k) ≡ entry y k
unfolding entry
entry_right x y j k e =
    λ i. record { high = at (2 * (j + k)) (2 * k) (omega arith) i; low = at (2 * (j + k) + 1) (2 * k + 1) (omega arith) i }
  where
    at : (p r : ℕ) → p ≡ 2 * j + r → get_or (x ++ y) p 0 ≡ get_or y r 0
    at p r s = let z : p ≡ length x + r = omega arith in ap (λ (u : ℕ). get_or (x ++ y) u 0) z ∙ get_or-append-add x y r 0

module _ (g : Given) (q : ℕ) where
  seconds_length : (b k : ℕ) → length (seconds_at g q b k) ≡ 2 * row_start k k
  unfolding seconds_at row_start
  seconds_length b zero = refl
  seconds_length b (suc k) =
      let e = length_tabled (suc k) (λ i. second_at g q b (b + i)) in
      length-append (tabled (suc k) (λ i. second_at g q b (b + i))) (seconds_at g q (suc b) k)
      ∙ omega (arith, e, seconds_length (suc b) k, row_peel k k)

  pub seconds_long : length (seconds_at g q 0 20) ≡ 420
  unfolding row_start
  seconds_long = seconds_length 0 20

  -- place d of row a, of r rows that start at row b
  seconds_from_lem : (b r a d : ℕ) → a + d < r → entry (seconds_at g q b r) (row_start r a + d) ≡ second_at g q (b + a) (b + a + d)
  unfolding seconds_at row_start
  seconds_from_lem b zero a d h = absurd (omega arith)
  seconds_from_lem b (suc r) zero d h =
      let row = tabled (suc r) (λ i. second_at g q b (b + i)) in
      ap (entry (row ++ seconds_at g q (suc b) r)) (start d)
      ∙ entry_left row (seconds_at g q (suc b) r) (suc r) d (length_tabled (suc r) (λ i. second_at g q b (b + i))) (omega arith)
      ∙ entry_tabled (suc r) (λ i. second_at g q b (b + i)) d (omega arith) ∙ ap (λ (x : ℕ). second_at g q x (x + d)) (plain b)
    where
      start : (d : ℕ) → 0 + d ≡ d
      start d = omega arith

      plain : (b : ℕ) → b ≡ b + 0
      plain b = omega arith
  seconds_from_lem b (suc r) (suc a) d h =
      let row = tabled (suc r) (λ i. second_at g q b (b + i)) in
      ap (entry (row ++ seconds_at g q (suc b) r)) (ap (λ (x : ℕ). x + d) (row_peel r a) ∙ left (suc r) (row_start r a) d)
      ∙ entry_right row (seconds_at g q (suc b) r) (suc r) (row_start r a + d) (length_tabled (suc r) (λ i. second_at g q b (b + i)))
      ∙ seconds_from_lem (suc b) r a d (omega arith) ∙ ap (λ (x : ℕ). second_at g q x (x + d)) (next b a)
    where
      left : (x y z : ℕ) → x + y + z ≡ x + (y + z)
      left x y z = omega arith

      next : (b a : ℕ) → suc b + a ≡ b + suc a
      next b a = omega arith

  pub seconds_at_lem : (b c : ℕ) → b ≤ c → c < 20 → entry (seconds_at g q 0 20) (seat_of b c) ≡ second_at g q b c
  seconds_at_lem b c h l =
      ap (entry (seconds_at g q 0 20)) (pair_row 20 b c h l) ∙ seconds_from_lem 0 20 b (c - b) (omega arith) ∙ ap₂ (second_at g q) (plain b) (end b c h)
    where
      plain : (b : ℕ) → 0 + b ≡ b
      plain b = omega arith

      end : (b c : ℕ) → b ≤ c → 0 + b + (c - b) ≡ c
      end b c h = omega arith

  -- words that are right pair by pair
  pub seconds_are : (w : List ℕ) → length w ≡ 420 → ((b c : ℕ) → b ≤ c → c < 20 → entry w (seat_of b c) ≡ second_at g q b c) → w ≡ seconds_at g q 0 20
  seconds_are w long h =
      entries_ext 210 w (seconds_at g q 0 20) long seconds_long
      (λ k l.
      let s = seat_of_lem k l in
      let e : entry w (seat_of s.first s.second) ≡ entry (seconds_at g q 0 20) (seat_of s.first s.second)
      = h s.first s.second s.order s.below ∙ sym (seconds_at_lem s.first s.second s.order s.below) in
      rw s.is at e)

-- none has a word in degree 2
pub seconds_two : (n m : ℕ) (t : List ℕ) (q : ℕ) → ◌≡◌ {A = List ℕ} (replicate 420 0) (seconds_at (quadratic n m t) q 0 20)
unfolding entry
seconds_two n m t q =
    seconds_are (quadratic n m t) q (replicate 420 0) refl
    (λ b c h l. (λ i. record { high = zeros 420 (2 * seat_of b c) i; low = zeros 420 (2 * seat_of b c + 1) i }) ∙ sym (second_two n m t q b c))
  where
    zeros : (k i : ℕ) → ◌≡◌ {A = ℕ} (get_or (replicate k 0) i 0) 0
    zeros zero i = refl
    zeros (suc k) zero = refl
    zeros (suc k) (suc i) = zeros k i

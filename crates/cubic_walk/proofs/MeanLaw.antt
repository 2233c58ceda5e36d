-- The engine's move is the move of what its states hold, in degree 3; and what value, slots, second slots and table stand for.
use mathlib.Core.Path.{◌≡◌, refl, sym, ap, ◌∙◌}
use mathlib.Core.List.{List, [], ◌∷◌}
use mathlib.Core.Logic.{by_cases}
use Prim.Native.Nat.{ℕ, zero, suc, ◌+◌, ◌-◌, ◌*◌, ◌%◌, ◌^◌, ◌<◌, ◌≤◌}
use native.Mathlib.Nat.{mod-mod, mul-zero}
use native.Mathlib.Decide.{ℕ_discrete, dec_lt}
use native.Mathlib.Omega.{arith}
use lib.ListN.{length, get_or, length-set}
use lib.Seq.{get_or-set_other, ext_get_or}
use Rattle.residues.specs.Sums.{same}
use Rattle.residues.proofs.SumLaw.{same_self, same_other}
use Rattle.trits.specs.declared.Vector.{Vector}
use Rattle.trits.specs.Trit.{trit, Holds, of_trits, none}
use Rattle.trits.specs.Words.{add_of}
use Rattle.trits.proofs.HoldLaw.{holds_is, is_holds, holds_ext}
use Rattle.positions.specs.Positions.{lowest_of, positions, latest}
use Rattle.positions.proofs.LowestLaw.{of_zero}
use Rattle.positions.proofs.PositionLaw.{positions_none, positions_next}
use Rattle.gray.specs.Numbers.{point_digit}
use Rattle.tables.specs.Words.{entry}
use Rattle.tables.proofs.WriteLaw.{length_put, entry_other, entries_ext}
use Rattle.tables.proofs.VectorLaw.{of_self}
use Rattle.held.specs.Held as held
use Rattle.held.specs.Stands.{Rises}
use Rattle.held.proofs.FlatLaw.{Ext}
use Rattle.held.proofs.StandLaw.{held_value}
use Rattle.held.proofs.StemLaw.{split}
use Rattle.polynomials.specs.Poly.{change_by}
use Rattle.polynomials.proofs.ChangeLaw.{slot_by}
use Rattle.cubics.specs.Cubic.{cubic_of}
use Rattle.cubics.specs.Whole.{back_cubic}
use Rattle.cubics.proofs.OneSystemLaw.{table_two, table_all}
use Rattle.cubic_tables.specs.Order.{seat_of, triple_index}
use Rattle.cubic_tables.specs.Words.{CubicTable, cubic_at, triple_at}
use Rattle.cubic_tables.proofs.OrderLaw.{triple_lt}
use Rattle.cubic_tables.proofs.PairLaw.{triple_key, seat_apart, seat_of_lem}
use Rattle.cubic_tables.proofs.WordsLaw.{cube_at}
use Rattle.moves.proofs.MoveLaw.{two}
use Rattle.cubic_moves.specs.Step.{State, push, lift, bump, move_of}
use Rattle.cubic_moves.proofs.MoveLaw.{next_at}
use Rattle.cubic_walk.specs.Meaning.{held_by, Stands, Tabled}
use Rattle.cubic_walk.proofs.ViewLaw.{view, moved}

-- ---- no place has a position three times
level : (b z : ℕ) (ps : List ℕ) → positions 3 (3 ^ b * z) ≡ b ∷ ps → (0 < z % 3) × (positions 3 (3 ^ b * (z - 1)) ≡ ps)
level b zero ps e = absurd (let z : ◌≡◌ {A = ℕ} 0 1 = cc (ap (positions 3) (mul-zero (3 ^ b)), positions_none 3 two, e) in omega arith)
level b (suc z) ps e =
    let h : 0 < suc z = omega arith in
    let w = next_at b (suc z) h in
    let i : b + lowest_of 3 (suc z) ≡ b = cc in
    let j : lowest_of 3 (suc z) ≡ 0 = omega arith in
    let t : positions 3 (3 ^ b * suc z - 3 ^ (b + lowest_of 3 (suc z))) ≡ ps = cc in
    let k : 3 ^ b * suc z - 3 ^ (b + lowest_of 3 (suc z)) ≡ 3 ^ b * (suc z - 1) = ap (λ (x : ℕ). 3 ^ b * suc z - 3 ^ x) i ∙ less (3 ^ b) z in
    (by_cases (ℕ_discrete (suc z % 3) 0) (λ m. absurd (omega (arith, of_zero 3 two (suc z) h m))) (λ m. omega arith), ap (positions 3) (sym k) ∙ t)
  where
    less : (w z : ℕ) → w * suc z - w ≡ w * (suc z - 1)
    less w z = let e : suc z - 1 ≡ z = omega arith in rw e (omega arith)

thrice : (p b : ℕ) (ps : List ℕ) → positions 3 p ≡ b ∷ b ∷ b ∷ ps → ⊥
thrice zero b ps e = let z : ◌≡◌ {A = ℕ} 0 1 = cc (positions_none 3 two, e) in omega arith
thrice (suc p) b ps e =
    let h : 0 < suc p = omega arith in
    let s = split 3 two (suc p) h in
    let i : lowest_of 3 (suc p) ≡ b = cc (positions_next 3 two (suc p) h, e) in
    let k : suc p ≡ 3 ^ b * suc s.over = s.is ∙ ap (λ (x : ℕ). 3 ^ x * suc s.over) (sym s.lowest ∙ i) in
    let one = level b (suc s.over) (b ∷ b ∷ ps) (ap (positions 3) (sym k) ∙ e) in
    let next = level b (suc s.over - 1) (b ∷ ps) one.1 in
    let last = level b (suc s.over - 1 - 1) ps next.1 in
    omega (arith, one.0, next.0, last.0)

-- ---- the move: what the place's positions change, each position below n
pub record Room (n : ℕ) (s : State) : Type 0 where
  pub long : n ≤ length s.slots
  pub seats : length s.seconds ≡ 420
  pub rest : (i : ℕ) → n ≤ i → get_or s.slots i none ≡ none
  pub spare : (b c : ℕ) → b ≤ c → c < 20 → n ≤ c → entry s.seconds (seat_of b c) ≡ none

module _ (T : ℕ → ℕ → ℕ → Vector) (n : ℕ) (small : n ≤ 20) where
  pub room_move : (ps : List ℕ) (s : State) → Rises 0 n ps → Room n s → Room n (move_of T ps s)
  unfolding move_of push lift bump
  room_move [] s r h = h
  room_move (b ∷ []) s r h = record { long = h.long; seats = h.seats; rest = h.rest; spare = h.spare }
  room_move (b ∷ c ∷ []) s r h =
      record {
        long = rw (length-set s.slots b (add_of (get_or s.slots b none) (entry s.seconds (seat_of b c)))) h.long;
        seats = h.seats;
        rest = λ i l. get_or-set_other s.slots b i _ none (λ e. omega (arith, r.1)) ∙ h.rest i l;
        spare = h.spare;
      }
  room_move (b ∷ c ∷ d ∷ ps) s r h =
      let u = add_of (entry s.seconds (seat_of b c)) (T b c d) in
      record {
        long = rw (length-set s.slots b (add_of (get_or s.slots b none) u)) h.long;
        seats = length_put s.seconds (seat_of b c) u ∙ h.seats;
        rest = λ i l. get_or-set_other s.slots b i _ none (λ e. omega (arith, r.1)) ∙ h.rest i l;
        spare = λ e g o l k.
            entry_other s.seconds (seat_of b c) u (seat_of e g)
            (λ q. let z = (seat_apart e g b c o l r.2.0 (omega (arith, r.2.1)) q).1 in omega (arith, r.2.1))
            ∙ h.spare e g o l k;
      }

-- ---- the table, made whole: for one position three times, which no place has, the vector of its entry
module _ (F : ℕ → (ℕ → ℕ) → ℕ) (n m : ℕ) (T : ℕ → ℕ → ℕ → Vector) where
  abbrev pub entry_of : ℕ → ℕ → ℕ → ℕ → ℕ
  entry_of b c d e = held.entry 3 (held.along 3 (F e)) (b ∷ c ∷ d ∷ [])

  unfoldable pub full : ℕ → ℕ → ℕ → Vector
  full b c d = elim (same b d) [ zero ↦ T b c d | suc s ↦ of_trits m (entry_of b c d) ]

  full_same : (b c : ℕ) → full b c b ≡ of_trits m (entry_of b c b)
  unfolding full
  full_same b c = rw (same_self b, full)

  full_other : (b c d : ℕ) → (b ≡ d → ⊥) → full b c d ≡ T b c d
  unfolding full
  full_other b c d h = rw (same_other b d h, full)

  pub full_tabled : Tabled F n m T → (s : State) (L : List ℕ) → length L ≡ 3 → Rises 0 n L → Holds m (λ e. held.entry 3 (held.along 3 (F e)) L) (view full s L)
  unfolding view
  full_tabled t s [] l r = absurd (omega arith)
  full_tabled t s (b ∷ []) l r = absurd (omega arith)
  full_tabled t s (b ∷ c ∷ []) l r = absurd (omega arith)
  full_tabled t s (b ∷ c ∷ d ∷ []) l r =
      by_cases (ℕ_discrete b d)
      (λ (i : b ≡ d). rw (← i) (is_holds (full_same b c)))
      (λ i. rw (full_other b c d i) (t b c d r.2.0 r.2.2.0 (let x : b ≤ c = r.2.0 in let y : c ≤ d = r.2.2.0 in omega arith) r.2.2.1))
  full_tabled t s (b ∷ c ∷ d ∷ e ∷ L) l r = absurd (omega arith)

  -- the walk's own table moves a place as the whole one does
  same_move : (ps : List ℕ) (s : State) → ((b c d : ℕ) (qs : List ℕ) → ps ≡ b ∷ c ∷ d ∷ qs → full b c d ≡ T b c d) → move_of T ps s ≡ move_of full ps s
  unfolding move_of
  same_move [] s h = refl
  same_move (b ∷ []) s h = refl
  same_move (b ∷ c ∷ []) s h = refl
  same_move (b ∷ c ∷ d ∷ ps) s h = ap (λ (v : Vector). bump b (seat_of b c) v s) (sym (h b c d ps refl))

  apart : (p : ℕ) → p < 3 ^ n → Rises 0 n (positions 3 p) → (b c d : ℕ) (qs : List ℕ) → positions 3 p ≡ b ∷ c ∷ d ∷ qs → full b c d ≡ T b c d
  apart p l r b c d qs e = by_cases (ℕ_discrete b d) (λ i. absurd (never i)) (λ i. full_other b c d i)
    where
      never : b ≡ d → ⊥
      never i =
          let v : Rises 0 n (b ∷ c ∷ d ∷ qs) = rw e at r in
          let x : b ≤ c = v.2.0 in
          let y : c ≤ d = v.2.2.0 in
          let j : c ≡ b = omega arith in
          let k : d ≡ b = sym i in
          thrice p b qs (e ∙ ap (λ (z : ℕ). b ∷ z ∷ d ∷ qs) j ∙ ap (λ (z : ℕ). b ∷ b ∷ z ∷ qs) k)

  pub view_move : n ≤ 20 → (p : ℕ) (s : State) → Room n s → p < 3 ^ n → Rises 0 n (positions 3 p) → (L : List ℕ) → Rises 0 n L
      → view full (move_of T (positions 3 p) s) L ≡ held.move add_of 3 (positions 3 p) (view full s) L
  view_move small p s h l r L v =
      ap (λ (x : State). view full x L) (same_move (positions 3 p) s (apart p l r)) ∙ moved n small full s h.long h.seats (positions 3 p) r L v

-- ---- what a state that stands before p holds
module _ (F : ℕ → (ℕ → ℕ) → ℕ) (ext : (e : ℕ) → Ext 3 (F e)) (n m p : ℕ) where
  abbrev value : ℕ → ℕ
  value e = F e (point_digit 3 (p - 1))

  abbrev slot : ℕ → ℕ → ℕ
  slot b e = change_by 3 (F e) b (point_digit 3 (latest 3 b (p - 1) - 1))

  abbrev second : ℕ → ℕ → ℕ → ℕ
  second b c e = held.held 3 (held.along 3 (F e)) (b ∷ c ∷ []) (p - 1)

  held_slot : (b e : ℕ) → held.held 3 (held.along 3 (F e)) (b ∷ []) (p - 1) % 3 ≡ slot b e % 3
  held_slot b e = sym (mod-mod _ 3) ∙ ap (λ (x : ℕ). x % 3) (slot_by 3 two (F e) (ext e) b (p - 1))

  pub stands_value : (s : State) → Stands F n m p s → s.value ≡ of_trits m value
  unfolding held_by
  stands_value s h = holds_is (holds_ext (λ e l. ap (λ (x : ℕ). x % 3) (held_value 3 two (held.along 3 (F e)) (p - 1))) (h.holds [] (omega arith) (omega arith)))

  pub stands_slot : (s : State) → Stands F n m p s → (b : ℕ) → b < n → get_or s.slots b none ≡ of_trits m (slot b)
  unfolding held_by
  stands_slot s h b l = holds_is (holds_ext (λ e i. held_slot b e) (h.holds (b ∷ []) (omega arith) (omega arith, l, omega arith)))

  pub stands_second : (s : State) → Stands F n m p s → (b c : ℕ) → b ≤ c → c < n → entry s.seconds (seat_of b c) ≡ of_trits m (second b c)
  unfolding held_by
  stands_second s h b c k l = holds_is (h.holds (b ∷ c ∷ []) (omega arith) (omega arith, omega arith, (k, l, omega arith)))

  -- and the other way
  pub opened_stands : (s : State) → s.place ≡ p → n ≤ length s.slots → length s.seconds ≡ 420 → s.value ≡ of_trits m value
      → ((b : ℕ) → b < n → get_or s.slots b none ≡ of_trits m (slot b)) → ((i : ℕ) → n ≤ i → get_or s.slots i none ≡ none)
      → ((b c : ℕ) → b ≤ c → c < n → entry s.seconds (seat_of b c) ≡ of_trits m (second b c))
      → ((b c : ℕ) → b ≤ c → c < 20 → n ≤ c → entry s.seconds (seat_of b c) ≡ none) → Stands F n m p s
  unfolding held_by
  opened_stands s e long seats v w rest u spare = record { place = e; room = long; seats = seats; holds = holds; rest = rest; spare = spare }
    where
      holds : (L : List ℕ) → length L < 3 → Rises 0 n L → Holds m (λ e. held.held 3 (held.along 3 (F e)) L (p - 1)) (held_by s L)
      holds [] l r = holds_ext (λ e i. ap (λ (x : ℕ). x % 3) (sym (held_value 3 two (held.along 3 (F e)) (p - 1)))) (is_holds v)
      holds (b ∷ []) l r = holds_ext (λ e i. sym (held_slot b e)) (is_holds (w b r.1))
      holds (b ∷ c ∷ []) l r = is_holds (u b c r.2.0 r.2.1)
      holds (b ∷ c ∷ d ∷ L) l r = absurd (omega arith)

  -- two states that stand before the same place have the same vectors
  pub stands_same : n ≤ 20 → (s r : State) → Stands F n m p s → Stands F n m p r → length s.slots ≡ length r.slots → (s.value ≡ r.value) × (s.slots ≡ r.slots) × (s.seconds ≡ r.seconds)
  stands_same small s r h k long = (stands_value s h ∙ sym (stands_value r k), ext_get_or none s.slots r.slots long slots, entries_ext 210 s.seconds r.seconds h.seats k.seats seats)
    where
      slots : (i : ℕ) → i < length s.slots → get_or s.slots i none ≡ get_or r.slots i none
      slots i l =
          by_cases (dec_lt i n) (λ b. stands_slot s h i b ∙ sym (stands_slot r k i b)) (λ b. h.rest i (omega arith) ∙ sym (k.rest i (omega arith)))

      seats : (j : ℕ) → j < 210 → entry s.seconds j ≡ entry r.seconds j
      seats j l =
          let a = seat_of_lem j l in
          let e : entry s.seconds (seat_of a.first a.second) ≡ entry r.seconds (seat_of a.first a.second) =
          by_cases (dec_lt a.second n)
          (λ b. stands_second s h a.first a.second a.order b ∙ sym (stands_second r k a.first a.second a.order b))
          (λ b. h.spare a.first a.second a.order a.below (omega arith) ∙ sym (k.spare a.first a.second a.order a.below (omega arith))) in
          rw a.is at e

-- ---- a table of differences holds the entries of the system that it comes from
pub differences_tabled : (n m : ℕ) (t : List ℕ) → CubicTable n m t → Tabled (λ e. cubic_of (back_cubic n (cubic_at n t e)) n) n m (triple_at t n)
differences_tabled n m t table b c d h l k o =
    let v = entry t (triple_index n b c d) in
    let own : Holds m (trit v) v = is_holds (of_self m v (table.legal (triple_index n b c d) (triple_lt n b c d h l k o))) in
    rw (triple_key n b c d h l k o) (holds_ext (λ e i. sym (ap (λ (x : ℕ). x % 3) (cube_at n t e b c d k)) ∙ sym (entry_is e)) own)
  where
    entry_is : (e : ℕ) → held.entry 3 (held.along 3 (cubic_of (back_cubic n (cubic_at n t e)) n)) (b ∷ c ∷ d ∷ []) % 3 ≡ (cubic_at n t e).cube b c d % 3
    entry_is e =
        by_cases (ℕ_discrete b c)
        (λ (i : b ≡ c). rw (← i) (table_two n (cubic_at n t e) b d k o).same)
        (λ i. (table_all n (cubic_at n t e) b c d (omega arith) l o).same)

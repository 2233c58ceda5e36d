-- A slot as the code sums it, row by row: all rows together are what is held.
use mathlib.Core.Path.{◌≡◌, refl, sym, ap, ap₂, ◌∙◌}
use mathlib.Core.Logic.{by_cases}
use mathlib.Core.List.{List, [], ◌∷◌}
use Prim.Native.Nat.{ℕ, zero, suc, ◌+◌, ◌*◌, ◌%◌, ◌^◌, ◌≤◌, ◌<◌}
use native.Mathlib.Nat.{add-zero}
use native.Mathlib.Numerals.{add-one}
use native.Mathlib.Decide.{ℕ_discrete, dec_lt}
use native.Mathlib.Omega.{arith}
use lib.ListN.{length, get_or, set, replicate, length-set}
use lib.Seq.{get_or-set_same, get_or-set_other}
use Rattle.residues.specs.Sums.{sum}
use Rattle.residues.proofs.ModLaw.{Cong, crefl, cof, csym, ◌⨾◌, cadd, cmul}
use Rattle.residues.proofs.SumLaw.{sum_ext, sum_zero, sum_cong}
use Rattle.trits.specs.declared.Vector.{Vector}
use Rattle.trits.specs.Trit.{Holds, none}
use Rattle.trits.specs.Words.{Added}
use Rattle.trits.proofs.HoldLaw.{holds_ext, holds_add}
use Rattle.held.specs.Held as held
use Rattle.held.specs.Visits.{gathered, visits}
use Rattle.held.proofs.CountLaw.{held_counts_two}
use Rattle.held.proofs.ThirdsLaw.{gathered_fall, visits_pair_fall}
use Rattle.cubics.specs.Cubic.{Cubic, cubic_of}
use Rattle.cubics.specs.Whole.{back_cubic}
use Rattle.cubics.proofs.CubicLaw.{ext_cubic, flat_cubic}
use Rattle.cubics.proofs.OneSystemLaw.{table_lin, table_quad, table_two, table_all}
use Rattle.tables.specs.Words.{entry}
use Rattle.cubic_tables.specs.Words.{CubicTable, cubic_at}
use Rattle.cubic_tables.proofs.HoldsLaw.{lin_holds}
use Rattle.cubic_slots.specs.Slots.{CubicSlots}
use Rattle.cubic_slots.specs.Parts.{row_to, slot_to}
use Rattle.weights.proofs.WeightLaw.{none_falls, none_thrice}

-- ---- rows before that of b, b are none
row_none : (f : Cubic) (n b c q : ℕ) → c < b → row_to f n b c q ≡ 0
unfolding row_to
row_none f n b c q l =
    ap₂ (λ (x y : ℕ). x * f.quad b c + y) (visits_pair_fall b c q l)
    (sum_ext n _ (λ d. f.cube b c d * 0) (λ d m. ap (λ (x : ℕ). x * f.cube b c d) (gathered_fall b c (visits 3 (b ∷ c ∷ d ∷ [])) q l) ∙ turn (f.cube b c d)) ∙ sum_zero n (f.cube b c)) ∙ nought (f.quad b c)
  where
    turn : (y : ℕ) → 0 * y ≡ y * 0
    turn y = omega arith

    nought : (y : ℕ) → 0 * y + 0 ≡ 0
    nought y = omega arith

pub slot_none : (f : Cubic) (n b q : ℕ) → slot_to f n b q b ≡ f.lin b
unfolding slot_to
slot_none f n b q = ap (λ (x : ℕ). f.lin b + x) (sum_ext b _ (λ k. k * 0) (λ k l. row_none f n b k q l ∙ nought k) ∙ sum_zero b (λ k. k)) ∙ add-zero _
  where
    nought : (y : ℕ) → 0 ≡ y * 0
    nought y = omega arith

pub slot_next : (f : Cubic) (n b q c : ℕ) → slot_to f n b q (c + 1) ≡ slot_to f n b q c + row_to f n b c q
unfolding slot_to sum
slot_next f n b q c = ap (λ (k : ℕ). f.lin b + sum k (λ k. row_to f n b k q)) (add-one c) ∙ right (f.lin b) (sum c (λ k. row_to f n b k q)) (row_to f n b c q)
  where
    right : (a b c : ℕ) → a + (b + c) ≡ a + b + c
    right a b c = omega arith

pub row_is : (f : Cubic) (n b c q : ℕ) → row_to f n b c q ≡ visits 3 (b ∷ c ∷ []) q * f.quad b c + sum n (λ d. gathered 3 (b ∷ c ∷ []) (visits 3 (b ∷ c ∷ d ∷ [])) q * f.cube b c d)
unfolding row_to
row_is f n b c q = refl

-- ---- all of them
module _ (n b q : ℕ) (l : b < n) (small : q < 3 ^ n) (f : Cubic) where
  E : List ℕ → ℕ
  E L = held.entry 3 (held.along 3 (cubic_of (back_cubic n f) n)) L

  -- one entry of a row
  one : (c d : ℕ) → b ≤ c → d < n → Cong 3 (gathered 3 (b ∷ c ∷ []) (visits 3 (b ∷ c ∷ d ∷ [])) q * E (b ∷ c ∷ d ∷ [])) (gathered 3 (b ∷ c ∷ []) (visits 3 (b ∷ c ∷ d ∷ [])) q * f.cube b c d)
  unfolding E
  one c d h j =
      by_cases (dec_lt d c)
      (λ i. both _ _ (none_falls b c d q i))
      (λ i. by_cases (ℕ_discrete b c)
      (λ (e : b ≡ c). by_cases (ℕ_discrete c d)
      (λ (g : c ≡ d). both _ _ (cof (ap₂ (λ (x y : ℕ). gathered 3 (b ∷ x ∷ []) (visits 3 (b ∷ x ∷ y ∷ [])) q) (sym e) (sym (e ∙ g))) ⨾ none_thrice b q))
      (λ g. cmul (crefl _) (rw (← e) (table_two n f b d (omega arith) j))))
      (λ e. cmul (crefl _) (table_all n f b c d (omega arith) (omega arith) j)))
    where
      both : {u : ℕ} (x y : ℕ) → Cong 3 u 0 → Cong 3 (u * x) (u * y)
      both x y z = cmul z (crefl x) ⨾ cof (none x y) ⨾ csym (cmul z (crefl y))
        where
          none : (x y : ℕ) → 0 * x ≡ 0 * y
          none x y = omega arith

  row_like : (c : ℕ) → c < n
      → Cong 3 (visits 3 (b ∷ c ∷ []) q * E (b ∷ c ∷ []) + sum n (λ d. gathered 3 (b ∷ c ∷ []) (visits 3 (b ∷ c ∷ d ∷ [])) q * E (b ∷ c ∷ d ∷ []))) (row_to f n b c q)
  unfolding row_to E
  row_like c m =
      by_cases (dec_lt c b)
      (λ i. cof (ap₂ (λ (x y : ℕ). x * E (b ∷ c ∷ []) + y) (visits_pair_fall b c q i)
      (sum_ext n _ (λ d. E (b ∷ c ∷ d ∷ []) * 0) (λ d k. ap (λ (x : ℕ). x * E (b ∷ c ∷ d ∷ [])) (gathered_fall b c (visits 3 (b ∷ c ∷ d ∷ [])) q i) ∙ turn (E (b ∷ c ∷ d ∷ []))) ∙ sum_zero n (λ d. E (b ∷ c ∷ d ∷ [])))
      ∙ nought (E (b ∷ c ∷ [])) ∙ sym (row_none f n b c q i)))
      (λ i. cadd (cmul (crefl _) (table_quad n f b c (omega arith) m)) (sum_cong 3 n _ _ (λ d k. one c d (omega arith) k)))
    where
      turn : (y : ℕ) → 0 * y ≡ y * 0
      turn y = omega arith

      nought : (y : ℕ) → 0 * y + 0 ≡ 0
      nought y = omega arith

  slot_held : Cong 3 (slot_to f n b q n) (held.held 3 (held.along 3 (cubic_of (back_cubic n f) n)) (b ∷ []) q)
  unfolding slot_to E
  slot_held =
      csym (held_counts_two 3 (omega arith) n (cubic_of (back_cubic n f) n) (ext_cubic 3 (omega arith) (back_cubic n f) n) 3 (flat_cubic 3 (omega arith) (back_cubic n f) n) (b ∷ []) refl q small
      ⨾ cadd (table_lin n f b l) (sum_cong 3 n _ _ (λ c m. row_like c m)))

pub slot_whole : (n m : ℕ) (t : List ℕ) (b q : ℕ) {v : Vector} → b < n → q < 3 ^ n → Holds m (λ e. slot_to (cubic_at n t e) n b q n) v
    → Holds m (λ e. held.held 3 (held.along 3 (cubic_of (back_cubic n (cubic_at n t e)) n)) (b ∷ []) q) v
slot_whole n m t b q l small w = holds_ext (λ e k. (slot_held n b q l small (cubic_at n t e)).same) w

-- one row more
pub slot_more : (n m : ℕ) (t : List ℕ) (b q c : ℕ) {v u r : Vector} → Added v u r → Holds m (λ e. slot_to (cubic_at n t e) n b q c) v
    → Holds m (λ e. visits 3 (b ∷ c ∷ []) q * (cubic_at n t e).quad b c + sum n (λ d. gathered 3 (b ∷ c ∷ []) (visits 3 (b ∷ c ∷ d ∷ [])) q * (cubic_at n t e).cube b c d)) u
    → Holds m (λ e. slot_to (cubic_at n t e) n b q (c + 1)) r
slot_more n m t b q c a hv hu = holds_ext (λ e k. ap (λ (x : ℕ). x % 3) (ap (λ (y : ℕ). slot_to (cubic_at n t e) n b q c + y) (sym (row_is (cubic_at n t e) n b c q)) ∙ sym (slot_next (cubic_at n t e) n b q c))) (holds_add a hv hu)

-- the entry of b, before any row
pub slot_first : (n m : ℕ) (t : List ℕ) (b q : ℕ) {v : Vector} → CubicTable n m t → b < n → v ≡ entry t (1 + b) → Holds m (λ e. slot_to (cubic_at n t e) n b q b) v
slot_first n m t b q w l e = rw e (holds_ext (λ i k. ap (λ (x : ℕ). x % 3) (sym (slot_none (cubic_at n t i) n b q))) (lin_holds n m t w b l))

-- ---- slots filled from the front
pub record Filled (n : ℕ) (t : List ℕ) (q b : ℕ) (s : List Vector) : Type 0 where
  pub long : length s ≡ 20
  pub used : (m : ℕ) → CubicTable n m t → (k : ℕ) → k < b → Holds m (λ e. held.held 3 (held.along 3 (cubic_of (back_cubic n (cubic_at n t e)) n)) (k ∷ []) q) (get_or s k none)
  pub unused : (k : ℕ) → b ≤ k → get_or s k none ≡ none

all_none : (k i : ℕ) → get_or (replicate k none) i none ≡ none
all_none zero i = refl
all_none (suc k) zero = refl
all_none (suc k) (suc i) = all_none k i

module _ (n : ℕ) (t : List ℕ) (q : ℕ) where
  pub filled_none : Filled n t q 0 (replicate 20 none)
  filled_none = record { long = refl; used = λ m w k h. absurd (omega arith); unused = λ k h. all_none 20 k }

  pub filled_next : (b : ℕ) (s : List Vector) (v : Vector) → b < 20
      → ((m : ℕ) → CubicTable n m t → Holds m (λ e. held.held 3 (held.along 3 (cubic_of (back_cubic n (cubic_at n t e)) n)) (b ∷ []) q) v) → Filled n t q b s → Filled n t q (b + 1) (set s b v)
  filled_next b s v l h f =
      let i : b < length s = omega (arith, f.long) in
      record {
        long = simp length-set f.long;
        used = λ m w k g. by_cases (ℕ_discrete k b)
            (λ (e : k ≡ b). rw (e, get_or-set_same s b v none i) (h m w))
            (λ d. rw (get_or-set_other s b k v none d) (f.used m w k (omega arith)));
        unused = λ k g. get_or-set_other s b k v none (λ e. omega arith) ∙ f.unused k (omega arith);
      }

  pub filled_whole : (b : ℕ) (s : List Vector) → b ≡ n → Filled n t q b s → CubicSlots n t q s
  filled_whole b s e f = record { long = f.long; used = λ m w k g. f.used m w k (omega arith); unused = λ k g. f.unused k (omega arith) }

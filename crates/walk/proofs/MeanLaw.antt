-- The engine's move is the move of what its states hold, in degree 2; and what value, slots and table stand for, in document 01's words.
use mathlib.Core.Path.{◌≡◌, refl, sym, ap, ◌∙◌}
use mathlib.Core.List.{List, [], ◌∷◌}
use mathlib.Core.Logic.{by_cases}
use Prim.Native.Nat.{ℕ, suc, ◌+◌, ◌-◌, ◌%◌, ◌<◌, ◌≤◌}
use native.Mathlib.Nat.{mod-mod}
use native.Mathlib.Decide.{ℕ_discrete}
use native.Mathlib.Omega.{arith}
use lib.ListN.{length, get_or, set, length-set}
use lib.Seq.{get_or-set_same, get_or-set_other}
use Rattle.residues.proofs.ModLaw.{Cong}
use Rattle.trits.specs.declared.Vector.{Vector}
use Rattle.trits.specs.Trit.{trit, Legal, Holds, of_trits, none}
use Rattle.trits.specs.Words.{add_of}
use Rattle.trits.proofs.SumLaw.{meets}
use Rattle.trits.proofs.HoldLaw.{holds_is, is_holds, holds_ext, holds_add}
use Rattle.positions.specs.Positions.{latest}
use Rattle.gray.specs.Numbers.{point_digit}
use Rattle.held.specs.Held.{held, move, along}
use Rattle.held.specs.Stands.{Rises}
use Rattle.held.proofs.KeepLaw.{move_self, move_other, move_leaf}
use Rattle.held.proofs.StandLaw.{held_value}
use Rattle.held.proofs.ExactLaw.{pair_place}
use Rattle.polynomials.specs.Poly.{Poly, value_of, change_of, table_of}
use Rattle.polynomials.proofs.QuadLaw.{quad_is}
use Rattle.polynomials.proofs.ChangeLaw.{slot_by}
use Rattle.polynomials.proofs.TermsLaw.{ext_value}
use Rattle.moves.specs.Step.{State, push, lift, bump, move_of}
use Rattle.walk.specs.Meaning.{held_by, entry_by, Stands, Tabled}
use Rattle.moves.proofs.MoveLaw.{two}

-- ---- state and table together
unfoldable pub view : (ℕ → ℕ → Vector) → State → List ℕ → Vector
view T s [] = s.value
view T s (b ∷ []) = get_or s.slots b none
view T s (b ∷ c ∷ L) = T b c

pub view_state : (T : ℕ → ℕ → Vector) (s : State) (L : List ℕ) → length L < 2 → view T s L ≡ held_by s L
unfolding view held_by
view_state T s [] l = refl
view_state T s (b ∷ []) l = refl
view_state T s (b ∷ c ∷ L) l = absurd (omega arith)

pub view_table : (T : ℕ → ℕ → Vector) (s : State) (L : List ℕ) → length L ≡ 2 → view T s L ≡ entry_by T L
unfolding view entry_by
view_table T s [] l = absurd (omega arith)
view_table T s (b ∷ []) l = absurd (omega arith)
view_table T s (b ∷ c ∷ L) l = refl

-- ---- the move: what the place's positions change, each position below n
pub record Room (n : ℕ) (s : State) : Type 0 where
  pub long : n ≤ length s.slots
  pub rest : (i : ℕ) → n ≤ i → get_or s.slots i none ≡ none

module _ (T : ℕ → ℕ → Vector) (n : ℕ) where
  one : (s : State) (b c : ℕ) → get_or s.slots c none ≡ move add_of 2 (b ∷ []) (view T s) (c ∷ [])
  unfolding view move
  one s b c =
      by_cases (ℕ_discrete b c)
      (λ (i : b ≡ c). rw (← i) (sym (move_self add_of 1 b [] (view T s) [])))
      (λ d. sym (move_other add_of 1 b c [] (view T s) [] d))

  more : (s : State) (b d c : ℕ) (ps : List ℕ) → b < length s.slots
      → get_or (set s.slots b (add_of (get_or s.slots b none) (T b d))) c none ≡ move add_of 2 (b ∷ d ∷ ps) (view T s) (c ∷ [])
  unfolding view move
  more s b d c ps h =
      let v = add_of (get_or s.slots b none) (T b d) in
      by_cases (ℕ_discrete b c)
      (λ (i : b ≡ c). rw (← i) (get_or-set_same s.slots b v none h ∙ sym (move_self add_of 1 b (d ∷ ps) (view T s) [])))
      (λ o. get_or-set_other s.slots b c v none (λ e. o (sym e)) ∙ sym (move_other add_of 1 b c (d ∷ ps) (view T s) [] o))

  pub view_move : (ps : List ℕ) (s : State) → Room n s → Rises 0 n ps → (L : List ℕ) → length L ≤ 2 → view T (move_of T ps s) L ≡ move add_of 2 ps (view T s) L
  unfolding view move_of push lift bump move
  view_move [] s h r L l = refl
  view_move (b ∷ []) s h r [] l = refl
  view_move (b ∷ []) s h r (c ∷ []) l = one s b c
  view_move (b ∷ []) s h r (c ∷ e ∷ L) l = sym (move_leaf add_of 2 (b ∷ []) (view T s) (c ∷ e ∷ L) (omega arith))
  view_move (b ∷ d ∷ ps) s h r [] l = ap (add_of s.value) (get_or-set_same s.slots b (add_of (get_or s.slots b none) (T b d)) none (omega (arith, r.1, h.long)))
  view_move (b ∷ d ∷ ps) s h r (c ∷ []) l = more s b d c ps (omega (arith, r.1, h.long))
  view_move (b ∷ d ∷ ps) s h r (c ∷ e ∷ L) l = sym (move_leaf add_of 2 (b ∷ d ∷ ps) (view T s) (c ∷ e ∷ L) (omega arith))

  pub room_move : (ps : List ℕ) (s : State) → Rises 0 n ps → Room n s → Room n (move_of T ps s)
  unfolding move_of push lift bump
  room_move [] s r h = h
  room_move (b ∷ []) s r h = record { long = h.long; rest = h.rest }
  room_move (b ∷ c ∷ ps) s r h =
      record {
        long = rw (length-set s.slots b (add_of (get_or s.slots b none) (T b c))) h.long;
        rest = λ i l. get_or-set_other s.slots b i _ none (λ e. omega (arith, r.1)) ∙ h.rest i l;
      }

-- ---- vectors of trits show numbers modulo 3
pub holds_plus : (m : ℕ) (f g : ℕ → ℕ) (x y : Vector) → Holds m f x → Holds m g y → Holds m (λ e. f e + g e) (add_of x y)
holds_plus m f g x y h k = holds_add (record { words = refl; trits = meets x y }) h k

pub holds_like : (m : ℕ) (f g : ℕ → ℕ) (x : Vector) → ((e : ℕ) → Cong 3 (f e) (g e)) → Holds m f x → Holds m g x
holds_like m f g x c h = holds_ext (λ e l. (c e).same) h

-- ---- in document 01's words: a state that stands before p holds what an opening at p gives
module _ (F : ℕ → Poly) (n m p : ℕ) (s : State) where
  abbrev value : ℕ → ℕ
  value e = value_of (F e) n (point_digit 3 (p - 1))

  abbrev slot : ℕ → ℕ → ℕ
  slot b e = change_of 3 (F e) n b (point_digit 3 (latest 3 b (p - 1) - 1))

  held_slot : (b e : ℕ) → b < n → held 3 (along 3 (value_of (F e) n)) (b ∷ []) (p - 1) % 3 ≡ slot b e % 3
  held_slot b e l = sym (mod-mod _ 3) ∙ ap (λ (x : ℕ). x % 3) (slot_by 3 two (value_of (F e) n) (ext_value 3 (omega arith) (F e) n) b (p - 1))

  pub stands_value : Stands F n m p s → s.value ≡ of_trits m value
  unfolding held_by
  stands_value h = holds_is (holds_ext (λ e l. ap (λ (x : ℕ). x % 3) (held_value 3 two (along 3 (value_of (F e) n)) (p - 1))) (h.holds [] (omega arith) (omega arith)))

  pub stands_slot : Stands F n m p s → (b : ℕ) → b < n → get_or s.slots b none ≡ of_trits m (slot b)
  unfolding held_by
  stands_slot h b l = holds_is (holds_ext (λ e i. held_slot b e l) (h.holds (b ∷ []) (omega arith) (omega arith, l, omega arith)))

  -- and the other way
  pub opened_stands : s.place ≡ p → n ≤ length s.slots → s.value ≡ of_trits m value
      → ((b : ℕ) → b < n → get_or s.slots b none ≡ of_trits m (slot b)) → ((i : ℕ) → n ≤ i → get_or s.slots i none ≡ none) → Stands F n m p s
  unfolding held_by
  opened_stands e long v w rest = record { place = e; room = long; holds = holds; rest = rest }
    where
      holds : (L : List ℕ) → length L < 2 → Rises 0 n L → Holds m (λ e. held 3 (along 3 (value_of (F e) n)) L (p - 1)) (held_by s L)
      holds [] l r = holds_ext (λ e i. ap (λ (x : ℕ). x % 3) (sym (held_value 3 two (along 3 (value_of (F e) n)) (p - 1)))) (is_holds v)
      holds (b ∷ []) l r = holds_ext (λ e i. sym (held_slot b e r.1)) (is_holds (w b r.1))
      holds (b ∷ c ∷ L) l r = absurd (omega arith)

-- ---- a table of differences holds the entries
pub differences_tabled : (F : ℕ → Poly) (n m : ℕ) (T : ℕ → ℕ → Vector) → ((b c : ℕ) → b ≤ c → c < n → Legal m (T b c))
    → ((e b c : ℕ) → e < m → b ≤ c → c < n → trit (T b c) e ≡ (table_of 3 (F e)).quad b c % 3) → Tabled F n m T
unfolding entry_by
differences_tabled F n m T legal each [] l r = absurd (omega arith)
differences_tabled F n m T legal each (b ∷ []) l r = absurd (omega arith)
differences_tabled F n m T legal each (b ∷ c ∷ []) l r =
    let o : b ≤ c = r.2.0 in
    let k : c < n = r.2.1 in
    let p = pair_place 3 two (omega arith) b c n o k in
    record {
      legal = legal b c o k;
      each = λ e i. each e b c i o k ∙ sym (quad_is 3 two (F e) n b c (suc p.0) [] p.1 p.2).same;
    }
differences_tabled F n m T legal each (b ∷ c ∷ d ∷ L) l r = absurd (omega arith)

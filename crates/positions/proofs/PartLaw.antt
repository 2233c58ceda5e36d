-- What the code on positions uses: the bounds of 64 bits, and how a list of positions is read entry by entry.
use Rattle.std.specs.Prelude.{Some, None}
use mathlib.Core.Path.{◌≡◌, refl, sym, ap, ap₂, ◌∙◌}
use mathlib.Core.Logic.{by_cases}
use mathlib.Core.List.{List, [], ◌∷◌}
use Prim.Native.Nat.{ℕ, zero, suc, ◌-◌, ◌*◌, ◌^◌, ◌≤◌, ◌<◌}
use native.Mathlib.Nat.{one-le-pow, eq_of_mul-eq-mul_left}
use native.Mathlib.Decide.{dec_lt}
use native.Mathlib.Omega.{arith}
use lib.ListN.{length, get_or}
use Rattle.positions.specs.Positions.{lowest_in, lowest_of, positions}
use Rattle.positions.specs.Parts.{Splits, position_at}
use Rattle.positions.specs.declared.Parts.{Parts}
use Rattle.positions.proofs.LowestLaw.{of_lt}
use Rattle.positions.proofs.PositionLaw.{positions_none, positions_next}

pub lowest_none : (q : ℕ) → lowest_of q 0 ≡ 0
unfolding lowest_of lowest_in
lowest_none q = refl

-- a number of 64 bits has its first position below 41
pub lowest_word : (p : ℕ) → 0 < p → p < 2 ^ 64 → lowest_of 3 p ≤ 40
lowest_word p h l = let s : p < 3 ^ 41 = omega arith in omega (arith, of_lt 3 (omega arith) 41 p h s)

-- reading the positions of p: none, the first, a later one
pub at_none : (k : ℕ) → position_at (positions 3 0) k ≡ None
unfolding position_at
at_none k = ap (λ (ps : List ℕ). position_at ps k) (positions_none 3 (omega arith))

pub at_first : (p : ℕ) → 0 < p → position_at (positions 3 p) 0 ≡ Some (lowest_of 3 p)
unfolding position_at
at_first p h = ap (λ (ps : List ℕ). position_at ps 0) (positions_next 3 (omega arith) p h)

pub at_later : (p k : ℕ) → 0 < p → 0 < k → position_at (positions 3 p) k ≡ position_at (positions 3 (p - 3 ^ lowest_of 3 p)) (k - 1)
unfolding position_at
at_later p zero h l = absurd (omega arith)
at_later p (suc k) h l =
    ap (λ (ps : List ℕ). position_at ps (suc k)) (positions_next 3 (omega arith) p h) ∙ ap (position_at (positions 3 (p - 3 ^ lowest_of 3 p))) (less k)
  where
    less : (k : ℕ) → k ≡ suc k - 1
    less k = omega arith

-- what `position_at` says of a list: its entry, and its end
pub at_in : (ps : List ℕ) (k : ℕ) → k < length ps → position_at ps k ≡ Some (get_or ps k 0)
unfolding position_at
at_in [] k h = absurd (omega arith)
at_in (l ∷ ls) zero h = refl
at_in (l ∷ ls) (suc k) h = at_in ls k (omega arith)

pub at_end : (ps : List ℕ) (k : ℕ) → length ps ≤ k → position_at ps k ≡ None
unfolding position_at
at_end [] k h = refl
at_end (l ∷ ls) zero h = absurd (omega arith)
at_end (l ∷ ls) (suc k) h = at_end ls k (omega arith)

-- the power that the code takes off
pub moved : (p l w : ℕ) → 0 < p → p < 2 ^ 64 → l ≡ lowest_of 3 p → (l ≤ 40 → w ≡ 3 ^ l) → w ≡ 3 ^ lowest_of 3 p
moved p l w h b e f = f (omega (arith, lowest_word p h b)) ∙ ap (λ (x : ℕ). 3 ^ x) e

-- what `Splits` says is complete: there is one such pair
pub split_same : (p : ℕ) (r s : Parts) → Splits p r → Splits p s → r ≡ s
split_same p r s a b =
    let e : r.position ≡ s.position = a.position ∙ sym b.position in
    let w : 3 ^ s.position * r.rest ≡ 3 ^ s.position * s.rest = ap (λ (k : ℕ). 3 ^ k * r.rest) (sym e) ∙ sym a.whole ∙ b.whole in
    ap₂ (λ (i k : ℕ). record { position = i; rest = k }) e (eq_of_mul-eq-mul_left (3 ^ s.position) (one-le-pow s.position 3 (omega arith)) r.rest s.rest w)

-- and what `power` promises is complete
pub power_same : (k r s : ℕ) → (k ≤ 40 → r ≡ 3 ^ k) × (40 < k → r ≡ 0) → (k ≤ 40 → s ≡ 3 ^ k) × (40 < k → s ≡ 0) → r ≡ s
power_same k r s a b = by_cases (dec_lt 40 k) (λ h. a.1 h ∙ sym (b.1 h)) (λ h. let l : k ≤ 40 = omega arith in a.0 l ∙ sym (b.0 l))

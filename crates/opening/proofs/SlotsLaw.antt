-- Slots filled from the front: those below b hold the changes, the others are zero.
use mathlib.Core.Path.{◌≡◌, refl, sym, ap, ◌∙◌}
use mathlib.Core.Logic.{by_cases}
use mathlib.Core.List.{List}
use Prim.Native.Nat.{ℕ, zero, suc, ◌+◌, ◌-◌, ◌*◌, ◌^◌, ◌≤◌, ◌<◌}
use native.Mathlib.Nat.{one-le-pow, pow-suc}
use native.Mathlib.Numerals.{add-one}
use native.Mathlib.Decide.{ℕ_discrete}
use native.Mathlib.Omega.{arith}
use lib.ListN.{length, get_or, set, replicate, length-set}
use lib.Seq.{get_or-set_same, get_or-set_other}
use Rattle.trits.specs.declared.Vector.{Vector}
use Rattle.trits.specs.Trit.{Holds, none}
use Rattle.positions.specs.Positions.{latest}
use Rattle.gray.specs.Numbers.{point_digit}
use Rattle.polynomials.specs.Poly.{diff}
use Rattle.tables.specs.Words.{Table, poly_at}
use Rattle.opening.specs.Parts.{Slots}

pub record Filled (n : ℕ) (c : List ℕ) (q b : ℕ) (s : List Vector) : Type 0 where
  pub long : length s ≡ 20
  pub used : (m : ℕ) → Table n m c → (k : ℕ) → k < b → Holds m (λ e. diff (poly_at n c e) n k (point_digit 3 (latest 3 k q - 1))) (get_or s k none)
  pub unused : (k : ℕ) → b ≤ k → get_or s k none ≡ none

-- a list of equal vectors has them everywhere
pub all_none : (k i : ℕ) → get_or (replicate k none) i none ≡ none
all_none zero i = refl
all_none (suc k) zero = refl
all_none (suc k) (suc i) = all_none k i

module _ (n : ℕ) (c : List ℕ) (q : ℕ) where
  pub filled_none : Filled n c q 0 (replicate 20 none)
  filled_none = record { long = refl; used = λ m w k h. absurd (omega arith); unused = λ k h. all_none 20 k }

  pub filled_next : (b : ℕ) (s : List Vector) (v : Vector) → b < 20
      → ((m : ℕ) → Table n m c → Holds m (λ e. diff (poly_at n c e) n b (point_digit 3 (latest 3 b q - 1))) v)
      → Filled n c q b s → Filled n c q (b + 1) (set s b v)
  filled_next b s v l h f =
      let i : b < length s = omega (arith, f.long) in
      record {
        long = simp length-set f.long;
        used = λ m w k g. by_cases (ℕ_discrete k b)
            (λ (e : k ≡ b). rw (e, get_or-set_same s b v none i) (h m w))
            (λ d. rw (get_or-set_other s b k v none d) (f.used m w k (omega arith)));
        unused = λ k g. get_or-set_other s b k v none (λ e. omega arith) ∙ f.unused k (omega arith);
      }

  pub filled_whole : (b : ℕ) (s : List Vector) → b ≡ n → Filled n c q b s → Slots n c q s
  filled_whole b s e f =
      record { long = f.long; used = λ m w k g. f.used m w k (omega arith); unused = λ k g. f.unused k (omega arith) }

-- powers of three
pub power_pos : (b : ℕ) → 0 < 3 ^ b
power_pos b = one-le-pow b 3 (omega arith)

pub power_next : (b : ℕ) → 3 ^ b * 3 ≡ 3 ^ (b + 1)
power_next b = sym (pow-suc 3 b) ∙ ap (λ (x : ℕ). 3 ^ x) (sym (add-one b))

-- Second slots filled in the order of the pairs.
use mathlib.Core.Path.{◌≡◌, refl, ap₂, ◌∙◌}
use mathlib.Core.Logic.{by_cases}
use mathlib.Core.List.{List, [], ◌∷◌}
use Prim.Native.Nat.{ℕ, zero, suc, ◌+◌, ◌*◌, ◌≤◌, ◌<◌}
use native.Mathlib.Decide.{ℕ_discrete}
use native.Mathlib.Omega.{arith}
use lib.ListN.{length, get_or, replicate}
use Rattle.trits.specs.declared.Vector.{Vector}
use Rattle.trits.specs.Trit.{Holds}
use Rattle.tables.specs.Words.{entry, put_at}
use Rattle.tables.proofs.WriteLaw.{length_put, entry_put, entry_other}
use Rattle.held.specs.Held.{held, along}
use Rattle.cubics.specs.Cubic.{cubic_of}
use Rattle.cubics.specs.Whole.{back_cubic}
use Rattle.cubic_tables.specs.Order.{seat_of}
use Rattle.cubic_tables.specs.Words.{CubicTable, cubic_at}
use Rattle.cubic_tables.proofs.PairLaw.{pair_lt, seat_apart}
use Rattle.seconds.specs.Seconds.{Seconds}
use Rattle.seconds.specs.Parts.{Filled}

zeros : (k i : ℕ) → ◌≡◌ {A = ℕ} (get_or (replicate k 0) i 0) 0
zeros zero i = refl
zeros (suc k) zero = refl
zeros (suc k) (suc i) = zeros k i

module _ (n : ℕ) (t : List ℕ) (q : ℕ) where
  pub filled_none : Filled n t q 0 0 (replicate 420 0)
  unfolding entry
  filled_none = record {
    long = refl;
    rows = λ m w i j l h g. absurd (omega arith);
    row = λ m w j h l. absurd (omega arith);
    rest = λ i j h l a b. ap₂ (λ (x y : ℕ). record { high = x; low = y }) (zeros 420 (2 * seat_of i j)) (zeros 420 (2 * seat_of i j + 1));
  }

  pub filled_next : (b c : ℕ) (s : List ℕ) (v : Vector) → b ≤ c → c < n → n ≤ 20
      → ((m : ℕ) → CubicTable n m t → Holds m (λ e. held 3 (along 3 (cubic_of (back_cubic n (cubic_at n t e)) n)) (b ∷ c ∷ []) q) v)
      → Filled n t q b c s → Filled n t q b (c + 1) (put_at s (seat_of b c) v)
  filled_next b c s v h l small w f =
      let room : 2 * seat_of b c + 1 < length s = omega (arith, f.long, (pair_lt 20 b c (omega arith) h (omega arith)).1) in
      record {
        long = length_put s (seat_of b c) v ∙ f.long;
        rows = λ m g i j k o p. rw (entry_other s (seat_of b c) v (seat_of i j) (λ e. let z = seat_apart i j b c o (omega arith) h (omega arith) e in omega arith)) (f.rows m g i j k o p);
        row = λ m g j k o. by_cases (ℕ_discrete j c)
            (λ (e : j ≡ c). rw (e, entry_put s (seat_of b c) v room) (w m g))
            (λ d. rw (entry_other s (seat_of b c) v (seat_of b j) (λ e. d (seat_apart b j b c k (omega arith) h (omega arith) e).1)) (f.row m g j k (omega arith)));
        rest = λ i j k o x y.
            entry_other s (seat_of b c) v (seat_of i j) (λ e. let z = seat_apart i j b c k o h (omega arith) e in let u = y z.0 in omega arith)
            ∙ f.rest i j k o x (λ e. let u = y e in omega arith);
      }

  pub filled_row : (b : ℕ) (s : List ℕ) → Filled n t q b n s → Filled n t q (b + 1) (b + 1) s
  filled_row b s f = record {
    long = f.long;
    rows = λ m w i j l h g. by_cases (ℕ_discrete i b) (λ (e : i ≡ b). rw e (f.row m w j (omega arith) g)) (λ d. f.rows m w i j (omega arith) h g);
    row = λ m w j h l. absurd (omega arith);
    rest = λ i j h l x y. f.rest i j h l (λ k. x (omega arith)) (λ e. x (omega arith));
  }

  pub filled_whole : (s : List ℕ) → Filled n t q n n s → Seconds n t q s
  filled_whole s f = record {
    long = f.long;
    used = λ m w b c h l. f.rows m w b c (omega arith) h l;
    unused = λ b c h l k. f.rest b c h k (λ i. l) (λ e. l);
  }
